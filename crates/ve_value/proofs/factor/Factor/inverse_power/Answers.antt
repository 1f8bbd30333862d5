use Rattle.std.proofs.Common.{ℕ, ◌<◌, ◌≤◌, arith, Ok, Err, subst}
use Rattle.std.proofs.lemmas.Result.{err_from_is_err_and}
use Rattle.ve_theory.specs.Combinations.{IsReduced}
use Rattle.ve_theory.specs.Words.{ShortlexLetters}
use Rattle.ve_theory.specs.Elements.{AlgebraElement}
use Rattle.ve_formats.specs.Values.{HasPower, of_large_inverse_power, of_inverse_power, of_no_inverse}
use Rattle.ve_value.specs.Faults.{Tells, of_pres_fault}
use Rattle.ve_value.proofs.Joining.{tells_more}
use Rattle.ve_value.proofs.Powers.{power_refused, power_given}
use Rattle.ve_value.proofs.Letters.{has_letter, has_inverse, has_no_inverse, not_a_letter}
use Rattle.ve_value.proofs.factor.Factor.inverse_power.Goals as goal

pub returns-then-exponent-gt-MOST_EXPONENT : goal.returns-then-exponent-gt-MOST_EXPONENT
returns-then-exponent-gt-MOST_EXPONENT c = λ e h. of_large_inverse_power h.worth.value (omega arith)

pub returns-in_default : goal.returns-in_default
returns-in_default c = λ e h. of_no_inverse {k = c.args.exponent} h.worth.value (omega arith) (not_a_letter _ e _ h c.in_default.is)

pub inverse_of-requires : goal.inverse_of-requires
inverse_of-requires c = has_letter _ _ _ _ c.requires.1 c.in-Some.is

pub returns-in_default-inverse_of : goal.returns-in_default-inverse_of
returns-in_default-inverse_of c = λ e h.
    of_no_inverse {k = c.args.exponent} h.worth.value (omega arith) (has_no_inverse _ e _ _ h c.in-Some.is c.in_default-inverse_of.ensures.inverse)

pub returns-in_err-value : goal.returns-in_err-value
returns-in_err-value c = λ e h.
    let failed = err_from_is_err_and c.from_residual-in_err-value.result c.from_residual-in_err-value.ensures.1 in
    let inverse = has_inverse _ e _ _ _ h c.in-Some.is c.in-Some-inverse_of.ensures.inverse in
    let refused =
    subst (λ (v : AlgebraElement). Tells (λ cause. HasPower c.args.presentation.now.presentation.prime v c.args.exponent (Err cause)) (of_pres_fault c.in_err-value.field-0.0)) c.in_ok-base.ensures.letter
    (subst (λ (p : ℕ). Tells (λ cause. HasPower p c.in_ok-base.base c.args.exponent (Err cause)) (of_pres_fault c.in_err-value.field-0.0)) c.field-field.ensures.field
    (power_refused _ _ _ _ c.in_err-value.ensures.limit)) in
    rw (failed.1, failed.2) (tells_more _ _ (λ cause many. of_inverse_power inverse (omega arith) many) _ refused)

pub returns : goal.returns
returns c = λ e h.
    let low : c.args.exponent ≤ 1000 = omega arith in
    let large : 1 < c.field-field.result.now = c.has_prime.ensures.above_one in
    let inverse = has_inverse _ e _ _ _ h c.in-Some.is c.in-Some-inverse_of.ensures.inverse in
    let given =
    subst (λ (v : AlgebraElement). HasPower c.args.presentation.now.presentation.prime v c.args.exponent (Ok c.in_ok-value.value)) c.in_ok-base.ensures.letter
    (subst (λ (p : ℕ). HasPower p c.in_ok-base.base c.args.exponent (Ok c.in_ok-value.value)) c.field-field.ensures.field
    (power_given c.reduced_lists_are_unique.ensures _ large _ _ _ c.in_ok-value.ensures.limit c.in_ok-value.ensures.power)) in
    let reduced = subst (λ (p : ℕ). IsReduced ShortlexLetters p c.in_ok-value.value) c.field-field.ensures.field c.in_ok-value.ensures.power.reduced in
    rw c.of_value.ensures (record {
      worth = record { value = of_inverse_power {k = c.args.exponent} inverse low given; reduced = reduced };
      letter = λ letter. ((λ e. absurd (cc)), (λ l. absurd (let is = l.is_name in cc)));
    })
