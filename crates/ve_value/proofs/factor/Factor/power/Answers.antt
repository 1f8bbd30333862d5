use Rattle.std.proofs.Common.{ℕ, ◌<◌, ◌≤◌, arith, Ok, Err, subst}
use Rattle.std.proofs.lemmas.Result.{err_from_is_err_and}
use Rattle.ve_formats.specs.Values.{HasPower, of_large_power, of_power}
use Rattle.ve_theory.specs.Combinations.{IsReduced}
use Rattle.ve_theory.specs.Words.{ShortlexLetters}
use Rattle.ve_value.specs.Faults.{Tells, of_pres_fault}
use Rattle.ve_value.proofs.Joining.{tells_more}
use Rattle.ve_value.proofs.Powers.{power_refused, power_given}
use Rattle.ve_value.proofs.factor.Factor.power.Goals as goal

pub returns-then-exponent-gt-MOST_EXPONENT : goal.returns-then-exponent-gt-MOST_EXPONENT
returns-then-exponent-gt-MOST_EXPONENT c = λ e h. of_large_power h.worth.value (omega arith)

pub returns-in_err-value : goal.returns-in_err-value
returns-in_err-value c = λ e h.
    let failed = err_from_is_err_and c.from_residual.result c.from_residual.ensures.1 in
    let refused =
    subst (λ (p : ℕ). Tells (λ cause. HasPower p c.args.self.value c.args.exponent (Err cause)) (of_pres_fault c.in_err-value.field-0.0)) c.field-field.ensures.field
    (power_refused _ _ _ _ c.in_err-value.ensures.limit) in
    rw (failed.1, failed.2) (tells_more _ _ (λ cause many. of_power h.worth.value (omega arith) many) _ refused)

pub returns : goal.returns
returns c = λ e h.
    let low : c.args.exponent ≤ 1000 = omega arith in
    let large : 1 < c.field-field.result.now = c.has_prime.ensures.above_one in
    let given =
    subst (λ (p : ℕ). HasPower p c.args.self.value c.args.exponent (Ok c.in_ok-value.value)) c.field-field.ensures.field
    (power_given c.reduced_lists_are_unique.ensures _ large _ _ _ c.in_ok-value.ensures.limit c.in_ok-value.ensures.power) in
    let reduced = subst (λ (p : ℕ). IsReduced ShortlexLetters p c.in_ok-value.value) c.field-field.ensures.field c.in_ok-value.ensures.power.reduced in
    rw c.of_value.ensures (record {
      worth = record { value = of_power {k = c.args.exponent} h.worth.value low given; reduced = reduced };
      letter = λ letter. ((λ e. absurd (cc)), (λ l. absurd (let is = l.is_name in cc)));
    })
