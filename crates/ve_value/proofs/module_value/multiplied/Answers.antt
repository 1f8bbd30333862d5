use Rattle.std.proofs.Common.{ℕ, Ok, Err, sym, subst}
use Rattle.std.proofs.lemmas.Result.{err_from_is_err_and}
use Rattle.ve_theory.specs.Combinations.{IsReduced}
use Rattle.ve_theory.specs.Words.{ShortlexLetters}
use Rattle.ve_formats.specs.ModuleValues.{ModuleMultiplies, of_product, of_product_right}
use Rattle.ve_value.specs.Faults.{Tells, of_pres_fault}
use Rattle.ve_value.proofs.Joining.{tells_more}
use Rattle.ve_value.proofs.Evaluating.{some_read}
use Rattle.ve_value.proofs.ModuleJoining.{module_times_gives}
use Rattle.ve_value.proofs.ModuleLimits.{module_multiplies, module_product_refused}
use Rattle.ve_value.proofs.module_value.multiplied.Goals as goal

pub returns-in_err-factor : goal.returns-in_err-factor
returns-in_err-factor c = λ m r e worth work is.
    let failed = err_from_is_err_and c.from_residual.result c.from_residual.ensures.1 in
    rw (failed.1, failed.2) (tells_more _ _ (λ cause h. of_product_right worth.value h) _ (c.in_err-factor.ensures r e work is))

pub times-requires-clause-right : goal.times-requires-clause-right
times-requires-clause-right c =
    let some = some_read _ c.requires.4 in
    subst (λ (p : ℕ). IsReduced ShortlexLetters p c.in_ok-factor.factor) (sym c.field.ensures.field) (c.in_ok-factor.ensures c.requires.1 some.0 c.requires.3 some.1).reduced

pub returns-in_err-times : goal.returns-in_err-times
returns-in_err-times c = λ m r e worth work is.
    let failed = err_from_is_err_and c.from_residual-in_err-times.result c.from_residual-in_err-times.ensures.1 in
    let refused =
    subst (λ (p : ℕ). Tells (λ cause. ModuleMultiplies p c.args.value c.in_ok-factor.factor (Err cause)) (of_pres_fault c.in_err-times.field-0.0)) c.field.ensures.field
    (module_product_refused _ _ _ _ c.in_err-times.ensures.limit) in
    rw (failed.1, failed.2) (tells_more _ _ (λ cause many. of_product worth.value (c.in_ok-factor.ensures r e work is).value many) _ refused)

pub returns : goal.returns
returns c = λ m r e worth work is.
    let given =
    subst (λ (p : ℕ). ModuleMultiplies p c.args.value c.in_ok-factor.factor (Ok c.in_ok-times.field-0)) c.field.ensures.field
    (module_multiplies _ _ _ _ c.in_ok-times.ensures.product c.in_ok-times.ensures.limit) in
    module_times_gives _ m e _ _ _ worth (c.in_ok-factor.ensures r e work is) given
