use Rattle.std.proofs.lemmas.Result.{err_from_is_err_and}
use Rattle.ve_value.proofs.ModuleLimits.{module_adds_up, module_sum_refused}
use Rattle.ve_value.proofs.module_value.joined.Goals as goal

pub returns-in_err-plus-in-Some : goal.returns-in_err-plus-in-Some
returns-in_err-plus-in-Some c =
    let failed = err_from_is_err_and c.from_residual.result c.from_residual.ensures.1 in
    rw (c.in-Some.is, failed.1, failed.2) (module_sum_refused _ _ _ _ c.in_err-plus-in-Some.ensures.limit)

pub returns-in_ok-plus-in-Some : goal.returns-in_ok-plus-in-Some
returns-in_ok-plus-in-Some c = rw (c.in-Some.is, ← c.field.ensures.field) (module_adds_up _ _ _ _ c.in_ok-plus-in-Some.ensures.sum c.in_ok-plus-in-Some.ensures.limit)
