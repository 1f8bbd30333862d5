use Rattle.std.proofs.lemmas.Result.{err_from_is_err_and}
use Rattle.ve_value.proofs.Limits.{multiplies, product_refused}
use Rattle.ve_value.proofs.factor.times.Goals as goal

pub returns-in_err-mul-in-Some : goal.returns-in_err-mul-in-Some
returns-in_err-mul-in-Some c =
    let failed = err_from_is_err_and c.from_residual.result c.from_residual.ensures.1 in
    rw (c.in-Some.is, failed.1, failed.2) (product_refused _ _ _ _ c.in_err-mul-in-Some.ensures.limit)

pub returns-in_ok-mul-in-Some : goal.returns-in_ok-mul-in-Some
returns-in_ok-mul-in-Some c = rw (c.in-Some.is, ← c.field.ensures.field) (multiplies _ _ _ _ c.in_ok-mul-in-Some.ensures.product c.in_ok-mul-in-Some.ensures.limit)
