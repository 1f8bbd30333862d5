use Rattle.std.proofs.Common.{Ok, Err, refl}
use Rattle.std.proofs.lemmas.Result.{err_from_is_err_and}
use Rattle.ve_value.proofs.Joining.{times_gives}
use Rattle.ve_value.proofs.factor.Pending.times.Goals as goal

pub returns-in_err-product : goal.returns-in_err-product
returns-in_err-product c = λ frame e h k.
    let failed = err_from_is_err_and c.from_residual.result c.from_residual.ensures.1 in
    rw (failed.1, failed.2) (times_gives _ _ _ _ _ (Err _) h.product k c.in_err-product.ensures)

pub returns : goal.returns
returns c = λ frame e h k.
    let worth = times_gives _ _ _ _ _ (Ok c.in_ok-product.product) h.product k c.in_ok-product.ensures in
    record { sum = h.sum; product = (_, worth, λ f. refl) }
