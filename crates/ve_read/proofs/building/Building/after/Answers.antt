use Rattle.std.proofs.lemmas.Result.{err_from_is_err_and}
use Rattle.ve_read.proofs.building.Building.after.Goals as goal

pub returns-in_err-done : goal.returns-in_err-done
returns-in_err-done c = λ draft line taken.
    let failed = err_from_is_err_and c.from_residual.result c.from_residual.ensures.1 in
    let refused = rw c.in_err-done.was at taken in
    rw (failed.1, failed.2) refused

pub returns : goal.returns
returns c = λ draft line taken. rw c.in_ok-done.was at taken
