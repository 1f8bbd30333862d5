use Rattle.std.proofs.Common.{refl}
use Rattle.std.proofs.lemmas.Result.{err_from_is_err_and}
use Rattle.ve_value.proofs.WorkSteps.{raising_never, name_raised, power_stands, power_fails, inverts}
use Rattle.ve_value.proofs.value.raise.Goals as goal

pub returns-in_err-power-in-Number : goal.returns-in_err-power-in-Number
returns-in_err-power-in-Number c =
    let failed = err_from_is_err_and c.from_residual.result c.from_residual.ensures.1 in
    let n = rw c.in-Number.is at c.requires.written in
    rw (c.in-Number.is, failed.1, failed.2) (power_fails _ _ _ _ _ _ refl n c.in_err-power-in-Number.ensures)

pub unreachable-requires : goal.unreachable-requires
unreachable-requires c = raising_never _ _ _ _ refl (name_raised _) (rw c.in-Name.is at c.requires.goes_on)

pub returns-in_ok-power-in-Number : goal.returns-in_ok-power-in-Number
returns-in_ok-power-in-Number c =
    let n = rw c.in-Number.is at c.requires.written in
    rw c.in-Number.is (power_stands _ _ _ _ _ _ _ refl n c.in_ok-power-in-Number.ensures c.standing.ensures)

pub returns-in-Symbol : goal.returns-in-Symbol
returns-in-Symbol c = rw c.in-Symbol.is (inverts _ _ _ _ refl)
