use Rattle.std.proofs.Common.{refl}
use Rattle.std.proofs.lemmas.Result.{err_from_is_err_and}
use Rattle.ve_value.proofs.WorkSteps.{inverting_never, name_inverted, symbol_inverted, inverse_stands, inverse_fails}
use Rattle.ve_value.proofs.value.invert.Goals as goal

pub returns-in_err-power-in-Number : goal.returns-in_err-power-in-Number
returns-in_err-power-in-Number c =
    let failed = err_from_is_err_and c.from_residual.result c.from_residual.ensures.1 in
    let n = rw c.in-Number.is at c.requires.written in
    rw (c.in-Number.is, failed.1, failed.2) (inverse_fails _ _ _ _ _ _ refl n c.in_err-power-in-Number.ensures)

pub unreachable-requires : goal.unreachable-requires
unreachable-requires c = inverting_never _ _ _ _ refl (name_inverted _) (rw c.in-Name.is at c.requires.goes_on)

pub unreachable-requires-in-Symbol : goal.unreachable-requires-in-Symbol
unreachable-requires-in-Symbol c = inverting_never _ _ _ _ refl (symbol_inverted _) (rw c.in-Symbol.is at c.requires.goes_on)

pub returns : goal.returns
returns c =
    let n = rw c.in-Number.is at c.requires.written in
    rw c.in-Number.is (inverse_stands _ _ _ _ _ _ _ refl n c.in_ok-power-in-Number.ensures c.standing.ensures)
