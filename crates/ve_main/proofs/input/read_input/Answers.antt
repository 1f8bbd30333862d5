use Rattle.std.proofs.Common.{arith}
use Rattle.std.proofs.lemmas.List.{length-take}
use Rattle.std.proofs.lemmas.Result.{err_from_is_err_and}
use Rattle.ve_main.proofs.Reading.{StopsReading-after}
use Rattle.ve_main.proofs.input.read_input.Goals as goal

pub returns-in_err-take_piece-clause-stopped : goal.returns-in_err-take_piece-clause-stopped
returns-in_err-take_piece-clause-stopped g c =
    let p = err_from_is_err_and c.from_residual-in_err-take_piece.result c.from_residual-in_err-take_piece.ensures.1 in
    rw (p.1, p.2) (StopsReading-after _ c.loop-text.invariant.gives (omega (arith, length-take c.min-room.result c.deref_mut.result.now)) _ _ c.in_err-take_piece.ensures.stopped)
