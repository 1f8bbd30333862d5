use Rattle.std.proofs.Common.{◌≡◌}
use Rattle.std.specs.Prelude.{replicate}
use Rattle.ve_machine.specs.Seats.{empty_desk}
use Rattle.ve_core.proofs.state.empty_desks.Given as goal

abbrev pub invariant-loop-seat : goal.invariant-loop-seat
invariant-loop-seat l = l.desks.items ≡ replicate l._seat empty_desk
