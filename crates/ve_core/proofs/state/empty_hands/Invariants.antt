use Rattle.std.proofs.Common.{◌≡◌}
use Rattle.std.specs.Prelude.{replicate}
use Rattle.ve_machine.specs.Hands.{empty_hand}
use Rattle.ve_core.proofs.state.empty_hands.Given as goal

abbrev pub invariant-loop-seat : goal.invariant-loop-seat
invariant-loop-seat l = l.hands.items ≡ replicate l._seat empty_hand
