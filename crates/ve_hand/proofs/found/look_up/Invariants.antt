use Rattle.std.proofs.Common.{◌≡◌, ℕ, List, map, take}
use Rattle.std.specs.Prelude.{slice_get}
use Rattle.ve_machine.specs.Seats.{opened_state}
use Rattle.ve_machine.specs.HandSteps.{found_for}
use Rattle.ve_hand.specs.Views.{found_of}
use Rattle.ve_hand.proofs.found.look_up.Given as goal

abbrev pub invariant-loop-at : goal.invariant-loop-at
invariant-loop-at l = (left : List ℕ) → slice_get left 0 ≡ l.letter → map found_of l.founds.items ≡ found_for (opened_state l.table 0) left (take l.at l.vector)
