use Rattle.std.proofs.Common.{◌<◌, map, nat_eq, take}
use Rattle.ve_theory.specs.Combinations.{IsReducedOf}
use Rattle.ve_machine.specs.HandSteps.{multiplied_by}
use Rattle.ve_hand.specs.Views.{found_of}
use Rattle.ve_hand.proofs.sums.multiplied_sum.Given as goal

abbrev pub invariant-loop-at : goal.invariant-loop-at
invariant-loop-at l = IsReducedOf ◌<◌ nat_eq l.field l.sum (multiplied_by (map found_of l.founds) (take l.at l.vector))
