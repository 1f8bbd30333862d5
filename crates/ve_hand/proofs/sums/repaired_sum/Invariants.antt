use Rattle.std.proofs.Common.{◌<◌, ◌++◌, map, take}
use Rattle.ve_theory.specs.Combinations.{IsReduced}
use Rattle.ve_theory.proofs.Sums.{SameWeights}
use Rattle.ve_machine.specs.HandSteps.{repaired}
use Rattle.ve_hand.specs.Views.{found_of}
use Rattle.ve_hand.proofs.sums.repaired_sum.Given as goal

-- the ids that stay so far, and the forwards of the others
abbrev pub invariant-loop-at : goal.invariant-loop-at
invariant-loop-at l = record {
  kept : IsReduced ◌<◌ l.field l.kept;
  brought : IsReduced ◌<◌ l.field l.brought;
  sum : SameWeights l.field (l.kept ++ l.brought) (repaired (map found_of l.founds) (take l.at l.vector));
}
