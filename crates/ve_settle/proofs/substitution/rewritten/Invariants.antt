use Rattle.std.proofs.Common.{◌<◌, ◌++◌, take}
use Rattle.ve_theory.specs.Combinations.{extended, IsReduced}
use Rattle.ve_theory.proofs.Sums.{SameWeights}
use Rattle.ve_table.specs.Tables.{presented}
use Rattle.ve_machine.specs.Forwards.{stand_in}
use Rattle.ve_settle.proofs.substitution.rewritten.Given as goal

-- the live ids so far, and the forwards of the dead ones
abbrev pub invariant-loop-at : goal.invariant-loop-at
invariant-loop-at l = record {
  kept : IsReduced ◌<◌ (presented l.table).prime l.kept;
  brought : IsReduced ◌<◌ (presented l.table).prime l.brought;
  sum : SameWeights (presented l.table).prime (l.kept ++ l.brought) (extended (stand_in l.table.forwards) (take l.at l.vector));
}
