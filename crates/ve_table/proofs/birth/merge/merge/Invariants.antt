use Rattle.std.proofs.Common.{◌+◌, ◌++◌, List, length}
use Rattle.std.specs.Prelude.{Contains}
use Rattle.ve_table.specs.declared.birth.Birth.{Birth}
use Rattle.ve_table.specs.Births.{CanCompare, Merges}
use Rattle.ve_table.proofs.birth.merge.merge.Given as goal

abbrev pub invariant-loop-a : goal.invariant-loop-a
invariant-loop-a l = record {
  comparable : (a b : Birth) → Contains l.first a → Contains l.second b → CanCompare l.entries a b;
  merges : (rest : List Birth) → Merges l.entries l.first l.second rest → Merges l.entries l.left l.right (l.births.items ++ rest);
}

abbrev pub decreases-loop-a : goal.decreases-loop-a
decreases-loop-a l = length l.first + length l.second
