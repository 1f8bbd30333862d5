use Rattle.std.proofs.Common.{◌+◌, ◌++◌, length}
use Rattle.ve_pres.specs.Terms.{pairs}
use Rattle.ve_pres.proofs.Merging.{IsMerging}
use Rattle.ve_pres.proofs.merge.merge.Given as goal

abbrev pub invariant-loop-a : goal.invariant-loop-a
invariant-loop-a l = IsMerging l.field (pairs l.sum.items) (pairs l.left) (pairs l.right) (pairs l.fn.left ++ pairs l.fn.right)

abbrev pub decreases-loop-a : goal.decreases-loop-a
decreases-loop-a l = length l.left + length l.right
