use Rattle.std.proofs.Common.{◌+◌, ◌++◌, length, reverse}
use Rattle.ve_pres.specs.Terms.{pairs}
use Rattle.ve_pres.proofs.Merging.{IsMerging}
use Rattle.ve_pres.proofs.merge.push_merged.Given as goal

abbrev pub invariant-loop-a : goal.invariant-loop-a
invariant-loop-a l =
    IsMerging l.field (pairs l.sum.items) (pairs (reverse l.left.items)) (pairs (reverse l.right.items))
    (pairs l.fn.sum.items ++ (pairs l.fn.left.items ++ pairs l.fn.right.items))

abbrev pub decreases-loop-a : goal.decreases-loop-a
decreases-loop-a l = length l.left.items + length l.right.items
