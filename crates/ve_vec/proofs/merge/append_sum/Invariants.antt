use Rattle.std.proofs.Common.{◌+◌, ◌++◌, length}
use Rattle.ve_theory.specs.Combinations.{scaled}
use Rattle.ve_vec.specs.Terms.{pairs}
use Rattle.ve_vec.proofs.Merging.{Merging}
use Rattle.ve_vec.proofs.merge.append_sum.Given as goal

abbrev pub invariant-loop-a : goal.invariant-loop-a
invariant-loop-a l =
    Merging l.field l.by (pairs l.sum.items) (pairs l.left) (pairs l.right) (pairs l.fn.sum.items ++ (pairs l.fn.left ++ scaled l.by (pairs l.fn.right)))

abbrev pub decreases-loop-a : goal.decreases-loop-a
decreases-loop-a l = length l.left + length l.right
