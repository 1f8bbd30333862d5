use Rattle.std.proofs.Common.{◌+◌, ◌-◌, ◌≤◌, ◌++◌, [], drop, length}
use Rattle.ve_theory.specs.Combinations.{scaled}
use Rattle.ve_vec.specs.Terms.{pairs}
use Rattle.ve_vec.proofs.Merging.{Merging}
use Rattle.ve_vec.proofs.merge.append_scaled.Given as goal

abbrev pub invariant-loop-term : goal.invariant-loop-term
invariant-loop-term l =
    (length l.sum.items + (length l.right - l.term-index) ≤ l.sum.capacity)
    × Merging l.field l.by (pairs l.sum.items) [] (pairs (drop l.term-index l.right)) (pairs l.fn.sum.items ++ scaled l.by (pairs l.right))
