use Rattle.std.proofs.Common.{◌≡◌, ◌<◌}
use Rattle.ve_theory.specs.Combinations.{IsReduced}
use Rattle.ve_vec.specs.Terms.{pairs}
use Rattle.ve_vec.proofs.Scaling.{product_of, written_up_to}
use Rattle.ve_vec.proofs.merge.scale_terms.Given as goal

abbrev pub invariant-loop-term : goal.invariant-loop-term
invariant-loop-term l =
    (IsReduced ◌<◌ l.field (pairs l.term-items))
    × (l.term-items ≡ written_up_to (product_of l.field l.by) l.term-index l.fn.terms)
