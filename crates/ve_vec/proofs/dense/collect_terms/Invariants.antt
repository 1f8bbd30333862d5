use Rattle.ve_vec.specs.Terms.{pairs}
use Rattle.ve_vec.proofs.Spanning.{Collecting}
use Rattle.ve_vec.proofs.dense.collect_terms.Given as goal

abbrev pub invariant-loop-at : goal.invariant-loop-at
invariant-loop-at l = Collecting l.field l.low l.numbers l.at (pairs l.terms.items)
