use Rattle.ve_vec.specs.Tracing.{vector_of_word}
use Rattle.ve_trace.proofs.Terms.{IsSumTo}
use Rattle.ve_trace.proofs.trace.trace_sub.Given as goal

abbrev pub invariant-loop-at : goal.invariant-loop-at
invariant-loop-at g l = IsSumTo l.field (vector_of_word (g.R.Rows.rows l.rows) l.images.items) l.relation l.at l.sum
