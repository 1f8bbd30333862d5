use Rattle.std.proofs.Common.{◌≡◌, nat_eq}
use Rattle.ve_theory.specs.Combinations.{Alike}
use Rattle.ve_vec.specs.Tracing.{vector_times}
use Rattle.ve_trace.specs.Parts.{part}
use Rattle.ve_trace.proofs.sums.sum_over_span.Given as goal

abbrev pub invariant-loop-at : goal.invariant-loop-at
invariant-loop-at g l =
    (l.sum.low ≡ l.spread.low) × (l.sum.high ≡ l.spread.high)
    × Alike nat_eq l.field l.sum.total (vector_times (g.R.Rows.rows l.rows) (part l.from l.at l.vector) l.letter)
