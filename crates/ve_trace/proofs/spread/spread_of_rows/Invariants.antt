use Rattle.std.proofs.Common.{ℕ}
use Rattle.ve_vec.specs.Tracing.{AreReduced}
use Rattle.ve_trace.specs.Parts.{AreRowsBetween}
use Rattle.ve_trace.proofs.spread.spread_of_rows.Given as goal

abbrev pub invariant-loop-at : goal.invariant-loop-at
invariant-loop-at g l =
    (p : ℕ) → AreReduced p (g.R.Rows.rows l.rows) → AreRowsBetween (g.R.Rows.rows l.rows) l.vector l.letter l.from l.at l.spread.low l.spread.high
