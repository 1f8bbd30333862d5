use Rattle.ve_trace.proofs.Tracings.{IsOnTheWayAt}
use Rattle.ve_trace.proofs.times.times_letters.Given as goal

abbrev pub invariant-loop-letter : goal.invariant-loop-letter
invariant-loop-letter g l = IsOnTheWayAt l.field (g.R.Rows.rows l.rows) l.start l.letters l.vector l.rest l.letter-index
