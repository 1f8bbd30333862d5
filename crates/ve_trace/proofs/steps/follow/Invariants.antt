use Rattle.ve_trace.specs.Steps.{single}
use Rattle.ve_trace.proofs.Tracings.{IsOnTheWayAt}
use Rattle.ve_trace.proofs.steps.follow.Given as goal

abbrev pub invariant-loop-at : goal.invariant-loop-at
invariant-loop-at g l = IsOnTheWayAt l.field (g.R.Rows.rows l.rows) (single l.fn.start) l.letters (single l.term) l.letters l.at
