use Rattle.ve_answers.proofs.RowSteps.{RowsSoFar}
use Rattle.ve_answers.proofs.rows.read_rows.Given as goal

-- the rows so far fill the first places
abbrev pub invariant-loop-at : goal.invariant-loop-at
invariant-loop-at l = RowsSoFar l.head l.word l.count l.initial.lines l._at l.rows.items l.lines
