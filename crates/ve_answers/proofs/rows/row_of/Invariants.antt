use Rattle.std.proofs.Common.{length}
use Rattle.ve_answers.proofs.RowEntries.{IsRowBehind}
use Rattle.ve_answers.proofs.rows.row_of.Given as goal

-- the row has the entries behind those that are left
abbrev pub invariant-loop-entry : goal.invariant-loop-entry
invariant-loop-entry l = IsRowBehind l.field l.entries l.left l.row

abbrev pub decreases-loop-entry : goal.decreases-loop-entry
decreases-loop-entry l = length l.left
