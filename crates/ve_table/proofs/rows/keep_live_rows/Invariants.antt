use Rattle.ve_table.proofs.LiveRows.{IsSoFar}
use Rattle.ve_table.proofs.rows.keep_live_rows.Given as goal

abbrev pub invariant-loop-id : goal.invariant-loop-id
invariant-loop-id l = IsSoFar l.letters l.entries l.fn.rows.items l.rows.items l.id l.kept
