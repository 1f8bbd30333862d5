use Rattle.std.proofs.Common.{arith}
use Rattle.ve_trace.proofs.Rows.{has_row, is_residue, sum_none, sum_more}
use Rattle.ve_trace.proofs.sums.sum_in_order.Goals as goal

pub loop-at-init : goal.loop-at-init
loop-at-init g c =
    sum_none _ (g.R.Rows.rows c.args.rows.now) c.args.vector.now _ c.args.letter c.args.from c.clear.ensures.value (c.clear.ensures.fits _)

pub row_at-requires : goal.row_at-requires
row_at-requires g c =
    has_row (g.R.Rows.rows c.args.rows.now) c.args.vector.now c.args.letter _ _ _ c.requires.found c.term-term.ensures

pub add_row-requires-clause-residue : goal.add_row-requires-clause-residue
add_row-requires-clause-residue g c = is_residue _ _ _ _ _ c.requires.vector c.term-term.ensures

pub loop-at-preserved : goal.loop-at-preserved
loop-at-preserved g c =
    sum_more _ (g.R.Rows.rows c.args.rows.now) c.args.vector.now _ _ _ c.args.letter c.args.from _ _ _ (omega arith) c.term-term.ensures c.row_at.ensures c.requires.rows
    c.loop-at.invariant c.in_ok-add_row.ensures
