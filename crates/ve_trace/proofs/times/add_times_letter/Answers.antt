use Rattle.std.proofs.Common.{sym, ◌∙◌}
use Rattle.ve_trace.proofs.Rows.{has_row, has_rows, is_residue, one_added}
use Rattle.ve_trace.proofs.Adding.{added, itself}
use Rattle.ve_trace.proofs.times.add_times_letter.Goals as goal

pub mul-requires-clause-first : goal.mul-requires-clause-first
mul-requires-clause-first g c = is_residue _ _ _ _ _ c.requires.vector c.term-term.ensures

pub row_at-requires : goal.row_at-requires
row_at-requires g c =
    has_row (g.R.Rows.rows c.args.rows.now) c.args.vector.now c.args.letter _ _ _ (has_rows _ (g.R.Rows.rows c.args.rows.now) c.args.vector.now c.args.letter c.requires.vector c.requires.found)
    c.term-term.ensures

pub returns-then-len-eq1 : goal.returns-then-len-eq1
returns-then-len-eq1 g c =
    one_added _ _ _ (g.R.Rows.rows c.args.rows.now) c.args.sum.now c.args.vector.now _ _ c.args.letter _ _ (sym c.len.ensures ∙ c.if-len-eq1.true) c.term-term.ensures c.row_at.ensures
    c.mul.ensures.product c.in_ok-add_scaled.ensures.ok

pub returns : goal.returns
returns g c = added c.args.by (itself c.requires.sum) c.in_ok-product.ensures c.in_ok-add_moved.ensures
