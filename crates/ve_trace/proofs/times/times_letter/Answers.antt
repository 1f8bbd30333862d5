use Rattle.std.proofs.Common.{sym, ◌∙◌}
use Rattle.std.proofs.lemmas.Result.{IfOk-weaker}
use Rattle.ve_trace.proofs.Rows.{has_row, has_rows, is_residue, sum_one, sum_whole}
use Rattle.ve_trace.proofs.times.times_letter.Goals as goal

pub row_at-requires : goal.row_at-requires
row_at-requires g c =
    has_row (g.R.Rows.rows c.args.rows.now) c.args.vector.now c.args.letter _ _ _ (has_rows _ (g.R.Rows.rows c.args.rows.now) c.args.vector.now c.args.letter c.requires.vector c.requires.found)
    c.term-term.ensures

pub multiple-requires-clause-residue : goal.multiple-requires-clause-residue
multiple-requires-clause-residue g c = is_residue _ _ _ _ _ c.requires.vector c.term-term.ensures

pub returns-then-len-eq1 : goal.returns-then-len-eq1
returns-then-len-eq1 g c =
    IfOk-weaker c.multiple.result _ _
    (λ v. sum_one _ (g.R.Rows.rows c.args.rows.now) c.args.vector.now _ v c.args.letter _ _ (sym c.len.ensures ∙ c.if-len-eq1.true) c.term-term.ensures c.row_at.ensures)
    c.multiple.ensures

pub returns : goal.returns
returns g c =
    IfOk-weaker c.sum_of_rows.result _ _
    (λ v. sum_whole _ (g.R.Rows.rows c.args.rows.now) c.args.vector.now v c.args.letter _ c.len-2.ensures)
    c.sum_of_rows.ensures

pub sum_of_rows-requires-clause-found : goal.sum_of_rows-requires-clause-found
sum_of_rows-requires-clause-found g c = has_rows c.args.field.now (g.R.Rows.rows c.args.rows.now) c.args.vector.now c.args.letter c.requires.vector c.requires.found
