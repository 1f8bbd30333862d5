use Rattle.std.proofs.Common.{get_or}
use Rattle.ve_trace.proofs.Following.{IsResidue, only_term, no_term, next_residue, sets_out, finds_row, goes_on, stops, arrives, vanishes, coefficient_of}
use Rattle.ve_trace.proofs.steps.follow.Goals as goal

pub loop-at-init : goal.loop-at-init
loop-at-init g c = sets_out _ (g.R.Rows.rows c.args.rows.now) c.args.start c.args.letters.now c.requires.start c.requires.found

pub row_at-requires : goal.row_at-requires
row_at-requires g c = finds_row _ (g.R.Rows.rows c.args.rows.now) c.args.start c.args.letters.now c.loop-at.term c.loop-at.at c.loop-at-test.true c.loop-at.invariant

pub returns-in-empty-clause-leads : goal.returns-in-empty-clause-leads
returns-in-empty-clause-leads g c =
    vanishes _ (g.R.Rows.rows c.args.rows.now) c.args.start c.args.letters.now c.loop-at.term _ c.loop-at.at c.loop-at-test.true c.loop-at.invariant c.row_at.ensures
    (no_term c.terms.result.now _ c.in-empty.len_below c.terms.ensures)

pub mul-requires-clause-first : goal.mul-requires-clause-first
mul-requires-clause-first g c = (coefficient_of _ _ c.loop-at.invariant.reduced).below

pub mul-requires-clause-second : goal.mul-requires-clause-second
mul-requires-clause-second g c =
    (next_residue _ (g.R.Rows.rows c.args.rows.now) _ _ _ _ c.requires.rows c.row_at.ensures (only_term c.terms.result.now _ _ c.in-len1.len_at_least c.in-len1.len_below c.terms.ensures)).below

pub returns-in_default-clause-leads : goal.returns-in_default-clause-leads
returns-in_default-clause-leads g c = stops _ (g.R.Rows.rows c.args.rows.now) c.args.start c.args.letters.now c.loop-at.term c.loop-at.at c.loop-at.invariant

pub loop-at-preserved : goal.loop-at-preserved
loop-at-preserved g c =
    let row_is = only_term c.terms.result.now _ _ c.in-len1.len_at_least c.in-len1.len_below c.terms.ensures in
    let next : IsResidue c.args.field.now (get_or c.terms.result.now 0 (record { id = 0; coef = 0 })).coef = next_residue _ (g.R.Rows.rows c.args.rows.now) _ _ _ _ c.requires.rows c.row_at.ensures row_is in
    goes_on _ (g.R.Rows.rows c.args.rows.now) c.args.start c.args.letters.now c.loop-at.term _ _ c.loop-at.at _ c.loop-at-test.true c.loop-at.invariant c.row_at.ensures row_is
    c.mul.ensures.product (record { positive = c.mul.ensures.nonzero (coefficient_of _ _ c.loop-at.invariant.reduced).positive next.positive; below = c.mul.ensures.residue })

pub returns-clause-leads : goal.returns-clause-leads
returns-clause-leads g c = arrives _ (g.R.Rows.rows c.args.rows.now) c.args.start c.args.letters.now c.loop-at.term c.loop-at.at c.loop-at-test.false c.loop-at.invariant
