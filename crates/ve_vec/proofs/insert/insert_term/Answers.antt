use Rattle.std.proofs.Common.{arith}
use Rattle.ve_vec.proofs.Inserting.{inserted, held_residue, removed, replaced}
use Rattle.ve_vec.proofs.insert.insert_term.Goals as goal

pub returns-in_default-clause-ok : goal.returns-in_default-clause-ok
returns-in_default-clause-ok c =
    inserted c.args.field.now c.args.id c.args.coef c.count_above-at.result c.args.terms.now c.requires.terms (rw c.as_slice.ensures at c.count_above-at.ensures.above) c.requires.nonzero c.requires.residue
    (rw c.as_slice-2.ensures at c.in_default.ensures.below) _ c.in_ok-insert.ensures.ok

pub add-sum-requires-clause-first : goal.add-sum-requires-clause-first
add-sum-requires-clause-first c =
    held_residue c.args.field.now c.args.id c.args.coef c.count_above-at.result c.args.terms.now c.requires.terms (rw c.as_slice.ensures at c.count_above-at.ensures.above) c.requires.nonzero c.requires.residue
    _ 0 (rw c.as_slice-2.ensures at c.in-Some.ensures.here)

pub returns-then-sum-eq0-clause-ok : goal.returns-then-sum-eq0-clause-ok
returns-then-sum-eq0-clause-ok c =
    removed c.args.field.now c.args.id c.args.coef c.count_above-at.result c.args.terms.now c.requires.terms (rw c.as_slice.ensures at c.count_above-at.ensures.above) c.requires.nonzero c.requires.residue
    _ _ (rw c.as_slice-2.ensures at c.in-Some.ensures.here) c.add-sum.ensures.sum c.if-sum-eq0.true _ c.remove.ensures.terms

pub returns-clause-ok : goal.returns-clause-ok
returns-clause-ok c =
    replaced c.args.field.now c.args.id c.args.coef c.count_above-at.result c.args.terms.now c.requires.terms (rw c.as_slice.ensures at c.count_above-at.ensures.above) c.requires.nonzero c.requires.residue
    _ _ (rw c.as_slice-2.ensures at c.in-Some.ensures.here) c.add-sum.ensures.sum (omega (arith, c.if-sum-eq0.false)) c.add-sum.ensures.residue (rw c.as_slice-2.ensures at c.in-Some.ensures.within) _ c.set.ensures
