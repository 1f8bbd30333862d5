use Rattle.ve_vec.proofs.ReducedLists.{IsReduced-front, IsReduced-middle}
use Rattle.ve_vec.proofs.Substituting.{parts_of, halves_of, kept, replaced, rest_of_first, rest_of_other}
use Rattle.ve_vec.proofs.Ids.{ids_of_sum}
use Rattle.ve_vec.proofs.sparse.Sparse.substitute.Goals as goal

pub returns-in_default-clause-ok : goal.returns-in_default-clause-ok
returns-in_default-clause-ok c =
    kept _ _ _ _ c.requires.fits (rw (c.as_slice.ensures, c.self.view_is) at c.in_default.ensures.no_term)
    (rw (c.as_slice.ensures, c.self.view_is) at c.in_default.ensures.no_coefficient)

pub append_sum-requires-clause-left : goal.append_sum-requires-clause-left
append_sum-requires-clause-left c =
    rw c.new-sum.ensures.items (IsReduced-front _ _ _ (rw (parts_of c.self.view_is c.as_slice.ensures c.in-Some.ensures.whole) at c.requires.fits))

pub append_sum-requires-clause-right : goal.append_sum-requires-clause-right
append_sum-requires-clause-right c =
    rw c.new-sum.ensures.items (IsReduced-front _ _ _ (rw (halves_of c.split_at_id.result.0.now c.split_at_id.result.1.now c.by.view_is c.as_slice-2.ensures c.split_at_id.ensures.whole) at c.requires.by_fits))

pub append_sum-requires-clause-nonzero : goal.append_sum-requires-clause-nonzero
append_sum-requires-clause-nonzero c =
    (IsReduced-middle _ _ _ _ (rw (parts_of c.self.view_is c.as_slice.ensures c.in-Some.ensures.whole) at c.requires.fits)).positive

pub append_sum-requires-clause-residue : goal.append_sum-requires-clause-residue
append_sum-requires-clause-residue c =
    (IsReduced-middle _ _ _ _ (rw (parts_of c.self.view_is c.as_slice.ensures c.in-Some.ensures.whole) at c.requires.fits)).residue

pub append_sum-requires-2-clause-left : goal.append_sum-requires-2-clause-left
append_sum-requires-2-clause-left c =
    rest_of_first _ _ _ _ _ _ c.in-Some.ensures.above c.split_at_id.ensures.above (rw c.new-sum.ensures.items at c.in_ok-append_sum.ensures.ok) _
    (rw (parts_of c.self.view_is c.as_slice.ensures c.in-Some.ensures.whole) at c.requires.fits)

pub append_sum-requires-2-clause-right : goal.append_sum-requires-2-clause-right
append_sum-requires-2-clause-right c =
    rest_of_other _ _ _ _ _ _ c.in-Some.ensures.above c.split_at_id.ensures.above (rw c.new-sum.ensures.items at c.in_ok-append_sum.ensures.ok) _
    (rw (halves_of c.split_at_id.result.0.now c.split_at_id.result.1.now c.by.view_is c.as_slice-2.ensures c.split_at_id.ensures.whole) at c.requires.by_fits) c.split_at_id.ensures.rest

pub append_sum-requires-2-clause-nonzero : goal.append_sum-requires-2-clause-nonzero
append_sum-requires-2-clause-nonzero c =
    (IsReduced-middle _ _ _ _ (rw (parts_of c.self.view_is c.as_slice.ensures c.in-Some.ensures.whole) at c.requires.fits)).positive

pub append_sum-requires-2-clause-residue : goal.append_sum-requires-2-clause-residue
append_sum-requires-2-clause-residue c =
    (IsReduced-middle _ _ _ _ (rw (parts_of c.self.view_is c.as_slice.ensures c.in-Some.ensures.whole) at c.requires.fits)).residue

pub returns-clause-ok : goal.returns-clause-ok
returns-clause-ok c =
    rw c.in_ok-replace.ensures.ok
    (replaced _ _ _ _ _ _ c.in-Some.ensures.above c.split_at_id.ensures.above (rw c.new-sum.ensures.items at c.in_ok-append_sum.ensures.ok) _ _ _ _ _
    (parts_of c.self.view_is c.as_slice.ensures c.in-Some.ensures.whole) (halves_of c.split_at_id.result.0.now c.split_at_id.result.1.now c.by.view_is c.as_slice-2.ensures c.split_at_id.ensures.whole)
    c.requires.fits c.in_ok-append_sum-2.ensures.ok)

pub returns-clause-ids : goal.returns-clause-ids
returns-clause-ids c = λ among. ids_of_sum _ _ among _ _ _ (returns-clause-ok c)
