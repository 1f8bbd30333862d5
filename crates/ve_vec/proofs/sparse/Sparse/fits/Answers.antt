use Rattle.ve_vec.proofs.Residues.{residues_of_pairs, residues_of_terms, IsReduced-residues}
use Rattle.ve_vec.proofs.sparse.Sparse.fits.Goals as goal

pub returns-clause-residues : goal.returns-clause-residues
returns-clause-residues c =
    rw (← c.self.view_is, ← c.as_slice.ensures)
    (λ all. residues_of_pairs _ _ (c.all_residues.ensures.0 all), λ all. c.all_residues.ensures.1 (residues_of_terms _ _ all))

pub returns-clause-reduced : goal.returns-clause-reduced
returns-clause-reduced c =
    λ all. rw (← c.self.view_is)
    (IsReduced-residues _ c.self.invariant.0 _ c.self.invariant.1 (rw c.as_slice.ensures at (residues_of_pairs _ _ (c.all_residues.ensures.0 all))))
