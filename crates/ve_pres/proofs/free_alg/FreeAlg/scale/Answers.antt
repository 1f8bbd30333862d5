use Rattle.ve_pres.proofs.InAlgebra.{first_scaled, first_words, view_reduced, view_scaled}
use Rattle.ve_pres.proofs.WordBounds.{letters_of_scaled}
use Rattle.ve_pres.proofs.free_alg.FreeAlg.scale.Goals as goal

pub scale-requires-clause-residues : goal.scale-requires-clause-residues
scale-requires-clause-residues c = view_reduced _ _ _ c.self.invariant c.self.view_is c.requires.residues

pub invariant_of-result : goal.invariant_of-result
invariant_of-result c = first_words _ _ _ c.in_ok-element.ensures.multiple (first_scaled _ _ c.self.invariant)

pub returns-clause-multiple : goal.returns-clause-multiple
returns-clause-multiple c = view_scaled _ _ _ _ _ c.self.invariant c.self.view_is c.in_ok-element.ensures.multiple

pub returns-clause-letters : goal.returns-clause-letters
returns-clause-letters c n all = letters_of_scaled _ _ n _ _ _ c.self.view_is c.in_ok-element.ensures.multiple all
