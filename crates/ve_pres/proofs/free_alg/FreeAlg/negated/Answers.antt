use Rattle.ve_pres.proofs.InAlgebra.{first_scaled, first_words, view_reduced, view_scaled}
use Rattle.ve_pres.proofs.WordBounds.{letters_of_scaled}
use Rattle.ve_pres.proofs.free_alg.FreeAlg.negated.Goals as goal

pub negated-requires : goal.negated-requires
negated-requires c = record { residues = view_reduced _ _ _ c.self.invariant c.self.view_is c.requires.residues }

pub invariant_of-result : goal.invariant_of-result
invariant_of-result c = first_words _ _ _ c.negated.ensures.negative (first_scaled _ _ c.self.invariant)

pub returns-clause-negative : goal.returns-clause-negative
returns-clause-negative c = view_scaled _ _ _ _ _ c.self.invariant c.self.view_is c.negated.ensures.negative

pub returns-clause-letters : goal.returns-clause-letters
returns-clause-letters c n all = letters_of_scaled _ _ n _ _ _ c.self.view_is c.negated.ensures.negative all
