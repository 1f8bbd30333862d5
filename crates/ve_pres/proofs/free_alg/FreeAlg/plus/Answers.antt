use Rattle.ve_pres.proofs.InAlgebra.{first_append, first_words, view_reduced, view_sum}
use Rattle.ve_pres.proofs.WordBounds.{letters_of_append}
use Rattle.ve_pres.proofs.free_alg.FreeAlg.plus.Goals as goal

pub plus-requires-clause-left : goal.plus-requires-clause-left
plus-requires-clause-left c = view_reduced _ _ _ c.self.invariant c.self.view_is c.requires.left

pub plus-requires-clause-right : goal.plus-requires-clause-right
plus-requires-clause-right c = view_reduced _ _ _ c.other.invariant c.other.view_is c.requires.right

pub invariant_of-result : goal.invariant_of-result
invariant_of-result c = first_words _ _ _ c.in_ok-element.ensures.sum (first_append _ _ c.self.invariant c.other.invariant)

pub returns-clause-sum : goal.returns-clause-sum
returns-clause-sum c = view_sum _ _ _ _ _ _ c.self.invariant c.other.invariant c.self.view_is c.other.view_is c.in_ok-element.ensures.sum

pub returns-clause-letters : goal.returns-clause-letters
returns-clause-letters c n left right = letters_of_append _ n _ _ _ _ _ c.self.view_is c.other.view_is c.in_ok-element.ensures.sum left right
