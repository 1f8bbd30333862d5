use Rattle.std.proofs.Common.{arith}
use Rattle.ve_pres.proofs.InAlgebra.{first_word, length_letter, letter_view, letters_reduced, start_letter}
use Rattle.ve_pres.proofs.free_alg.FreeAlg.letter.Goals as goal

pub of_word-requires : goal.of_word-requires
of_word-requires c = let one = length_letter _ _ _ c.root-word.ensures c.in_ok-push.ensures.ok in omega (arith, one)

pub invariant_of-result : goal.invariant_of-result
invariant_of-result c = first_word _ _ (start_letter _ _ _ c.root-word.ensures c.in_ok-push.ensures.ok) c.in_ok-element.ensures

pub returns-clause-letter : goal.returns-clause-letter
returns-clause-letter c = letter_view _ _ _ _ c.root-word.ensures c.in_ok-push.ensures.ok c.in_ok-element.ensures

pub returns-clause-reduced : goal.returns-clause-reduced
returns-clause-reduced c p large = letters_reduced p _ _ large (letter_view _ _ _ _ c.root-word.ensures c.in_ok-push.ensures.ok c.in_ok-element.ensures)
