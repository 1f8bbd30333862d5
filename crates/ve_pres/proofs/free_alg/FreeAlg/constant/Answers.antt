use Rattle.std.proofs.Common.{arith}
use Rattle.ve_pres.proofs.InAlgebra.{constant_view, constant_zero, first_scaled, first_word, first_words, reduced_word, start_generator}
use Rattle.ve_pres.proofs.WordBounds.{letters_of_constant, letters_of_zero}
use Rattle.ve_pres.proofs.free_alg.FreeAlg.constant.Goals as goal

pub returns-then-value-eq0-clause-constant : goal.returns-then-value-eq0-clause-constant
returns-then-value-eq0-clause-constant c = constant_zero _ _ _ c.if-value-eq0.true c.zero.ensures.zero

pub scale-requires-clause-residues : goal.scale-requires-clause-residues
scale-requires-clause-residues c = reduced_word _ _ _ (omega arith) c.in_ok-one.ensures

pub invariant_of-result : goal.invariant_of-result
invariant_of-result c = first_words _ _ _ c.in_ok-element.ensures.multiple (first_scaled _ _ (first_word _ _ (start_generator _ _ c.root.ensures) c.in_ok-one.ensures))

pub returns-clause-constant : goal.returns-clause-constant
returns-clause-constant c = constant_view _ _ _ _ _ c.root.ensures c.in_ok-one.ensures c.in_ok-element.ensures.multiple

pub returns-then-value-eq0-clause-letters : goal.returns-then-value-eq0-clause-letters
returns-then-value-eq0-clause-letters c n = letters_of_zero n _ c.zero.ensures.zero

pub returns-clause-letters : goal.returns-clause-letters
returns-clause-letters c n = letters_of_constant _ _ n _ _ _ c.root.ensures c.in_ok-one.ensures c.in_ok-element.ensures.multiple
