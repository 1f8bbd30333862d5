use Rattle.ve_theory.specs.Words.{Shortlex, same_word}
use Rattle.ve_theory.proofs.Reduced.{coefficients-reduced, shortlex_strict}
use Rattle.ve_theory.proofs.Sums.{Decides-same_word}
use Rattle.ve_level_uses.proofs.tests.three_cycle.value_of_relation.Goals as goal

pub eval_free-requires-clause-residues : goal.eval_free-requires-clause-residues
eval_free-requires-clause-residues c = λ k d within. (coefficients-reduced Shortlex shortlex_strict same_word Decides-same_word _ _ c.in_ok-relation.ensures.residues k d within).2
