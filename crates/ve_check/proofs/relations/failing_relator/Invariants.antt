use Rattle.ve_theory.specs.Answers.{RelatorsVanishBelow}
use Rattle.ve_matrix.specs.Answers.{answer_of}
use Rattle.ve_check.proofs.relations.failing_relator.Given as goal

abbrev pub invariant-loop-number : goal.invariant-loop-number
invariant-loop-number l = RelatorsVanishBelow l.presentation.presentation (answer_of l.answer).action l.number
