use Rattle.ve_matrix.specs.Answers.{answer_of}
use Rattle.ve_matrix.specs.Disorders.{MatricesAreOrderedBelow}
use Rattle.ve_matrix.proofs.answer.Answer.first_row_above.Given as goal

abbrev pub invariant-loop-letter : goal.invariant-loop-letter
invariant-loop-letter l = MatricesAreOrderedBelow l.presentation.presentation (answer_of l.self).action l.letter
