use Rattle.ve_matrix.specs.Answers.{answer_of}
use Rattle.ve_matrix.specs.Disorders.{RowsAreOrderedBelow}
use Rattle.ve_matrix.proofs.answer.Answer.first_above.Given as goal

abbrev pub invariant-loop-place : goal.invariant-loop-place
invariant-loop-place l = RowsAreOrderedBelow l.presentation.presentation (answer_of l.self).action l.letter l.place
