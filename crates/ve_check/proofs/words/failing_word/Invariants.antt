use Rattle.ve_theory.specs.Answers.{HaveOwnRowsBelow}
use Rattle.ve_matrix.specs.Answers.{answer_of}
use Rattle.ve_check.proofs.words.failing_word.Given as goal

abbrev pub invariant-loop-place : goal.invariant-loop-place
invariant-loop-place l = HaveOwnRowsBelow l.presentation.presentation (answer_of l.answer).action l.place
