use Rattle.ve_matrix.specs.Answers.{answer_of}
use Rattle.ve_check.specs.Failures.{VanishesOnRowsBelow}
use Rattle.ve_check.proofs.relations.failing_row.Given as goal

abbrev pub invariant-loop-row : goal.invariant-loop-row
invariant-loop-row l = VanishesOnRowsBelow l.presentation.presentation (answer_of l.answer).action l.number l.row
