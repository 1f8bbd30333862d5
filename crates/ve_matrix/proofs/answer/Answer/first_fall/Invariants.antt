use Rattle.std.proofs.Common.{◌≡◌, ◌-◌}
use Rattle.ve_theory.specs.Answers.{basis_word}
use Rattle.ve_matrix.specs.Answers.{answer_of}
use Rattle.ve_matrix.specs.Disorders.{WordsRiseBelow}
use Rattle.ve_matrix.proofs.answer.Answer.first_fall.Given as goal

abbrev pub invariant-loop-place : goal.invariant-loop-place
invariant-loop-place l = record {
  last : l.last ≡ basis_word (answer_of l.self).action (l.place - 1);
  rise : WordsRiseBelow l.presentation.presentation (answer_of l.self).action l.place;
}
