use Rattle.std.proofs.Common.{◌≡◌, ◌<◌, length}
use Rattle.ve_theory.specs.Answers.{basis_word}
use Rattle.ve_matrix.specs.Answers.{answer_of}
use Rattle.ve_matrix.specs.BasisWords.{behind}
use Rattle.ve_matrix.proofs.answer.Answer.basis_word.Given as goal

abbrev pub invariant-loop-root : goal.invariant-loop-root
invariant-loop-root l = record {
  within : l.at < length l.self.basis.items;
  word : behind (basis_word (answer_of l.self).action l.at) l.letters.items ≡ basis_word (answer_of l.self).action l.place;
}

abbrev pub decreases-loop-root : goal.decreases-loop-root
decreases-loop-root l = l.at
