use Rattle.std.proofs.Common.{◌≡◌, vec_len}
use Rattle.ve_theory.specs.Words.{generator}
use Rattle.ve_matrix.specs.BasisWords.{behind}
use Rattle.ve_matrix.proofs.answer.words.spelled.Given as goal

abbrev pub invariant-loop-letter : goal.invariant-loop-letter
invariant-loop-letter l = behind l.word l.letters.items ≡ behind (generator l.root) l.initial.letters.items

abbrev pub decreases-loop-letter : goal.decreases-loop-letter
decreases-loop-letter l = vec_len l.letters
