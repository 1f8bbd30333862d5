use Rattle.std.proofs.Common.{◌≡◌, vec_len, get_or}
use Rattle.std.specs.Prelude.{reverse}
use Rattle.ve_theory.specs.Words.{generator, times_all}
use Rattle.ve_table.specs.Books.{words_of}
use Rattle.ve_out.proofs.basis.word_at.Given as goal

abbrev pub invariant-loop-letter : goal.invariant-loop-letter
invariant-loop-letter l = times_all l.word (reverse l.letters.items) ≡ get_or (words_of l.basis) l.place (generator 0)

abbrev pub decreases-loop-letter : goal.decreases-loop-letter
decreases-loop-letter l = vec_len l.letters
