use Rattle.std.proofs.Common.{◌<◌, nat_eq}
use Rattle.ve_theory.specs.Words.{same_letters, same_word, Shortlex, ShortlexLetters}
use Rattle.ve_theory.proofs.elements.reduced_lists_are_unique.Goals as goal
use Rattle.ve_theory.proofs.Sums.{Decides-nat_eq, Decides-same_letters, Decides-same_word}
use Rattle.ve_theory.proofs.Reduced.{reduced_unique, shortlex_strict, shortlex_letters_strict, below_strict}

pub returns : goal.returns
returns c = record {
  elements = reduced_unique Shortlex shortlex_strict same_word Decides-same_word;
  algebra = reduced_unique ShortlexLetters shortlex_letters_strict same_letters Decides-same_letters;
  rows = reduced_unique ◌<◌ below_strict nat_eq Decides-nat_eq;
}
