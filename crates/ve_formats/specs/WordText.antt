-- How words of the free module are written.
use Rattle.std.specs.Prelude.{ℕ, ◌+◌, List, [], ◌++◌, codes, decimal, slice_index_or}
use Rattle.ve_theory.specs.Words.{Word, generator, times}

-- the name of a letter; nothing for a letter that the list lacks
abbrev pub letter_name : List (List ℕ) → ℕ → List ℕ
letter_name names x = slice_index_or names x []

-- the generator, whose number counts from 1 here, and each letter behind a star, as in e1*x*y
unfoldable pub word_text : List (List ℕ) → Word → List ℕ
word_text names (generator i) = codes "e" ++ decimal (i + 1)
word_text names (times w x) = word_text names w ++ codes "*" ++ letter_name names x
