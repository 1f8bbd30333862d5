-- The book: where each word of a table comes from.
use Rattle.std.specs.Prelude.{◌≡◌, ℕ, ◌<◌, List, [], ◌∷◌, ◌++◌, slice_index_or}
use Rattle.ve_theory.specs.Words.{Word, generator, times}
use Rattle.ve_table.specs.declared.origin.Origin.{Origin}
use Rattle.ve_table.specs.declared.origin.Origin.TheVariants.{Root, Child}

-- the word of an origin, where the words so far are known
unfoldable pub spelled : List Word → Origin → Word
spelled words (Root i) = generator i
spelled words (Child parent letter) = times (slice_index_or words parent (generator 0)) letter

-- the words of origins, after those known so far
unfoldable pub words_after : List Word → List Origin → List Word
words_after words [] = words
words_after words (o ∷ os) = words_after (words ++ spelled words o ∷ []) os

abbrev pub words_of : List Origin → List Word
words_of origins = words_after [] origins

-- the origin says what the word is, by an earlier id where it has letters
unfoldable pub IsOriginOf : List Word → ℕ → Origin → Word → Type 0
IsOriginOf words b (Root i) w = w ≡ generator i
IsOriginOf words b (Child parent letter) w = (parent < b) × (w ≡ times (slice_index_or words parent (generator 0)) letter)
