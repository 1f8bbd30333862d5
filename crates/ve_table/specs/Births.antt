-- The words that a new level brings, as pairs of an id and a letter.
use Rattle.std.specs.Prelude.{◌≡◌, ◌≢◌, ℕ, ◌<◌, List, [], ◌∷◌, length, map, Some, All, AllPairs, Contains, filter, nat_eq, slice_get, slice_index, slice_index_or}
use Rattle.std.specs.List.{range_with_len, flat_map}
use Rattle.ve_theory.specs.Words.{Word, generator, times, word_length, word_weight, letter_weight, IsSmaller, Weighted}
use Rattle.ve_table.specs.declared.birth.Birth.{Birth}
use Rattle.ve_table.specs.declared.entry.Entry.{Entry}
use Rattle.ve_table.specs.Books.{words_of, IsOriginOf}

-- the words of entries, and that of one
abbrev pub book_of : List Entry → List Word
book_of entries = words_of (map (λ (e : Entry). e.origin) entries)

abbrev pub word_in : List Entry → ℕ → Word
word_in entries b = slice_index_or (book_of entries) b (generator 0)

-- the word of a birth
abbrev pub product_of : List Entry → Birth → Word
product_of entries b = times (word_in entries b.parent) b.letter

-- each entry has the origin and the length of its word, and the words are different
pub record IsBook (entries : List Entry) : Type 0 where
  pub count : length (book_of entries) ≡ length entries
  pub origins : (b : ℕ) (e : Entry) → slice_get entries b ≡ Some e → IsOriginOf (book_of entries) b e.origin (word_in entries b)
  pub lengths : (b : ℕ) (e : Entry) → slice_get entries b ≡ Some e → e.length ≡ word_length (word_in entries b)
  pub distinct : AllPairs ◌≢◌ (book_of entries)

-- moreover it is in the order of positive weights, and each entry has the weight of its word
pub record IsWeightedBook (weights : List ℕ) (entries : List Entry) : Type 0 where
  pub book : IsBook entries
  pub positive : All (λ w. 0 < w) weights
  pub weighed : (b : ℕ) (e : Entry) → slice_get entries b ≡ Some e → e.reach ≡ word_weight weights (word_in entries b)
  pub rising : AllPairs (Weighted weights) (book_of entries)

-- the word of an earlier id without its last letter, where a birth's parent has one
pub record IsShorter (entries : List Entry) (word shorter : Birth) : Type 0 where
  pub earlier : shorter.parent < word.parent
  pub product : product_of entries shorter ≡ word_in entries word.parent

-- v is w, or w without some last letters
pub data Begins : Word → Word → Type 0 where
  same : (w : Word) → Begins w w
  longer : (v w : Word) (x : ℕ) → Begins v w → Begins v (times w x)

-- the beginning of a birth's word, whose last letter follows the given number of letters
pub record IsPrefix (entries : List Entry) (letters : ℕ) (word prefix : Birth) : Type 0 where
  pub parent : prefix.parent < length entries
  pub count : word_length (word_in entries prefix.parent) ≡ letters
  pub begins : Begins (product_of entries prefix) (product_of entries word)

-- the words are of ids times letters, and none begins the other
pub record CanCompare (entries : List Entry) (a b : Birth) : Type 0 where
  pub first : a.parent < length entries
  pub second : b.parent < length entries
  pub not_first : ¬ Begins (product_of entries a) (product_of entries b)
  pub not_second : ¬ Begins (product_of entries b) (product_of entries a)

-- the order of births
abbrev pub SmallerBirth : List Entry → Birth → Birth → Type 0
SmallerBirth entries a b = IsSmaller (product_of entries a) (product_of entries b)

-- a merge of two lists
pub data Merges (entries : List Entry) : List Birth → List Birth → List Birth → Type 0 where
  no_left : (right : List Birth) → Merges entries [] right right
  no_right : (left : List Birth) → Merges entries left [] left
  from_left : (a b : Birth) (left right merged : List Birth) → SmallerBirth entries a b → Merges entries left (b ∷ right) merged → Merges entries (a ∷ left) (b ∷ right) (a ∷ merged)
  from_right : (a b : Birth) (left right merged : List Birth) → SmallerBirth entries b a → Merges entries (a ∷ left) right merged → Merges entries (a ∷ left) (b ∷ right) (b ∷ merged)

-- the letters of a weight
abbrev pub letters_weighing : List ℕ → ℕ → List ℕ
letters_weighing weights weight = filter (λ x. nat_eq (slice_index weights x) weight) (range_with_len 0 (length weights))

-- ids times letters, by id and then letter
abbrev pub births_of : ℕ → List ℕ → List Birth
births_of parent letters = map (λ x. record { parent = parent; letter = x }) letters

abbrev pub all_births : (first count : ℕ) → List ℕ → List Birth
all_births first count letters = flat_map (λ parent. births_of parent letters) (range_with_len first count)

-- an id times a letter, of the given weight
pub record IsBirth (weights : List ℕ) (entries : List Entry) (level : ℕ) (b : Birth) : Type 0 where
  pub parent : b.parent < length entries
  pub letter : b.letter < length weights
  pub reaches : word_weight weights (product_of entries b) ≡ level

-- all that end on a letter of weight below the bound, in the order of words
pub record AreBirths (weights : List ℕ) (entries : List Entry) (level bound : ℕ) (births : List Birth) : Type 0 where
  pub rising : AllPairs (SmallerBirth entries) births
  pub only : All (λ b. IsBirth weights entries level b × (letter_weight weights b.letter < bound)) births
  pub every : (b : Birth) → IsBirth weights entries level b → letter_weight weights b.letter < bound → Contains births b
