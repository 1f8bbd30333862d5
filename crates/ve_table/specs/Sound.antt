-- What holds of every action table.
use Rattle.std.specs.Prelude.{◌≡◌, ℕ, ◌<◌, ◌≤◌, ◌↔◌, List, Option, Some, IsSome, length, slice_get, All, AllPairs, Contains}
use Rattle.ve_theory.specs.Combinations.{unit, difference}
use Rattle.ve_theory.specs.Words.{Word, generator, times}
use Rattle.ve_theory.specs.Presentations.{letter_count, reach, before, IsWord}
use Rattle.ve_theory.specs.Derivations.{DerivedWithin}
use Rattle.ve_theory.specs.Answers.{Row, IsRow, IsRowUpTo}
use Rattle.ve_theory.specs.Validity.{IsValid}
use Rattle.ve_table.specs.Tables.{ActionTable, presented, word_at, row_at, on_words, element_of, IsLive, IsDue}

-- The vector can stand for the word: it is a row on the book, and differs from the word by what is derived within the level.
pub record StandsFor (T : ActionTable) (w : Word) (v : Row) : Type 0 where
  pub row : IsRow (presented T).prime (length T.words) v
  pub derived : DerivedWithin (presented T) T.level (difference (presented T).prime (unit w) (element_of T v))

-- a vector for a dead id has lower ids alone
pub record IsForwardOf (T : ActionTable) (b : ℕ) (v : Row) : Type 0 where
  pub stands : StandsFor T (word_at T b) v
  pub below : All (λ t. t.0 < b) v

-- the vector of a product, or of a generator, has no word that is after it
pub record IsVectorOf (T : ActionTable) (w : Word) (v : Row) : Type 0 where
  pub stands : StandsFor T w v
  pub not_after : IsRowUpTo (presented T) (on_words T.words) w v

abbrev pub IsRowOf : ActionTable → ℕ → ℕ → Row → Type 0
IsRowOf T b x v = IsVectorOf T (times (word_at T b) x) v

abbrev pub IsImageOf : ActionTable → ℕ → Row → Type 0
IsImageOf T i v = IsVectorOf T (generator i) v

-- Words are those of the presentation, of reach at most the level, rising in the order of words; each but a generator stands in
-- the book without its last letter too. Each word has a place for each letter. A product has a row exactly where its reach is at
-- most the level.
pub record IsSound (T : ActionTable) : Type 0 where
  pub valid : IsValid (presented T)
  pub words : All (λ w. IsWord (presented T) w × (reach (presented T) w ≤ T.level)) T.words
  pub rising : AllPairs (before (presented T)) T.words
  pub prefixes : (w : Word) (x : ℕ) → Contains T.words (times w x) → Contains T.words w
  pub one_forward_each : length T.forwards ≡ length T.words
  pub one_row_list_each : length T.rows ≡ length T.words
  pub one_place_each : All (λ (row : List (Option Row)). length row ≡ letter_count (presented T)) T.rows
  pub one_image_each : length T.images ≡ (presented T).generators
  pub forwards : (b : ℕ) (v : Row) → slice_get T.forwards b ≡ Some (Some v) → IsForwardOf T b v
  pub due : (b x : ℕ) → IsSome (row_at T b x) ↔ IsDue T b x
  pub rows : (b x : ℕ) (v : Row) → row_at T b x ≡ Some v → IsRowOf T b x v
  pub images : (i : ℕ) (v : Row) → slice_get T.images i ≡ Some v → IsImageOf T i v

-- each id of a vector is live
abbrev pub HasLiveIds : ActionTable → Row → Type 0
HasLiveIds T v = All (λ t. IsLive T t.0) v

-- No image, and no row of a live id, has a dead id. A live word without its last letter is a live word.
pub record NamesLiveIds (T : ActionTable) : Type 0 where
  pub origins : (a b x : ℕ) → IsLive T b → word_at T b ≡ times (word_at T a) x → a < length T.words → IsLive T a
  pub rows : (b x : ℕ) (v : Row) → IsLive T b → row_at T b x ≡ Some v → HasLiveIds T v
  pub images : All (HasLiveIds T) T.images
