-- Words: a generator of the free module times a list of letters. Their orders.
use Rattle.std.specs.Prelude.{◌≡◌, ℕ, ◌+◌, ◌<◌, ◌⊎◌, Bool, true, false, ◌&&◌, nat_eq, List, [], ◌∷◌, ◌++◌, length, refl}
use Rattle.std.specs.Coded.{Coded, code_by, coded×, coded_ℕ, coded_list}
use Rattle.std.proofs.Common.{ap, ◌∙◌, slice_index_or}

-- A word of the free module, from its generator to its last letter. Generators and letters are numbered from 0.
pub data Word : Type 0 where
  generator : ℕ → Word
  times : Word → ℕ → Word

-- the generator that a word begins with
unfoldable pub start : Word → ℕ
start (generator i) = i
start (times w x) = start w

-- its letters, from the first to the last
unfoldable pub letters : Word → List ℕ
letters (generator i) = []
letters (times w x) = letters w ++ x ∷ []

-- a word times letters
unfoldable pub times_all : Word → List ℕ → Word
times_all w [] = w
times_all w (x ∷ u) = times_all (times w x) u

-- how many letters a word has
abbrev pub word_length : Word → ℕ
word_length w = length (letters w)

unfoldable pub same_letters : List ℕ → List ℕ → Bool
same_letters [] [] = true
same_letters [] (y ∷ v) = false
same_letters (x ∷ u) [] = false
same_letters (x ∷ u) (y ∷ v) = nat_eq x y && same_letters u v

unfoldable pub same_word : Word → Word → Bool
same_word v w = nat_eq (start v) (start w) && same_letters (letters v) (letters w)

-- at the first place where the letters differ, u has the smaller one
unfoldable pub DiffersBelow : List ℕ → List ℕ → Type 0
DiffersBelow [] v = ⊥
DiffersBelow (x ∷ u) [] = ⊥
DiffersBelow (x ∷ u) (y ∷ v) = (x < y) ⊎ ((x ≡ y) × DiffersBelow u v)

-- the smaller generator, then the smaller first differing letter
abbrev pub IsSmaller : Word → Word → Type 0
IsSmaller v w = (start v < start w) ⊎ ((start v ≡ start w) × DiffersBelow (letters v) (letters w))

-- shortlex: the shorter word first, then the smaller one
unfoldable pub Shortlex : Word → Word → Type 0
Shortlex v w = (word_length v < word_length w) ⊎ ((word_length v ≡ word_length w) × IsSmaller v w)

-- shortlex on the letters alone, for the words of the algebra
unfoldable pub ShortlexLetters : List ℕ → List ℕ → Type 0
ShortlexLetters u v = (length u < length v) ⊎ ((length u ≡ length v) × DiffersBelow u v)

-- the weight of a letter, from the list of weights; 1 for a letter that the list lacks
abbrev pub letter_weight : List ℕ → ℕ → ℕ
letter_weight weights x = slice_index_or weights x 1

-- the weight of letters: the sum
unfoldable pub letters_weight : List ℕ → List ℕ → ℕ
letters_weight weights [] = 0
letters_weight weights (x ∷ u) = letter_weight weights x + letters_weight weights u

-- the weight of a word: the sum over its letters
unfoldable pub word_weight : List ℕ → Word → ℕ
word_weight weights (generator i) = 0
word_weight weights (times w x) = word_weight weights w + letter_weight weights x

-- the weighted order: the word of smaller weight first, then the smaller one
unfoldable pub Weighted : List ℕ → Word → Word → Type 0
Weighted weights v w =
    (word_weight weights v < word_weight weights w) ⊎ ((word_weight weights v ≡ word_weight weights w) × IsSmaller v w)

-- a word is stored as its generator and its letters

times_all-append : (w : Word) (u : List ℕ) (x : ℕ) → times_all w (u ++ x ∷ []) ≡ times (times_all w u) x
unfolding times_all
times_all-append w [] x = refl
times_all-append w (y ∷ u) x = times_all-append (times w y) u x

pub spelled_back : (w : Word) → times_all (generator (start w)) (letters w) ≡ w
unfolding times_all start letters
spelled_back (generator i) = refl
spelled_back (times w x) = times_all-append (generator (start w)) (letters w) x ∙ ap (λ v. times v x) (spelled_back w)

abbrev pub word_code : Coded Word
word_code =
    code_by (ℕ × List ℕ) (coded× coded_ℕ (coded_list coded_ℕ)) (λ w. (start w, letters w)) (λ s. times_all (generator s.0) s.1) spelled_back
