-- The text of a word, letter by letter.
use Rattle.std.proofs.Common.{◌≡◌, ◌<◌, ◌++◌, ◌∷◌, ℕ, ◌+◌, List, [], Some, take, length, get_or, slice_get, decimal, refl, ap, append_assoc}
use Rattle.std.proofs.lemmas.List.{take_more}
use Rattle.std.proofs.lemmas.Option.{get_or_from_slice_get}
use Rattle.ve_theory.specs.Words.{Word, generator, times_all, start, letters, spelled_back}
use Rattle.ve_lemmas.proofs.Words.{times_all-push}
use Rattle.ve_formats.specs.WordText.{letter_name, word_text}

pub word_text-generator : (names : List (List ℕ)) (i : ℕ) → word_text names (times_all (generator i) []) ≡ 101 ∷ decimal (i + 1)
unfolding word_text times_all
word_text-generator names i = refl

pub word_text-append :
    (names : List (List ℕ)) (w : Word) (u : List ℕ) (x : ℕ) →
    word_text names (times_all w (u ++ x ∷ [])) ≡ (word_text names (times_all w u) ++ 42 ∷ []) ++ letter_name names x
unfolding word_text
word_text-append names w u x = ap (word_text names) (times_all-push w u x)

-- with all its letters
pub word_text-spelled :
    (names : List (List ℕ)) (w : Word) → word_text names (times_all (generator (start w)) (letters w)) ≡ word_text names w
word_text-spelled names w = ap (word_text names) (spelled_back w)

-- a letter more behind an old line
pub word_text-take_more :
    (names : List (List ℕ)) (w : Word) (xs : List ℕ) (i : ℕ) (old before starred after name : List ℕ) →
    i < length xs →
    slice_get names (get_or xs i 0) ≡ Some name →
    before ≡ old ++ word_text names (times_all w (take i xs)) →
    starred ≡ before ++ 42 ∷ [] →
    after ≡ starred ++ name →
    after ≡ old ++ word_text names (times_all w (take (i + 1) xs))
word_text-take_more names w xs i old before starred after name within named text star written =
    let letter : letter_name names (get_or xs i 0) ≡ name = get_or_from_slice_get names (get_or xs i 0) name [] named in
    rw (take_more xs i 0 within, word_text-append names w (take i xs) (get_or xs i 0), letter, written, star, text)
    (simp append_assoc)
