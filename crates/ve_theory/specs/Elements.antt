-- Elements of the free algebra and of the free module, as formal sums of words.
use Rattle.std.specs.Prelude.{ℕ, zero, suc, ◌-◌, ◌/◌, max, List, [], ◌∷◌, ◌++◌, length, take, drop, Option, Some, None, slice_get}
use Rattle.ve_theory.specs.Combinations.{Combination, unit, scaled, IsReducedOf}
use Rattle.ve_theory.specs.Words.{Word, times, times_all, same_word, same_letters, Shortlex, ShortlexLetters, letters_weight, word_weight, word_length}

-- a sum of lists of letters
abbrev pub AlgebraElement : Type 0
AlgebraElement = Combination (List ℕ)

-- a sum of words of the free module
abbrev pub Element : Type 0
Element = Combination Word

-- v is the list of terms, in strictly falling shortlex order, of the algebra's element e
abbrev pub IsAlgebraElementOf : (p : ℕ) → (v e : AlgebraElement) → Type 0
IsAlgebraElementOf p v e = IsReducedOf ShortlexLetters same_letters p v e

-- the same in the free module
abbrev pub IsElementOf : (p : ℕ) → (v e : Element) → Type 0
IsElementOf p v e = IsReducedOf Shortlex same_word p v e

-- letters u times the element r, term by term
unfoldable pub letters_times : List ℕ → AlgebraElement → AlgebraElement
letters_times u [] = []
letters_times u (t ∷ r) = (u ++ t.0, t.1) ∷ letters_times u r

-- the product in the algebra
unfoldable pub product : AlgebraElement → AlgebraElement → AlgebraElement
product [] r = []
product (t ∷ v) r = scaled t.1 (letters_times t.0 r) ++ product v r

-- the powers of r
unfoldable pub power : AlgebraElement → ℕ → AlgebraElement
power r zero = unit []
power r (suc k) = product (power r k) r

-- the word w times the element r, term by term
unfoldable pub word_times : Word → AlgebraElement → Element
word_times w [] = []
word_times w (t ∷ r) = (times_all w t.0, t.1) ∷ word_times w r

-- a module element times an element of the algebra
unfoldable pub element_times : Element → AlgebraElement → Element
element_times [] r = []
element_times (t ∷ v) r = scaled t.1 (word_times t.0 r) ++ element_times v r

-- a module element times a letter
unfoldable pub times_letter : Element → ℕ → Element
times_letter [] x = []
times_letter (t ∷ v) x = (times t.0 x, t.1) ∷ times_letter v x

-- the greatest of the numbers that `size` gives the keys, and 0 for the empty sum
unfoldable pub greatest : {K : Type 0} → (K → ℕ) → Combination K → ℕ
greatest size [] = 0
greatest size (t ∷ v) = max (size t.0) (greatest size v)

-- the greatest number of letters in a word
abbrev pub algebra_length : AlgebraElement → ℕ
algebra_length r = greatest length r

abbrev pub element_length : Element → ℕ
element_length v = greatest word_length v

-- the greatest weight of a word
abbrev pub algebra_weight : List ℕ → AlgebraElement → ℕ
algebra_weight weights r = greatest (letters_weight weights) r

abbrev pub element_weight : List ℕ → Element → ℕ
element_weight weights v = greatest (word_weight weights) v

-- The inverse of the letters u: the letters' inverses in reversed order, where each letter has one.
unfoldable pub inverse_of_letters : List (Option ℕ) → List ℕ → Option (List ℕ)
inverse_of_letters inverses [] = Some []
inverse_of_letters inverses (x ∷ u) = both (slice_get inverses x) (inverse_of_letters inverses u)
  where
    both : Option (Option ℕ) → Option (List ℕ) → Option (List ℕ)
    both (Some (Some y)) (Some v) = Some (v ++ y ∷ [])
    both _ _ = None

-- Half of a relation. Of a reduced sum `c*w + c'*w'` of two words, w is the first and the longer one, unless they are equally
-- long. Let t be the last letters of w, half as many, rounded down, as the lengths differ by, and `w = u*t`. Where each letter
-- of t has an inverse, the half is `c*u + c'*w'*T`, with T the inverse of t. Else it is the sum itself.
unfoldable pub halved : List (Option ℕ) → AlgebraElement → AlgebraElement
halved inverses [] = []
halved inverses (s ∷ []) = s ∷ []
halved inverses (s ∷ t ∷ []) = half (inverse_of_letters inverses (drop kept s.0))
  where
    kept : ℕ
    kept = length s.0 - (length s.0 - length t.0) / 2

    half : Option (List ℕ) → AlgebraElement
    half None = s ∷ t ∷ []
    half (Some inverse) = (take kept s.0, s.1) ∷ (t.0 ++ inverse, t.1) ∷ []
halved inverses (s ∷ t ∷ r ∷ v) = s ∷ t ∷ r ∷ v
