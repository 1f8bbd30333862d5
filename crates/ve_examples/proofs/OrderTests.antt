-- Tests of the orders of words, and of reduced lists.
use Rattle.std.proofs.Common.{◌≡◌, ℕ, ◌<◌, ◌⊎◌, inl, inr, Bool, true, false, ◌&&◌, ◌||◌, nat_eq, nat_lt, List, [], ◌∷◌, length, refl, ap₂, sym, ◌∙◌}
use Rattle.std.specs.List.{list_all}
use Rattle.std.proofs.lemmas.Bool.{and_parts, and_from, or_cases, eqb-true, eq-eqb, ltb-true}
use Rattle.ve_theory.specs.Combinations.{Combination, AllBefore, IsReduced}
use Rattle.ve_theory.specs.Words.{Word, generator, start, letters, times_all, word_length, same_letters, same_word, DiffersBelow, IsSmaller, Shortlex, ShortlexLetters, word_weight, Weighted, spelled_back}
use Rattle.ve_lemmas.proofs.Words.{same_letters-true}

-- the smaller number first, then a further test
abbrev pub by_number : ℕ → ℕ → Bool → Bool
by_number m n rest = nat_lt m n || (nat_eq m n && rest)

by_number-true : (m n : ℕ) (rest : Bool) (Q : Type 0) → (rest ≡ true → Q) → by_number m n rest ≡ true → (m < n) ⊎ ((m ≡ n) × Q)
by_number-true m n rest Q sound e = cases (or_cases (nat_lt m n) (nat_eq m n && rest) e)
  where
    cases : (nat_lt m n ≡ true) ⊎ ((nat_eq m n && rest) ≡ true) → (m < n) ⊎ ((m ≡ n) × Q)
    cases (inl h) = inl (ltb-true m n h)
    cases (inr h) =
        let parts = and_parts (nat_eq m n) rest h in
        inr (eqb-true m n parts.0, sound parts.1)

unfoldable pub differs_below : List ℕ → List ℕ → Bool
differs_below [] v = false
differs_below (x ∷ u) [] = false
differs_below (x ∷ u) (y ∷ v) = by_number x y (differs_below u v)

differs_below-true : (u v : List ℕ) → differs_below u v ≡ true → DiffersBelow u v
unfolding differs_below DiffersBelow
differs_below-true [] v e = absurd (cc)
differs_below-true (x ∷ u) [] e = absurd (cc)
differs_below-true (x ∷ u) (y ∷ v) e = by_number-true x y (differs_below u v) (DiffersBelow u v) (differs_below-true u v) e

abbrev pub is_smaller : Word → Word → Bool
is_smaller v w = by_number (start v) (start w) (differs_below (letters v) (letters w))

is_smaller-true : (v w : Word) → is_smaller v w ≡ true → IsSmaller v w
is_smaller-true v w e =
    by_number-true (start v) (start w) (differs_below (letters v) (letters w)) (DiffersBelow (letters v) (letters w)) (differs_below-true (letters v) (letters w)) e

abbrev pub is_shortlex : Word → Word → Bool
is_shortlex v w = by_number (word_length v) (word_length w) (is_smaller v w)

pub is_shortlex-true : (v w : Word) → is_shortlex v w ≡ true → Shortlex v w
unfolding Shortlex
is_shortlex-true v w e = by_number-true (word_length v) (word_length w) (is_smaller v w) (IsSmaller v w) (is_smaller-true v w) e

abbrev pub is_shortlex_letters : List ℕ → List ℕ → Bool
is_shortlex_letters u v = by_number (length u) (length v) (differs_below u v)

pub is_shortlex_letters-true : (u v : List ℕ) → is_shortlex_letters u v ≡ true → ShortlexLetters u v
unfolding ShortlexLetters
is_shortlex_letters-true u v e = by_number-true (length u) (length v) (differs_below u v) (DiffersBelow u v) (differs_below-true u v) e

abbrev pub is_weighted : List ℕ → Word → Word → Bool
is_weighted weights v w = by_number (word_weight weights v) (word_weight weights w) (is_smaller v w)

pub is_weighted-true : (weights : List ℕ) (v w : Word) → is_weighted weights v w ≡ true → Weighted weights v w
unfolding Weighted
is_weighted-true weights v w e =
    by_number-true (word_weight weights v) (word_weight weights w) (is_smaller v w) (IsSmaller v w) (is_smaller-true v w) e

-- reduced lists

module _ {K : Type 0} (before : K → K → Bool) (Before : K → K → Type 0) (sound : (j k : K) → before j k ≡ true → Before j k) where
  AllBefore-from_test : (k : K) (v : Combination K) → list_all (λ t. before t.0 k) v ≡ true → AllBefore Before k v
  unfolding AllBefore
  AllBefore-from_test k [] e = tt
  AllBefore-from_test k (t ∷ v) e =
      let parts = and_parts (before t.0 k) (list_all (λ s. before s.0 k) v) e in
      (sound t.0 k parts.0, AllBefore-from_test k v parts.1)

unfoldable pub is_reduced : {K : Type 0} → (K → K → Bool) → ℕ → Combination K → Bool
is_reduced before p [] = true
is_reduced before p (t ∷ v) = (nat_lt 0 t.1 && nat_lt t.1 p) && (list_all (λ s. before s.0 t.0) v && is_reduced before p v)

pub is_reduced-true : {K : Type 0} (before : K → K → Bool) (Before : K → K → Type 0) → ((j k : K) → before j k ≡ true → Before j k)
    → (p : ℕ) (v : Combination K) → is_reduced before p v ≡ true → IsReduced Before p v
unfolding is_reduced IsReduced
is_reduced-true before Before sound p [] e = tt
is_reduced-true before Before sound p (t ∷ v) e =
    let parts = and_parts (nat_lt 0 t.1 && nat_lt t.1 p) (list_all (λ s. before s.0 t.0) v && is_reduced before p v) e in
    let bounds = and_parts (nat_lt 0 t.1) (nat_lt t.1 p) parts.0 in
    let rest = and_parts (list_all (λ s. before s.0 t.0) v) (is_reduced before p v) parts.1 in
    (ltb-true 0 t.1 bounds.0, ltb-true t.1 p bounds.1, AllBefore-from_test before Before sound t.0 v rest.0, is_reduced-true before Before sound p v rest.1)

-- equal words

pub same_letters-itself : (u v : List ℕ) → u ≡ v → same_letters u v ≡ true
unfolding same_letters
same_letters-itself [] [] e = refl
same_letters-itself [] (y ∷ v) e = absurd (cc)
same_letters-itself (x ∷ u) [] e = absurd (cc)
same_letters-itself (x ∷ u) (y ∷ v) e =
    let heads : x ≡ y = cc in
    let tails : u ≡ v = cc in
    and_from (nat_eq x y) (same_letters u v) (eq-eqb x y heads) (same_letters-itself u v tails)

pub same_word-true : (v w : Word) → same_word v w ≡ true → v ≡ w
unfolding same_word
same_word-true v w e =
    let parts = and_parts (nat_eq (start v) (start w)) (same_letters (letters v) (letters w)) e in
    sym (spelled_back v)
    ∙ (ap₂ (λ i u. times_all (generator i) u) (eqb-true (start v) (start w) parts.0) (same_letters-true (letters v) (letters w) parts.1)
    ∙ spelled_back w)
