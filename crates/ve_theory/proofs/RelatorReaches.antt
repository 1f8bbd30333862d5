-- Relators and submodule relations are reduced lists, so a product with them that stays within a level has no word above it.
use Rattle.std.proofs.Common.{◌≡◌, ℕ, ◌+◌, ◌-◌, ◌%◌, ◌<◌, ◌≤◌, ◌⊎◌, Option, Some, None, cond, List, [], ◌∷◌, ◌++◌, All, refl, sym, ap, ap₂, ◌∙◌, inl, inr, arith, mod-eq_of_lt, append-nil, append_assoc}
use Rattle.std.proofs.Math.Nat.{zero-mod}
use Rattle.std.proofs.lemmas.Bool.{cases_lt}
use Rattle.std.proofs.lemmas.Bool.Decides.{same_from_decides}
use Rattle.std.proofs.lemmas.List.{append_cancel_left}
use Rattle.std.proofs.lemmas.List.Elements.{All-nil, All-cons, All-head, All-tail, All-append, All-weaker}
use Rattle.ve_theory.specs.Combinations.{Combination, coefficient, AllBefore, IsReduced}
use Rattle.ve_theory.specs.Words.{Word, times, letters, times_all, letters_weight, word_weight, same_letters, same_word, Shortlex, ShortlexLetters}
use Rattle.ve_theory.specs.Elements.{AlgebraElement, Element, word_times, greatest}
use Rattle.ve_theory.specs.Presentations.{Presentation, IsPresentation, inverse_relators, relators, reach, element_reach, due}
use Rattle.ve_theory.specs.Derivations.{Within}
use Rattle.ve_theory.proofs.Sums.{Decides-same_letters, Decides-same_word, prime-large}
use Rattle.ve_theory.proofs.Reduced.{coefficients-reduced, shortlex_strict, shortlex_letters_strict}

-- relations are reduced

inverse_relators_reduced : (p x : ℕ) (inverses : List (Option ℕ)) → 1 < p → All (λ r. IsReduced ShortlexLetters p r) (inverse_relators p x inverses)
unfolding inverse_relators IsReduced AllBefore ShortlexLetters
inverse_relators_reduced p x [] large = All-nil (λ r. IsReduced ShortlexLetters p r)
inverse_relators_reduced p x (None ∷ rest) large = inverse_relators_reduced p (x + 1) rest large
inverse_relators_reduced p x (Some y ∷ rest) large =
    All-cons (λ r. IsReduced ShortlexLetters p r) ((x ∷ y ∷ [], 1) ∷ ([], p - 1) ∷ []) (inverse_relators p (x + 1) rest)
    (omega arith, large, (inl (omega arith), tt), (omega arith, omega arith, tt, tt))
    (inverse_relators_reduced p (x + 1) rest large)

pub relators_reduced : (P : Presentation) → IsPresentation P → All (λ r. IsReduced ShortlexLetters P.prime r) (relators P)
relators_reduced P V =
    All-append (λ r. IsReduced ShortlexLetters P.prime r) (inverse_relators P.prime 0 P.inverses) P.relations
    (inverse_relators_reduced P.prime 0 P.inverses (prime-large P.prime V.field)) (λ k d l. (V.relations k d l).0)

-- a word times letters

pub reach-times_all : (P : Presentation) (w : Word) (u : List ℕ) → reach P (times_all w u) ≡ reach P w + letters_weight P.weights u
unfolding times_all letters_weight word_weight
reach-times_all P w [] = omega arith
reach-times_all P w (x ∷ u) = omega (arith, reach-times_all P (times w x) u)

pub letters-times_all : (w : Word) (u : List ℕ) → letters (times_all w u) ≡ letters w ++ u
unfolding times_all letters
letters-times_all w [] = sym (append-nil (letters w))
letters-times_all w (x ∷ u) = letters-times_all (times w x) u ∙ append_assoc (letters w) (x ∷ []) u

pub times_all_injective : (w : Word) (u v : List ℕ) → times_all w u ≡ times_all w v → u ≡ v
times_all_injective w u v e = append_cancel_left (letters w) u v (sym (letters-times_all w u) ∙ (ap letters e ∙ letters-times_all w v))

pub coefficient-word_times : (w : Word) (r : AlgebraElement) (u : List ℕ) → coefficient same_word (word_times w r) (times_all w u) ≡ coefficient same_letters r u
unfolding coefficient word_times
coefficient-word_times w [] u = refl
coefficient-word_times w (t ∷ r) u = ap₂ (λ b n. cond b t.1 0 + n) same_test (coefficient-word_times w r u)
  where
    same_test : same_word (times_all w t.0) (times_all w u) ≡ same_letters t.0 u
    same_test =
        same_from_decides {P = t.0 ≡ u} (same_word (times_all w t.0) (times_all w u)) (same_letters t.0 u) (
          λ e. times_all_injective w t.0 u ((Decides-same_word (times_all w t.0) (times_all w u)).0 e),
          λ e. (Decides-same_word (times_all w t.0) (times_all w u)).1 (ap (times_all w) e),
        )
        (Decides-same_letters t.0 u)

-- levels

pub greatest-le : {K : Type 0} (size : K → ℕ) (n : ℕ) (v : Combination K) → All (λ t. size t.0 ≤ n) v → greatest size v ≤ n
unfolding greatest
greatest-le size n [] h = omega arith
greatest-le {K} size n (t ∷ v) h =
    omega (arith, All-head (λ (s : K × ℕ). size s.0 ≤ n) t v h, greatest-le size n v (All-tail (λ (s : K × ℕ). size s.0 ≤ n) t v h))

-- a word whose coefficient is a residue other than 0
within_term : (P : Presentation) (k : ℕ) (v : Element) (w : Word) (c : ℕ) → Within P k v → coefficient same_word v w ≡ c → 0 < c → c < P.prime → reach P w ≤ k
within_term P k v w c within e positive residue = cases (cases_lt k (reach P w))
  where
    cases : (k < reach P w) ⊎ (reach P w ≤ k) → reach P w ≤ k
    cases (inl h) =
        let p = P.prime in
        let f : c % p ≡ 0 % p = ap (λ n. n % p) (sym e) ∙ within w h in
        let g : c % p ≡ c = mod-eq_of_lt residue in
        absurd (omega (arith, zero-mod p))
    cases (inr h) = h

pub element_within : (P : Presentation) (k : ℕ) (v : Element) → IsReduced Shortlex P.prime v → Within P k v → element_reach P v ≤ k
element_within P k v reduced within =
    greatest-le (reach P) k v
    (All-weaker (λ (t : Word × ℕ). (coefficient same_word v t.0 ≡ t.1) × (0 < t.1) × (t.1 < P.prime)) (λ (t : Word × ℕ). reach P t.0 ≤ k)
    (λ t h. within_term P k v t.0 t.1 within h.0 h.1 h.2) v (coefficients-reduced Shortlex shortlex_strict same_word Decides-same_word P.prime v reduced))

-- a product that stays within a level is due by it
pub due_within : (P : Presentation) (k : ℕ) (w : Word) (r : AlgebraElement) → IsReduced ShortlexLetters P.prime r → Within P k (word_times w r) → (r ≡ []) ⊎ (due P w r ≤ k)
due_within P k w r reduced within =
    cases r
    (All-weaker (λ (t : List ℕ × ℕ). (coefficient same_letters r t.0 ≡ t.1) × (0 < t.1) × (t.1 < P.prime)) (λ (t : List ℕ × ℕ). reach P w + letters_weight P.weights t.0 ≤ k)
    at_term r (coefficients-reduced ShortlexLetters shortlex_letters_strict same_letters Decides-same_letters P.prime r reduced))
  where
    at_term : (t : List ℕ × ℕ) → (coefficient same_letters r t.0 ≡ t.1) × (0 < t.1) × (t.1 < P.prime) → reach P w + letters_weight P.weights t.0 ≤ k
    at_term t h =
        let e : reach P (times_all w t.0) ≤ k = within_term P k (word_times w r) (times_all w t.0) t.1 within (coefficient-word_times w r t.0 ∙ h.0) h.1 h.2 in
        omega (arith, reach-times_all P w t.0)

    cases : (s : AlgebraElement) → All (λ t. reach P w + letters_weight P.weights t.0 ≤ k) s → (s ≡ []) ⊎ (due P w s ≤ k)
    cases [] h = inl refl
    cases (t ∷ s) h =
        let first : reach P w + letters_weight P.weights t.0 ≤ k = All-head (λ (t : List ℕ × ℕ). reach P w + letters_weight P.weights t.0 ≤ k) t s h in
        let all : greatest (letters_weight P.weights) (t ∷ s) ≤ k - reach P w =
        greatest-le (letters_weight P.weights) (k - reach P w) (t ∷ s)
        (All-weaker (λ (t : List ℕ × ℕ). reach P w + letters_weight P.weights t.0 ≤ k) (λ (t : List ℕ × ℕ). letters_weight P.weights t.0 ≤ k - reach P w)
        (λ t h. omega arith) (t ∷ s) h) in
        inr (omega arith)
