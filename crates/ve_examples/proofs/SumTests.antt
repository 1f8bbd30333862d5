-- Tests of formal sums: that two have the same coefficients, and that no key is too far up.
use Rattle.std.proofs.Common.{◌≡◌, ℕ, ◌+◌, ◌%◌, ◌⊎◌, inl, inr, Bool, true, false, cond, ◌&&◌, nat_eq, nat_le, [], ◌∷◌, refl, sym, ap, ◌∙◌, subst, arith}
use Rattle.std.specs.List.{list_all}
use Rattle.std.proofs.lemmas.Bool.{and_parts, cases_Bool, cond-false, eqb-true, leb-true}
use Rattle.ve_theory.specs.Residues.{Congruent}
use Rattle.ve_theory.specs.Combinations.{Combination, coefficient, Alike}
use Rattle.ve_theory.specs.Words.{same_word}
use Rattle.ve_theory.specs.Elements.{Element}
use Rattle.ve_theory.specs.Presentations.{Presentation, reach}
use Rattle.ve_theory.specs.Derivations.{Within}
use Rattle.ve_examples.proofs.OrderTests.{same_word-true}

module _ {K : Type 0} (same : K → K → Bool) where
  abbrev pub agree_at : ℕ → Combination K → Combination K → K → Bool
  agree_at p u v k = nat_eq (coefficient same u k % p) (coefficient same v k % p)

  -- at each key of either sum
  abbrev pub are_alike : ℕ → Combination K → Combination K → Bool
  are_alike p u v = list_all (λ t. agree_at p u v t.0) u && list_all (λ t. agree_at p u v t.0) v

  module _ (equal : (j k : K) → same j k ≡ true → j ≡ k) where
    -- a test of the keys passes at k, or k is none of them
    at_key : (test : K → Bool) (v : Combination K) → list_all (λ t. test t.0) v ≡ true → (k : K) → (test k ≡ true) ⊎ (coefficient same v k ≡ 0)
    unfolding coefficient
    at_key test [] e k = inr refl
    at_key test (t ∷ v) e k =
        let parts = and_parts (test t.0) (list_all (λ s. test s.0) v) e in
        cases parts.0 (cases_Bool (same t.0 k)) (at_key test v parts.1 k)
      where
        cases : test t.0 ≡ true → (same t.0 k ≡ true) ⊎ (same t.0 k ≡ false) → (test k ≡ true) ⊎ (coefficient same v k ≡ 0)
            → (test k ≡ true) ⊎ (cond (same t.0 k) t.1 0 + coefficient same v k ≡ 0)
        cases passes (inl here) rest = inl (subst (λ j. test j ≡ true) (equal t.0 k here) passes)
        cases passes (inr other) (inl found) = inl found
        cases passes (inr other) (inr none) = inr (omega (arith, cond-false (same t.0 k) t.1 0 other))

    pub are_alike-true : (p : ℕ) (u v : Combination K) → are_alike p u v ≡ true → Alike same p u v
    are_alike-true p u v e k = cases (at_key (agree_at p u v) u parts.0 k) (at_key (agree_at p u v) v parts.1 k)
      where
        parts : (list_all (λ t. agree_at p u v t.0) u ≡ true) × (list_all (λ t. agree_at p u v t.0) v ≡ true)
        parts = and_parts (list_all (λ t. agree_at p u v t.0) u) (list_all (λ t. agree_at p u v t.0) v) e

        cases : (agree_at p u v k ≡ true) ⊎ (coefficient same u k ≡ 0) → (agree_at p u v k ≡ true) ⊎ (coefficient same v k ≡ 0)
            → Congruent p (coefficient same u k) (coefficient same v k)
        cases (inl found) other = eqb-true (coefficient same u k % p) (coefficient same v k % p) found
        cases (inr none) (inl found) = eqb-true (coefficient same u k % p) (coefficient same v k % p) found
        cases (inr none) (inr nowhere) = ap (λ n. n % p) (none ∙ sym nowhere)

-- elements and rows

abbrev pub are_alike_elements : ℕ → Element → Element → Bool
are_alike_elements p u v = are_alike same_word p u v

pub are_alike_elements-true : (p : ℕ) (u v : Element) → are_alike_elements p u v ≡ true → Alike same_word p u v
are_alike_elements-true p u v e = are_alike-true same_word same_word-true p u v e

abbrev pub are_alike_rows : ℕ → Combination ℕ → Combination ℕ → Bool
are_alike_rows p u v = are_alike nat_eq p u v

pub are_alike_rows-true : (p : ℕ) (u v : Combination ℕ) → are_alike_rows p u v ≡ true → Alike nat_eq p u v
are_alike_rows-true p u v e = are_alike-true nat_eq eqb-true p u v e

-- all words have reach at most k
abbrev pub reaches_within : Presentation → ℕ → Element → Bool
reaches_within P k v = list_all (λ t. nat_le (reach P t.0) k) v

pub reaches_within-true : (P : Presentation) (k : ℕ) (v : Element) → reaches_within P k v ≡ true → Within P k v
reaches_within-true P k v e w above = cases (at_key same_word same_word-true (λ u. nat_le (reach P u) k) v e w)
  where
    cases : (nat_le (reach P w) k ≡ true) ⊎ (coefficient same_word v w ≡ 0) → Congruent P.prime (coefficient same_word v w) 0
    cases (inl low) = absurd (omega (arith, leb-true (reach P w) k low))
    cases (inr none) = ap (λ n. n % P.prime) none
