-- The reduced list of a sum: there is one, and it has keys of the sum alone.
use Rattle.std.proofs.Common.{◌≡◌, ◌≢◌, ℕ, zero, suc, ◌+◌, ◌%◌, ◌<◌, ◌≤◌, ◌⊎◌, inl, inr, Bool, true, false, cond, nat_eq, [], ◌∷◌, ◌++◌, All, refl, sym, ap, ap₂, subst, ◌∙◌, arith, eq-eqb, ne_eqb, mod-eq_of_lt}
use Rattle.std.proofs.Math.Nat.{zero-mod}
use Rattle.std.proofs.lemmas.Nat.{mod_below}
use Rattle.std.proofs.lemmas.Bool.{cases_eq, cases_lt, cond-true, cond-false}
use Rattle.std.proofs.lemmas.List.Elements.{All-head, All-tail, All-weaker}
use Rattle.ve_theory.specs.Residues.{Congruent}
use Rattle.ve_theory.specs.Combinations.{Combination, coefficient, scaled, AllBefore, IsReduced, IsReducedOf}
use Rattle.ve_theory.specs.Answers.{Row}
use Rattle.ve_theory.proofs.Sums.{SameWeights, SameWeights-append, SameWeights-refl, SameWeights-trans, coefficient-absent, scaled-one, weights_from_Alike, Alike_from_weights, Decides-nat_eq}
use Rattle.ve_theory.proofs.Reduced.{below_strict, coefficients-reduced}
use Rattle.ve_vec.proofs.ReducedLists.{AllBefore-higher}

-- a key with a coefficient other than 0 stands in the sum
counted_key : (Q : ℕ → Type 0) (e : Combination ℕ) (k : ℕ) → All (λ t. Q t.0) e → (coefficient nat_eq e k ≡ 0 → ⊥) → Q k
unfolding coefficient
counted_key Q [] k all some = absurd (some refl)
counted_key Q (t ∷ e) k all some = cases (nat_eq t.0 k) refl (counted_key Q e k (All-tail (λ (s : ℕ × ℕ). Q s.0) t e all))
  where
    cases : (b : Bool) → nat_eq t.0 k ≡ b → ((coefficient nat_eq e k ≡ 0 → ⊥) → Q k) → Q k
    cases true is rest = subst Q ((Decides-nat_eq t.0 k).0 is) (All-head (λ (s : ℕ × ℕ). Q s.0) t e all)
    cases false is rest = rest (λ none. some (ap₂ (λ m n. m + n) (cond-false (nat_eq t.0 k) t.1 0 is) none))

-- what holds of the sum's keys holds of those of its reduced list
pub reduced_keys : (Q : ℕ → Type 0) (p : ℕ) (w e : Combination ℕ) → IsReducedOf ◌<◌ nat_eq p w e → All (λ t. Q t.0) e → All (λ t. Q t.0) w
reduced_keys Q p w e reduced all =
    All-weaker (λ (t : ℕ × ℕ). (coefficient nat_eq w t.0 ≡ t.1) × (0 < t.1) × (t.1 < p)) (λ (t : ℕ × ℕ). Q t.0)
    (λ t own. counted_key Q e t.0 all (λ none. counted t own.0 own.1 own.2 none))
    w (coefficients-reduced ◌<◌ below_strict nat_eq Decides-nat_eq p w reduced.reduced)
  where
    counted : (t : ℕ × ℕ) → coefficient nat_eq w t.0 ≡ t.1 → 0 < t.1 → t.1 < p → coefficient nat_eq e t.0 ≡ 0 → ⊥
    counted t own positive residue none =
        let same : t.1 % p ≡ 0 % p = ap (λ n. n % p) (sym own) ∙ (reduced.alike t.0 ∙ ap (λ n. n % p) none) in
        let itself : t.1 % p ≡ t.1 = mod-eq_of_lt residue in
        omega (arith, zero-mod p, same, itself, positive)

pub reduced_same : (p : ℕ) (w e : Combination ℕ) → IsReducedOf ◌<◌ nat_eq p w e → SameWeights p w e
reduced_same p w e reduced = weights_from_Alike nat_eq Decides-nat_eq p w e reduced.alike

-- both parts of a sum make it
pub joined : (p : ℕ) (left right new e : Row) → SameWeights p (left ++ right) e → IsReducedOf ◌<◌ nat_eq p new (left ++ scaled 1 right) → IsReducedOf ◌<◌ nat_eq p new e
joined p left right new e same new_is = record {
  reduced = new_is.reduced;
  alike = Alike_from_weights nat_eq
      (SameWeights-trans (reduced_same p new (left ++ scaled 1 right) new_is)
      (SameWeights-trans (SameWeights-append (SameWeights-refl p left) (scaled-one p right)) same));
}

-- a term is put first, unless its coefficient is 0
with_term : ℕ → ℕ → Combination ℕ → Combination ℕ
with_term k zero w = w
with_term k (suc c) w = (k, suc c) ∷ w

coefficient-with_term : (k c j : ℕ) (w : Combination ℕ) → coefficient nat_eq (with_term k c w) j ≡ cond (nat_eq k j) c 0 + coefficient nat_eq w j
unfolding with_term coefficient
coefficient-with_term k zero j w = omega (arith, either (nat_eq k j) 0)
  where
    either : (b : Bool) (n : ℕ) → cond b n n ≡ n
    either true n = refl
    either false n = refl
coefficient-with_term k (suc c) j w = refl

AllBefore-with_term : (k c : ℕ) (w : Combination ℕ) → AllBefore ◌<◌ k w → AllBefore ◌<◌ (suc k) (with_term k c w)
unfolding with_term AllBefore
AllBefore-with_term k zero w below = AllBefore-higher k (suc k) w (omega arith) below
AllBefore-with_term k (suc c) w below = (omega arith, AllBefore-higher k (suc k) w (omega arith) below)

IsReduced-with_term : (p k c : ℕ) (w : Combination ℕ) → c < p → AllBefore ◌<◌ k w → IsReduced ◌<◌ p w → IsReduced ◌<◌ p (with_term k c w)
unfolding with_term IsReduced
IsReduced-with_term p k zero w residue below reduced = reduced
IsReduced-with_term p k (suc c) w residue below reduced = (omega arith, residue, below, reduced)

module _ (p : ℕ) (v : Combination ℕ) (positive : 0 < p) where
  -- the terms of the keys below n, each once
  collected : ℕ → Combination ℕ
  collected zero = []
  collected (suc n) = with_term n (coefficient nat_eq v n % p) (collected n)

  collected_below : (n : ℕ) → AllBefore ◌<◌ n (collected n)
  unfolding collected AllBefore
  collected_below zero = tt
  collected_below (suc n) = AllBefore-with_term n (coefficient nat_eq v n % p) (collected n) (collected_below n)

  collected_reduced : (n : ℕ) → IsReduced ◌<◌ p (collected n)
  unfolding collected IsReduced
  collected_reduced zero = tt
  collected_reduced (suc n) =
      IsReduced-with_term p n (coefficient nat_eq v n % p) (collected n) (mod_below (coefficient nat_eq v n) p positive) (collected_below n) (collected_reduced n)

  collected_past : (n k : ℕ) → n ≤ k → coefficient nat_eq (collected n) k ≡ 0
  unfolding collected coefficient
  collected_past zero k le = refl
  collected_past (suc n) k le =
      let other : n ≢ k = λ same. omega (arith, le, same) in
      coefficient-with_term n (coefficient nat_eq v n % p) k (collected n)
      ∙ omega (arith, cond-false (nat_eq n k) (coefficient nat_eq v n % p) 0 (ne_eqb n k other), collected_past n k (omega (arith, le)))

  collected_here : (n k : ℕ) → k < n → coefficient nat_eq (collected n) k ≡ coefficient nat_eq v k % p
  unfolding collected
  collected_here zero k less = absurd (omega (arith, less))
  collected_here (suc n) k less = cases (cases_eq n k) (collected_here n k)
    where
      first : coefficient nat_eq (with_term n (coefficient nat_eq v n % p) (collected n)) k ≡ cond (nat_eq n k) (coefficient nat_eq v n % p) 0 + coefficient nat_eq (collected n) k
      first = coefficient-with_term n (coefficient nat_eq v n % p) k (collected n)

      cases : (n ≡ k) ⊎ (n ≢ k) → (k < n → coefficient nat_eq (collected n) k ≡ coefficient nat_eq v k % p)
          → coefficient nat_eq (with_term n (coefficient nat_eq v n % p) (collected n)) k ≡ coefficient nat_eq v k % p
      cases (inl same) before =
          first
          ∙ omega (arith, cond-true (nat_eq n k) (coefficient nat_eq v n % p) 0 (eq-eqb n k same), collected_past n k (omega (arith, same)), ap (λ m. coefficient nat_eq v m % p) same)
      cases (inr other) before =
          first ∙ omega (arith, cond-false (nat_eq n k) (coefficient nat_eq v n % p) 0 (ne_eqb n k other), before (omega (arith, other, less)))

  collected_alike : (n : ℕ) → All (λ t. t.0 < n) v → (k : ℕ) → Congruent p (coefficient nat_eq (collected n) k) (coefficient nat_eq v k)
  collected_alike n below k =
      elim (cases_lt k n) [
        | inl less ↦ ap (λ m. m % p) (collected_here n k less) ∙ mod-eq_of_lt (mod_below (coefficient nat_eq v k) p positive)
        | inr past ↦ ap (λ m. m % p) (collected_past n k past ∙ sym (coefficient-absent nat_eq v k
            (All-weaker (λ (t : ℕ × ℕ). t.0 < n) (λ (t : ℕ × ℕ). nat_eq t.0 k ≡ false) (λ t less. ne_eqb t.0 k (λ same. omega (arith, less, past, same))) v below)))
      ]

  -- a sum of keys below n has a reduced list
  pub reduced_sum : (n : ℕ) → All (λ t. t.0 < n) v → (w : Combination ℕ) × IsReducedOf ◌<◌ nat_eq p w v
  reduced_sum n below = (collected n, record { reduced = collected_reduced n; alike = collected_alike n below })
