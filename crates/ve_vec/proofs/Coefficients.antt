-- Coefficients of sums whose keys fall.
use Rattle.std.proofs.Common.{◌≡◌, ◌≢◌, ℕ, zero, suc, ◌+◌, ◌*◌, ◌<◌, ◌≤◌, Bool, true, false, cond, nat_eq, List, [], ◌∷◌, ◌++◌, length, get_or, refl, ap, ◌∙◌, eq-eqb, arith}
use Rattle.std.proofs.lemmas.Bool.{cond-true, cond-false, ne_eqb}
use Rattle.ve_theory.specs.Combinations.{Combination, scaled, coefficient, AllBefore, IsReduced}
use Rattle.ve_vec.specs.declared.term.Term.{Term}
use Rattle.ve_vec.specs.Terms.{pairs}

pub coefficient-append : (u v : Combination ℕ) (k : ℕ) → coefficient nat_eq (u ++ v) k ≡ coefficient nat_eq u k + coefficient nat_eq v k
unfolding coefficient
coefficient-append [] v k = omega arith
coefficient-append (t ∷ u) v k = omega (arith, coefficient-append u v k)

pub coefficient-scaled : (c : ℕ) (v : Combination ℕ) (k : ℕ) → coefficient nat_eq (scaled c v) k ≡ c * coefficient nat_eq v k
unfolding coefficient scaled
coefficient-scaled c [] k = omega arith
coefficient-scaled c (t ∷ v) k = omega (arith, at_key (nat_eq t.0 k) c t.1, coefficient-scaled c v k)
  where
    at_key : (q : Bool) (c n : ℕ) → cond q (c * n) 0 ≡ c * cond q n 0
    at_key true c n = refl
    at_key false c n = omega arith

-- the first term is not the key's
pub coefficient-other : (t : ℕ × ℕ) (v : Combination ℕ) (k : ℕ) → t.0 ≢ k → coefficient nat_eq (t ∷ v) k ≡ coefficient nat_eq v k
unfolding coefficient
coefficient-other t v k other = omega (arith, cond-false (nat_eq t.0 k) t.1 0 (ne_eqb t.0 k other))

-- the first term is the key's
pub coefficient-first : (t : ℕ × ℕ) (v : Combination ℕ) → coefficient nat_eq (t ∷ v) t.0 ≡ t.1 + coefficient nat_eq v t.0
unfolding coefficient
coefficient-first t v = ap (λ n. n + coefficient nat_eq v t.0) (cond-true (nat_eq t.0 t.0) t.1 0 (eq-eqb t.0 t.0 refl))

-- all keys are below k
pub coefficient-below : (j k : ℕ) (v : Combination ℕ) → j ≤ k → AllBefore ◌<◌ j v → coefficient nat_eq v k ≡ 0
unfolding coefficient AllBefore
coefficient-below j k [] le below = refl
coefficient-below j k (t ∷ v) le below = coefficient-other t v k (omega (arith, below.0)) ∙ coefficient-below j k v le below.1

-- all keys are above k
pub coefficient-above : (k : ℕ) (v : Combination ℕ) → AllBefore (λ i j. j < i) k v → coefficient nat_eq v k ≡ 0
unfolding coefficient AllBefore
coefficient-above k [] above = refl
coefficient-above k (t ∷ v) above = coefficient-other t v k (omega (arith, above.0)) ∙ coefficient-above k v above.1

-- a term of keys that are all below k
pub AllBefore-at : (k : ℕ) (xs : List Term) (j : ℕ) (d : Term) → AllBefore ◌<◌ k (pairs xs) → j < length xs → (get_or xs j d).id < k
unfolding AllBefore
AllBefore-at k [] j d below within = absurd (omega arith)
AllBefore-at k (x ∷ xs) zero d below within = below.0
AllBefore-at k (x ∷ xs) (suc j) d below within = AllBefore-at k xs j d below.1 (omega arith)

-- the first term is its key's only one
pub coefficient-head : (p : ℕ) (t : ℕ × ℕ) (v : Combination ℕ) → IsReduced ◌<◌ p (t ∷ v) → coefficient nat_eq (t ∷ v) t.0 ≡ t.1
unfolding IsReduced
coefficient-head p t v reduced = omega (arith, coefficient-first t v, coefficient-below t.0 t.0 v (omega arith) reduced.2)

-- the first term is below k
pub coefficient-past : (p k : ℕ) (t : ℕ × ℕ) (v : Combination ℕ) → IsReduced ◌<◌ p (t ∷ v) → t.0 < k → coefficient nat_eq (t ∷ v) k ≡ 0
unfolding IsReduced
coefficient-past p k t v reduced less = coefficient-other t v k (omega arith) ∙ coefficient-below t.0 k v (omega arith) reduced.2

-- terms above k do not count
pub coefficient-rest : (k : ℕ) (m r : Combination ℕ) → AllBefore (λ i j. j < i) k m → coefficient nat_eq (m ++ r) k ≡ coefficient nat_eq r k
coefficient-rest k m r above = coefficient-append m r k ∙ omega (arith, coefficient-above k m above)
