-- Reduced lists of terms: what their coefficients are, and that alike ones are equal.
use Rattle.std.proofs.Common.{◌≡◌, ℕ, ◌+◌, ◌%◌, ◌<◌, ◌⊎◌, Bool, true, false, cond, List, [], ◌∷◌, All, Decides, slice_index_or, refl, sym, subst, ap, ap₂, ◌∙◌, inl, inr, arith, mod-eq_of_lt}
use Rattle.std.proofs.Math.Nat.{zero-mod}
use Rattle.std.proofs.lemmas.Bool.{cases_Bool, cond-true, cond-false, false_from_ne_true, true≢false}
use Rattle.std.proofs.lemmas.List.Elements.{All-nil, All-cons, All-weaker}
use Rattle.ve_theory.specs.Combinations.{Combination, coefficient, Alike, AllBefore, IsReduced, IsReducedOf}
use Rattle.ve_theory.specs.Words.{Word, letters, Shortlex, ShortlexLetters}
use Rattle.ve_theory.specs.Presentations.{Presentation, before}
use Rattle.ve_theory.proofs.Sums.{coefficient-absent}
use Rattle.ve_theory.proofs.Orders.{differs_irreflexive, differs_transitive, before_irreflexive, before_transitive}

pub record IsStrictOrder {K : Type 0} (before : K → K → Type 0) : Type 0 where
  pub irreflexive : (k : K) → before k k → ⊥
  pub transitive : (i j k : K) → before i j → before j k → before i k

pub All_from_AllBefore : {K : Type 0} (before : K → K → Type 0) (k : K) (v : Combination K) → AllBefore before k v → All (λ t. before t.0 k) v
unfolding AllBefore
All_from_AllBefore {K} before k [] h = All-nil (λ (t : K × ℕ). before t.0 k)
All_from_AllBefore {K} before k (t ∷ v) h = All-cons (λ (s : K × ℕ). before s.0 k) t v h.0 (All_from_AllBefore before k v h.1)

module _ {K : Type 0} (before : K → K → Type 0) (order : IsStrictOrder before) (same : K → K → Bool) (decides : (j k : K) → Decides (same j k) (j ≡ k)) where
  -- a key that all others are before is not among them
  coefficient_of_later : (k : K) (v : Combination K) → AllBefore before k v → coefficient same v k ≡ 0
  coefficient_of_later k v h =
      coefficient-absent same v k (All-weaker (λ (t : K × ℕ). before t.0 k) (λ (t : K × ℕ). same t.0 k ≡ false) differ v (All_from_AllBefore before k v h))
    where
      differ : (t : K × ℕ) → before t.0 k → same t.0 k ≡ false
      differ t h = false_from_ne_true (same t.0 k) (λ e. order.irreflexive k (subst (λ j. before j k) ((decides t.0 k).0 e) h))

  pub coefficient-first : (p : ℕ) (t : K × ℕ) (v : Combination K) → IsReduced before p (t ∷ v) → coefficient same (t ∷ v) t.0 ≡ t.1
  unfolding coefficient IsReduced
  coefficient-first p t v h =
      let here : cond (same t.0 t.0) t.1 0 ≡ t.1 = cond-true (same t.0 t.0) t.1 0 ((decides t.0 t.0).1 refl) in
      let rest : coefficient same v t.0 ≡ 0 = coefficient_of_later t.0 v h.2 in
      omega arith

  -- the coefficient of each key of a reduced list is the one that stands beside it
  pub coefficients-reduced : (p : ℕ) (v : Combination K) → IsReduced before p v → All (λ t. (coefficient same v t.0 ≡ t.1) × (0 < t.1) × (t.1 < p)) v
  unfolding coefficient IsReduced
  coefficients-reduced p [] h = All-nil (λ (t : K × ℕ). (coefficient same [] t.0 ≡ t.1) × (0 < t.1) × (t.1 < p))
  coefficients-reduced p (t ∷ v) h =
      All-cons (λ (s : K × ℕ). (coefficient same (t ∷ v) s.0 ≡ s.1) × (0 < s.1) × (s.1 < p)) t v (coefficient-first p t v h, h.0, h.1) (rest v (All_from_AllBefore before t.0 v h.2) (coefficients-reduced p v h.3))
    where
      later : (s : K × ℕ) (n : ℕ) → before s.0 t.0 → n ≡ s.1 → cond (same t.0 s.0) t.1 0 + n ≡ s.1
      later s n b e =
          let differ : same t.0 s.0 ≡ false = false_from_ne_true (same t.0 s.0) (λ e. order.irreflexive t.0 (subst (λ j. before j t.0) (sym ((decides t.0 s.0).0 e)) b)) in
          let none : cond (same t.0 s.0) t.1 0 ≡ 0 = cond-false (same t.0 s.0) t.1 0 differ in
          omega arith

      rest : (u : Combination K) → All (λ s. before s.0 t.0) u → All (λ s. (coefficient same v s.0 ≡ s.1) × (0 < s.1) × (s.1 < p)) u
          → All (λ s. (coefficient same (t ∷ v) s.0 ≡ s.1) × (0 < s.1) × (s.1 < p)) u
      rest u b c = λ k d l. let e = c k d l in (later (slice_index_or u k d) (coefficient same v (slice_index_or u k d).0) (b k d l) e.0, e.1, e.2)

  -- a key with a coefficient stands in the sum, so it is before what all the sum's keys are before
  stands_before : (k m : K) (v : Combination K) → AllBefore before m v → (coefficient same v k ≡ 0 → ⊥) → before k m
  unfolding coefficient AllBefore
  stands_before k m [] h some = absurd (some refl)
  stands_before k m (t ∷ v) h some = cases (same t.0 k) refl (stands_before k m v h.1)
    where
      cases : (b : Bool) → same t.0 k ≡ b → ((coefficient same v k ≡ 0 → ⊥) → before k m) → before k m
      cases true e rest = subst (λ j. before j m) ((decides t.0 k).0 e) h.0
      cases false e rest = rest (λ none. some (ap₂ (λ a n. a + n) (cond-false (same t.0 k) t.1 0 e) none))

  -- where u is alike to a reduced list, its coefficient at the first key is not 0
  first_counts : (p : ℕ) (t : K × ℕ) (v u : Combination K) → IsReduced before p (t ∷ v) → Alike same p (t ∷ v) u → coefficient same u t.0 ≡ 0 → ⊥
  unfolding IsReduced
  first_counts p t v u h alike none =
      let e : t.1 % p ≡ 0 % p = ap (λ n. n % p) (sym (coefficient-first p t v h)) ∙ (alike t.0 ∙ ap (λ n. n % p) none) in
      let r : t.1 % p ≡ t.1 = mod-eq_of_lt h.1 in
      omega (arith, zero-mod p, h.0)

  first_before : (p : ℕ) (s t : K × ℕ) (u v : Combination K) → IsReduced before p (s ∷ u) → IsReduced before p (t ∷ v) → Alike same p (s ∷ u) (t ∷ v)
      → (t.0 ≡ s.0 → ⊥) → before s.0 t.0
  unfolding IsReduced coefficient
  first_before p s t u v h k alike differ =
      stands_before s.0 t.0 v k.2
      (λ none. first_counts p s u (t ∷ v) h alike
      (ap₂ (λ a n. a + n) (cond-false (same t.0 s.0) t.1 0 (false_from_ne_true (same t.0 s.0) (λ e. differ ((decides t.0 s.0).0 e)))) none))

  rests_alike : (p : ℕ) (t : K × ℕ) (u v : Combination K) → IsReduced before p (t ∷ u) → IsReduced before p (t ∷ v) → Alike same p (t ∷ u) (t ∷ v) → Alike same p u v
  unfolding IsReduced coefficient
  rests_alike p t u v h k alike j = cases (same t.0 j) refl
    where
      cases : (b : Bool) → same t.0 j ≡ b → coefficient same u j % p ≡ coefficient same v j % p
      cases true e =
          let i : t.0 ≡ j = (decides t.0 j).0 e in
          ap (λ n. n % p) (coefficient_of_later j u (subst (λ i. AllBefore before i u) i h.2) ∙ sym (coefficient_of_later j v (subst (λ i. AllBefore before i v) i k.2)))
      cases false e =
          let none : cond (same t.0 j) t.1 0 ≡ 0 = cond-false (same t.0 j) t.1 0 e in
          let left : cond (same t.0 j) t.1 0 + coefficient same u j ≡ coefficient same u j = omega arith in
          let right : cond (same t.0 j) t.1 0 + coefficient same v j ≡ coefficient same v j = omega arith in
          ap (λ n. n % p) (sym left) ∙ (alike j ∙ ap (λ n. n % p) right)

  pub reduced_unique : (p : ℕ) (u v : Combination K) → IsReduced before p u → IsReduced before p v → Alike same p u v → u ≡ v
  unfolding IsReduced coefficient
  reduced_unique p [] [] h k alike = refl
  reduced_unique p [] (t ∷ v) h k alike = absurd (first_counts p t v [] k (λ j. sym (alike j)) refl)
  reduced_unique p (s ∷ u) [] h k alike = absurd (first_counts p s u [] h alike refl)
  reduced_unique p (s ∷ u) (t ∷ v) h k alike =
      ap₂ ◌∷◌ terms (reduced_unique p u v h.3 k.3 (rests_alike p t u v (subst (λ r. IsReduced before p (r ∷ u)) terms h) k (subst (λ r. Alike same p (r ∷ u) (t ∷ v)) terms alike)))
    where
      keys : s.0 ≡ t.0
      keys = cases (cases_Bool (same s.0 t.0))
        where
          cases : (same s.0 t.0 ≡ true) ⊎ (same s.0 t.0 ≡ false) → s.0 ≡ t.0
          cases (inl e) = (decides s.0 t.0).0 e
          cases (inr e) =
              let differ : s.0 ≡ t.0 → ⊥ = λ i. true≢false (sym ((decides s.0 t.0).1 i) ∙ e) in
              let one : before s.0 t.0 = first_before p s t u v h k alike (λ i. differ (sym i)) in
              let other : before t.0 s.0 = first_before p t s v u k h (λ j. sym (alike j)) differ in
              absurd (order.irreflexive s.0 (order.transitive s.0 t.0 s.0 one other))

      residues : s.1 ≡ t.1
      residues =
          sym (mod-eq_of_lt h.1)
          ∙ (ap (λ n. n % p) (sym (coefficient-first p s u h))
          ∙ (alike s.0
          ∙ (ap (λ j. coefficient same (t ∷ v) j % p) keys ∙ (ap (λ n. n % p) (coefficient-first p t v k) ∙ mod-eq_of_lt k.1))))

      terms : s ≡ t
      terms = λ i. (keys i, residues i)

  -- alike sums have one reduced list
  pub reduced_of_unique : (p : ℕ) (u v e f : Combination K) → IsReducedOf before same p u e → IsReducedOf before same p v f → Alike same p e f → u ≡ v
  reduced_of_unique p u v e f h k alike = reduced_unique p u v h.reduced k.reduced (λ j. h.alike j ∙ (alike j ∙ sym (k.alike j)))

-- the orders of the keys

pub below_strict : IsStrictOrder ◌<◌
below_strict = record { irreflexive = λ k h. omega arith; transitive = λ i j k g h. omega arith }

pub shortlex_letters_strict : IsStrictOrder ShortlexLetters
unfolding ShortlexLetters
shortlex_letters_strict = record { irreflexive = irreflexive; transitive = transitive }
  where
    irreflexive : (u : List ℕ) → ShortlexLetters u u → ⊥
    irreflexive u (inl h) = omega arith
    irreflexive u (inr h) = differs_irreflexive u h.1

    transitive : (u v w : List ℕ) → ShortlexLetters u v → ShortlexLetters v w → ShortlexLetters u w
    transitive u v w (inl g) (inl h) = inl (omega arith)
    transitive u v w (inl g) (inr h) = inl (omega (arith, h.0))
    transitive u v w (inr g) (inl h) = inl (omega (arith, g.0))
    transitive u v w (inr g) (inr h) = inr (g.0 ∙ h.0, differs_transitive u v w g.1 h.1)

pub shortlex_strict : IsStrictOrder Shortlex
unfolding Shortlex
shortlex_strict = record { irreflexive = irreflexive; transitive = transitive }
  where
    irreflexive : (w : Word) → Shortlex w w → ⊥
    irreflexive w (inl h) = omega arith
    irreflexive w (inr (e, inl h)) = omega arith
    irreflexive w (inr (e, inr h)) = differs_irreflexive (letters w) h.1

    transitive : (u v w : Word) → Shortlex u v → Shortlex v w → Shortlex u w
    transitive u v w (inl g) (inl h) = inl (omega arith)
    transitive u v w (inl g) (inr h) = inl (omega (arith, h.0))
    transitive u v w (inr g) (inl h) = inl (omega (arith, g.0))
    transitive u v w (inr (d, inl g)) (inr (e, inl h)) = inr (d ∙ e, inl (omega arith))
    transitive u v w (inr (d, inl g)) (inr (e, inr h)) = inr (d ∙ e, inl (omega (arith, h.0)))
    transitive u v w (inr (d, inr g)) (inr (e, inl h)) = inr (d ∙ e, inl (omega (arith, g.0)))
    transitive u v w (inr (d, inr g)) (inr (e, inr h)) = inr (d ∙ e, inr (g.0 ∙ h.0, differs_transitive (letters u) (letters v) (letters w) g.1 h.1))

-- a word of smaller weight, or as heavy and smaller, first
pub weighted_strict : (P : Presentation) → IsStrictOrder (before P)
weighted_strict P = record { irreflexive = before_irreflexive P; transitive = before_transitive P }
