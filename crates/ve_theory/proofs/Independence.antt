-- Least words are independent: a combination of them that is derived has no coefficient but 0.
use Rattle.std.proofs.Common.{◌≡◌, ℕ, zero, suc, ◌+◌, ◌*◌, ◌-◌, ◌%◌, ◌<◌, ◌≤◌, ◌⊎◌, inl, inr, Bool, true, false, cond, ltb, nat_eq, List, [], ◌∷◌, ◌++◌, length, get_or, All, refl, sym, ap, ap₂, ◌∙◌, subst, arith, ltb-true, ltb-false, ne_eqb, eq-eqb, pos_of_ne-zero}
use Rattle.std.proofs.Math.Nat.{add-mul-mod_self_left, zero-mod}
use Rattle.std.proofs.lemmas.Nat.{mod_below, mul-mod_first}
use Rattle.std.proofs.lemmas.Bool.{cases_lt, cases_eq, cases_order, cond-true, cond-false}
use Rattle.std.proofs.lemmas.List.Elements.{All-cons, All-nil, All-head, All-tail, All-weaker}
use Rattle.ve_theory.specs.Residues.{Congruent}
use Rattle.ve_theory.specs.Combinations.{Combination, unit, scaled, difference, extended, coefficient, Alike}
use Rattle.ve_theory.specs.Words.{Word, generator}
use Rattle.ve_theory.specs.Elements.{Element}
use Rattle.ve_theory.specs.Presentations.{Presentation, IsPresentation, IsWord, before}
use Rattle.ve_theory.specs.Derivations.{Derived}
use Rattle.ve_theory.specs.Levels.{IsEarlier, IsLeast, Lists}
use Rattle.ve_theory.proofs.Sums.{weigh, weigh-append, weigh-scaled, weigh-unit, weigh-extended, weigh-difference, SameWeights, SameWeights-extended, congruent-add, congruent-mul, coefficient-absent, weights_from_Alike, Decides-nat_eq, prime-large}
use Rattle.ve_theory.proofs.Inverses.{has_inverses}
use Rattle.ve_theory.proofs.DerivedElements.{Derived-alike, Derived-scaled}

-- numbers that differ by multiples of p
pub congruent_by : (p a b s t : ℕ) → a + p * s ≡ b + p * t → Congruent p a b
congruent_by p a b s t e = sym (add-mul-mod_self_left a p s) ∙ (ap (λ n. n % p) e ∙ add-mul-mod_self_left b p t)

-- the negative of the negative
pub congruent_negated_twice : (p n : ℕ) → 0 < p → Congruent p ((p - 1) * ((p - 1) * n)) n
congruent_negated_twice p n l = subst (λ q. Congruent q ((p - 1) * ((p - 1) * n)) n) whole (at (p - 1))
  where
    whole : suc (p - 1) ≡ p
    whole = omega arith

    at : (m : ℕ) → Congruent (suc m) (m * (m * n)) n
    at m = congruent_by (suc m) (m * (m * n)) n n (m * n) (omega arith)

-- the combination of words that a row stands for
abbrev pub of_row : List Word → Combination ℕ → Element
of_row ws row = extended (λ j. unit (get_or ws j (generator 0))) row

-- the terms with places below m
terms_below : ℕ → Combination ℕ → Combination ℕ
terms_below m [] = []
terms_below m (t ∷ v) = cond (ltb t.0 m) (t ∷ terms_below m v) (terms_below m v)

All-terms_below : (m : ℕ) (v : Combination ℕ) → All (λ t. t.0 < m) (terms_below m v)
unfolding terms_below
All-terms_below m [] = All-nil (λ (s : ℕ × ℕ). s.0 < m)
All-terms_below m (t ∷ v) = go (ltb t.0 m) refl (All-terms_below m v)
  where
    go : (b : Bool) → ltb t.0 m ≡ b → All (λ s. s.0 < m) (terms_below m v) → All (λ (s : ℕ × ℕ). s.0 < m) (cond b (t ∷ terms_below m v) (terms_below m v))
    go true e h = All-cons (λ (s : ℕ × ℕ). s.0 < m) t (terms_below m v) (ltb-true t.0 m e) h
    go false e h = h

coefficient-terms_below : (m : ℕ) (v : Combination ℕ) (j : ℕ) → j < m → coefficient nat_eq (terms_below m v) j ≡ coefficient nat_eq v j
unfolding terms_below coefficient
coefficient-terms_below m [] j l = refl
coefficient-terms_below m (t ∷ v) j l = go (ltb t.0 m) refl (coefficient-terms_below m v j l)
  where
    go : (b : Bool) → ltb t.0 m ≡ b → coefficient nat_eq (terms_below m v) j ≡ coefficient nat_eq v j
        → coefficient nat_eq (cond b (t ∷ terms_below m v) (terms_below m v)) j ≡ cond (nat_eq t.0 j) t.1 0 + coefficient nat_eq v j
    go true e h = ap (λ n. cond (nat_eq t.0 j) t.1 0 + n) h
    go false e h =
        let far : m ≤ t.0 = ltb-false t.0 m e in
        let apart : cond (nat_eq t.0 j) t.1 0 ≡ 0 = cond-false (nat_eq t.0 j) t.1 0 (ne_eqb t.0 j (λ same. omega arith)) in
        omega (arith, h, apart)

absent_above : (m : ℕ) (v : Combination ℕ) → All (λ t. t.0 < m) v → (j : ℕ) → m ≤ j → coefficient nat_eq v j ≡ 0
absent_above m v h j l =
    coefficient-absent nat_eq v j (All-weaker (λ (t : ℕ × ℕ). t.0 < m) (λ (t : ℕ × ℕ). nat_eq t.0 j ≡ false) (λ t below. ne_eqb t.0 j (λ same. omega arith)) v h)

-- a row without coefficients above m is its term at m, and the terms below
top_term : (p m : ℕ) (v : Combination ℕ) → ((j : ℕ) → m < j → Congruent p (coefficient nat_eq v j) 0)
    → Alike nat_eq p v (scaled (coefficient nat_eq v m) (unit m) ++ terms_below m v)
unfolding scaled coefficient
top_term p m v zeros j = cases (cases_order j m)
  where
    parts : coefficient nat_eq (scaled (coefficient nat_eq v m) (unit m) ++ terms_below m v) j ≡ cond (nat_eq m j) (coefficient nat_eq v m * 1) 0 + coefficient nat_eq (terms_below m v) j
    parts = refl

    cases : (j ≡ m) ⊎ ((j < m) ⊎ (m < j)) → Congruent p (coefficient nat_eq v j) (coefficient nat_eq (scaled (coefficient nat_eq v m) (unit m) ++ terms_below m v) j)
    cases (inl e) =
        let here : cond (nat_eq m j) (coefficient nat_eq v m * 1) 0 ≡ coefficient nat_eq v m * 1 = cond-true (nat_eq m j) (coefficient nat_eq v m * 1) 0 (eq-eqb m j (sym e)) in
        let below : coefficient nat_eq (terms_below m v) j ≡ 0 = absent_above m (terms_below m v) (All-terms_below m v) j (omega arith) in
        let same : coefficient nat_eq v j ≡ coefficient nat_eq v m = ap (coefficient nat_eq v) e in
        ap (λ n. n % p) (omega (arith, here, below, same))
    cases (inr (inl l)) =
        let here : cond (nat_eq m j) (coefficient nat_eq v m * 1) 0 ≡ 0 = cond-false (nat_eq m j) (coefficient nat_eq v m * 1) 0 (ne_eqb m j (λ same. omega arith)) in
        ap (λ n. n % p) (omega (arith, here, coefficient-terms_below m v j l))
    cases (inr (inr l)) =
        let here : cond (nat_eq m j) (coefficient nat_eq v m * 1) 0 ≡ 0 = cond-false (nat_eq m j) (coefficient nat_eq v m * 1) 0 (ne_eqb m j (λ same. omega arith)) in
        let below : coefficient nat_eq (terms_below m v) j ≡ 0 = absent_above m (terms_below m v) (All-terms_below m v) j (omega arith) in
        zeros j l ∙ ap (λ n. n % p) (omega (arith, here, below))

-- numbers in place of sums: a multiple of the sum with the term of coefficient c is the term alone, minus the rest
isolated_number : (p b c x r : ℕ) → 0 < p → Congruent p (c * b) 1 → Congruent p (b * (c * x + r)) (x + (p - 1) * ((p - 1) * b * r))
isolated_number p b c x r l e =
    ap (λ n. n % p) apart
    ∙ (congruent-add p (c * b * x) (1 * x) (b * r) ((p - 1) * ((p - 1) * (b * r))) (congruent-mul p (c * b) 1 x x e refl) (sym (congruent_negated_twice p (b * r) l))
    ∙ ap (λ n. n % p) (ap₂ (λ m n. m + (p - 1) * n) one (regrouped (p - 1))))
  where
    apart : b * (c * x + r) ≡ c * b * x + b * r
    apart = omega arith

    one : 1 * x ≡ x
    one = omega arith

    regrouped : (m : ℕ) → m * (b * r) ≡ m * b * r
    regrouped m = omega arith

module _ (P : Presentation) (V : IsPresentation P) (ws : List Word) (L : Lists P (IsLeast P) ws) where
  -- rows with places below m name words before the m-th
  IsEarlier-of_row : (m d : ℕ) → m < length ws → (v : Combination ℕ) → All (λ t. t.0 < m) v → IsEarlier P (get_or ws m (generator 0)) (scaled d (of_row ws v))
  unfolding scaled extended
  IsEarlier-of_row m d l [] h = All-nil (λ (t : Word × ℕ). IsWord P t.0 × before P t.0 (get_or ws m (generator 0)))
  IsEarlier-of_row m d l (t ∷ v) h =
      let here : t.0 < m = All-head (λ (s : ℕ × ℕ). s.0 < m) t v h in
      All-cons (λ (s : Word × ℕ). IsWord P s.0 × before P s.0 (get_or ws m (generator 0))) (get_or ws t.0 (generator 0), d * (t.1 * 1)) (scaled d (of_row ws v))
      ((L.only t.0 (generator 0) (omega arith)).word, L.rising t.0 m (generator 0) here l)
      (IsEarlier-of_row m d l v (All-tail (λ (s : ℕ × ℕ). s.0 < m) t v h))

  -- the greatest place of a derived combination has the coefficient 0
  zero_at : (v : Combination ℕ) → Derived P (of_row ws v) → (m : ℕ) → m < length ws → ((j : ℕ) → m < j → Congruent P.prime (coefficient nat_eq v j) 0)
      → Congruent P.prime (coefficient nat_eq v m) 0
  zero_at v d m l zeros = cases (cases_eq (coefficient nat_eq v m % P.prime) 0)
    where
      p : ℕ
      p = P.prime

      c : ℕ
      c = coefficient nat_eq v m

      w : Word
      w = get_or ws m (generator 0)

      rest : Element
      rest = of_row ws (terms_below m v)

      large : 1 < P.prime
      large = prime-large P.prime V.field

      word : ℕ → Element
      word j = unit (get_or ws j (generator 0))

      alone : (h : Word → ℕ) → weigh h (of_row ws (scaled c (unit m) ++ terms_below m v)) ≡ c * weigh h (unit w) + weigh h rest
      alone h =
          weigh-extended h word (scaled c (unit m) ++ terms_below m v)
          ∙ (weigh-append (λ j. weigh h (word j)) (scaled c (unit m)) (terms_below m v)
          ∙ ap₂ (λ a b. a + b) (weigh-scaled (λ j. weigh h (word j)) c (unit m) ∙ ap (λ n. c * n) (weigh-unit (λ j. weigh h (word j)) m)) (sym (weigh-extended h word (terms_below m v))))

      same : SameWeights p (of_row ws v) (of_row ws (scaled c (unit m) ++ terms_below m v))
      same = SameWeights-extended word (weights_from_Alike nat_eq Decides-nat_eq p v (scaled c (unit m) ++ terms_below m v) (top_term p m v zeros))

      isolated : (b : ℕ) → Congruent p (c * b) 1 → SameWeights p (scaled b (of_row ws v)) (difference p (unit w) (scaled ((p - 1) * b) rest))
      isolated b e = record {
        at = λ h.
            ap (λ n. n % p) (weigh-scaled h b (of_row ws v))
            ∙ (congruent-mul p b b (weigh h (of_row ws v)) (weigh h (of_row ws (scaled c (unit m) ++ terms_below m v))) refl (same.at h)
            ∙ (ap (λ n. b * n % p) (alone h)
            ∙ (isolated_number p b c (weigh h (unit w)) (weigh h rest) (omega (arith, large)) e
            ∙ ap (λ n. n % p) (sym (weigh-difference h p (unit w) (scaled ((p - 1) * b) rest) ∙ ap (λ n. weigh h (unit w) + (p - 1) * n) (weigh-scaled h ((p - 1) * b) rest))))));
      }

      impossible : (b : ℕ) → Congruent p (c * b) 1 → ⊥
      impossible b e =
          (L.only m (generator 0) l).irreducible (scaled ((p - 1) * b) rest) (IsEarlier-of_row m ((p - 1) * b) l (terms_below m v) (All-terms_below m v))
          (Derived-alike P (isolated b e) (Derived-scaled P b d))

      cases : (c % p ≡ 0) ⊎ (c % p ≡ 0 → ⊥) → Congruent p c 0
      cases (inl e) = e ∙ sym (zero-mod p)
      cases (inr e) =
          let inverse = has_inverses p (c % p) V.field (pos_of_ne-zero e) (mod_below c p (omega (arith, large))) in
          absurd (impossible inverse.0 (sym (mul-mod_first c inverse.0 p) ∙ inverse.2))

  zeros_from : (v : Combination ℕ) → All (λ t. t.0 < length ws) v → Derived P (of_row ws v) → (gap j : ℕ) → length ws ≤ j + gap → Congruent P.prime (coefficient nat_eq v j) 0
  zeros_from v h d zero j l = ap (λ n. n % P.prime) (absent_above (length ws) v h j (omega arith))
  zeros_from v h d (suc gap) j l = cases (zeros_from v h d gap) (cases_lt (j + gap) (length ws))
    where
      cases : ((i : ℕ) → length ws ≤ i + gap → Congruent P.prime (coefficient nat_eq v i) 0) → (j + gap < length ws) ⊎ (length ws ≤ j + gap) → Congruent P.prime (coefficient nat_eq v j) 0
      cases later (inl m) = zero_at v d j (omega arith) (λ i n. later i (omega arith))
      cases later (inr m) = later j m

  -- a derived combination of least words has no coefficient but 0
  pub least_words_independent : (v : Combination ℕ) → All (λ t. t.0 < length ws) v → Derived P (of_row ws v) → (j : ℕ) → Congruent P.prime (coefficient nat_eq v j) 0
  least_words_independent v h d j = zeros_from v h d (length ws) j (omega arith)
