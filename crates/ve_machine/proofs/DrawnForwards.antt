-- The forward that a vanishing vector gives its greatest id.
use Rattle.std.proofs.Common.{◌≡◌, ℕ, suc, ◌+◌, ◌-◌, ◌*◌, ◌%◌, ◌<◌, nat_eq, ◌∷◌, ◌++◌, length, All, refl, sym, ap, subst, ◌∙◌, arith}
use Rattle.std.proofs.lemmas.List.Elements.{All-head, All-tail}
use Rattle.ve_theory.specs.Residues.{Congruent}
use Rattle.ve_theory.specs.Combinations.{AllBefore, IsReduced, IsReducedOf, difference, scaled, unit}
use Rattle.ve_theory.specs.Derivations.{DerivedWithin}
use Rattle.ve_theory.specs.Answers.{Row, IsRow}
use Rattle.ve_theory.specs.Laws.{HasInverses}
use Rattle.ve_theory.proofs.Sums.{SameWeights, Alike_from_weights, Decides-nat_eq, congruent-add, congruent-mul, weigh, weigh-append, weigh-difference, weigh-extended, weigh-scaled, weights_from_Alike}
use Rattle.ve_theory.proofs.Independence.{congruent_by}
use Rattle.ve_theory.proofs.Reduced.{All_from_AllBefore}
use Rattle.ve_theory.proofs.Members.{All-scaled}
use Rattle.ve_theory.proofs.DerivedElements.{DerivedWithin-alike, DerivedWithin-combined, SameWeights-equal}
use Rattle.ve_table.specs.Tables.{ActionTable, element_of, presented, word_at}
use Rattle.ve_table.specs.Sound.{IsForwardOf, IsSound}
use Rattle.ve_machine.specs.Forwards.{IsDrawnFrom}
use Rattle.ve_machine.proofs.Forwardings.{positive_prime}
use Rattle.ve_machine.proofs.ReducedSums.{reduced_keys}

-- of two numbers that add up to zero, each is the negative of the other
opposite : (m a b : ℕ) → Congruent (suc m) (a + b) 0 → Congruent (suc m) a (m * b)
opposite m a b zero =
    congruent_by (suc m) a (a + b + m * b) b 0 (omega arith) ∙ congruent-add (suc m) (a + b) 0 (m * b) (m * b) zero refl ∙ ap (λ n. n % suc m) (omega arith)

-- c times f, and w, add up to zero, and i is the inverse of c
inverted : (p c i f w : ℕ) → Congruent p (c * i) 1 → Congruent p (c * f + w) 0 → Congruent p (f + i * w) 0
inverted p c i f w inverse zero =
    ap (λ n. n % p) (once f (i * w)) ∙ congruent-add p (1 * f) (c * i * f) (i * w) (i * w) (sym (congruent-mul p (c * i) 1 f f inverse refl)) refl
    ∙ ap (λ n. n % p) (joined c i f w) ∙ congruent-mul p i i (c * f + w) 0 refl zero ∙ ap (λ n. n % p) (nothing i)
  where
    once : (a b : ℕ) → a + b ≡ 1 * a + b
    once a b = omega arith

    joined : (c i f w : ℕ) → c * i * f + i * w ≡ i * (c * f + w)
    joined c i f w = omega arith

    nothing : (i : ℕ) → i * 0 ≡ 0
    nothing i = omega arith

module _ (inverses : HasInverses) (T : ActionTable) (sound : IsSound T) (v forward : Row) (id : ℕ) (row : IsRow (presented T).prime (length T.words) v)
    (drawn : IsDrawnFrom (presented T).prime v id forward) where
  abbrev p : ℕ
  p = (presented T).prime

  m : ℕ
  m = p - 1

  prime_is : suc (p - 1) ≡ p
  prime_is = omega (arith, positive_prime T sound)

  first : IsReduced ◌<◌ p ((id, drawn.coefficient) ∷ drawn.others)
  first = subst (λ u. IsReduced ◌<◌ p u) drawn.first row.0

  coefficient_positive : 0 < drawn.coefficient
  unfolding IsReduced
  coefficient_positive = first.0

  coefficient_residue : drawn.coefficient < p
  unfolding IsReduced
  coefficient_residue = first.1

  others_before : AllBefore ◌<◌ id drawn.others
  unfolding IsReduced
  others_before = first.2

  inverse : (i : ℕ) × (i < p) × Congruent p (drawn.coefficient * i) 1
  inverse = inverses p drawn.coefficient sound.valid.presentation.field coefficient_positive coefficient_residue

  i : ℕ
  i = inverse.0

  -- the forward, and the others times the inverse, add up to zero
  vanish : (h : ℕ → ℕ) → Congruent p (weigh h forward + i * weigh h drawn.others) 0
  unfolding weigh i
  vanish h =
      let sum : Congruent p (weigh h (scaled drawn.coefficient forward ++ drawn.others)) 0 = (weights_from_Alike nat_eq Decides-nat_eq p _ _ drawn.sum).at h in
      let parts : weigh h (scaled drawn.coefficient forward ++ drawn.others) ≡ drawn.coefficient * weigh h forward + weigh h drawn.others =
      weigh-append h (scaled drawn.coefficient forward) drawn.others ∙ ap (λ n. n + weigh h drawn.others) (weigh-scaled h drawn.coefficient forward) in
      inverted p drawn.coefficient inverse.0 (weigh h forward) (weigh h drawn.others) inverse.2 (ap (λ n. n % p) (sym parts) ∙ sum)

  abbrev raw : Row
  raw = scaled (m * i) drawn.others

  same_raw : SameWeights p forward raw
  unfolding m
  same_raw = record {
    at = λ h.
        subst (λ q. Congruent q (weigh h forward) ((p - 1) * (i * weigh h drawn.others))) prime_is
        (opposite (p - 1) (weigh h forward) (i * weigh h drawn.others) (subst (λ q. Congruent q (weigh h forward + i * weigh h drawn.others) 0) (sym prime_is) (vanish h)))
        ∙ ap (λ n. n % p) (sym (weigh-scaled h ((p - 1) * i) drawn.others ∙ grouped (p - 1) i (weigh h drawn.others)));
  }
    where
      grouped : (a b c : ℕ) → a * b * c ≡ a * (b * c)
      grouped a b c = omega arith

  is_reduced_of : IsReducedOf ◌<◌ nat_eq p forward raw
  is_reduced_of = record { reduced = drawn.reduced; alike = Alike_from_weights nat_eq same_raw }

  -- each id of the forward is one of the vector's
  pub drawn_keys : (Q : ℕ → Type 0) → All (λ t. Q t.0) v → All (λ t. Q t.0) forward
  drawn_keys Q all =
      reduced_keys Q p forward raw is_reduced_of
      (All-scaled Q (m * i) drawn.others (All-tail (λ (t : ℕ × ℕ). Q t.0) (id, drawn.coefficient) drawn.others (subst (λ u. All (λ t. Q t.0) u) drawn.first all)))

  pub drawn_holds : (Q : ℕ → Type 0) → All (λ t. Q t.0) v → Q id
  drawn_holds Q all = All-head (λ (t : ℕ × ℕ). Q t.0) (id, drawn.coefficient) drawn.others (subst (λ u. All (λ t. Q t.0) u) drawn.first all)

  pub drawn_below : All (λ t. t.0 < id) forward
  drawn_below =
      reduced_keys (λ n. n < id) p forward raw is_reduced_of
      (All-scaled (λ n. n < id) (m * i) drawn.others (All_from_AllBefore ◌<◌ id drawn.others others_before))

  -- the vector times the inverse is the id less its forward
  same_element : SameWeights p (scaled i (element_of T v)) (difference p (unit (word_at T id)) (element_of T forward))
  unfolding weigh i
  same_element = record {
    at = λ h.
        let g : ℕ → ℕ = λ j. weigh h (unit (word_at T j)) in
        let n : ℕ = weigh g drawn.others in
        let f : ℕ = weigh g forward in
        let c : ℕ = drawn.coefficient in
        let left : weigh h (scaled inverse.0 (element_of T v)) ≡ inverse.0 * (c * g id + n) =
        weigh-scaled h inverse.0 (element_of T v) ∙ ap (λ k. inverse.0 * k) (weigh-extended h (λ j. unit (word_at T j)) v ∙ ap (weigh g) drawn.first) in
        let right : weigh h (difference p (unit (word_at T id)) (element_of T forward)) ≡ g id + (p - 1) * f =
        weigh-difference h p (unit (word_at T id)) (element_of T forward) ∙ ap (λ k. g id + (p - 1) * k) (weigh-extended h (λ j. unit (word_at T j)) forward) in
        let zero : Congruent p (inverse.0 * n + f) 0 = ap (λ k. k % p) (swapped (inverse.0 * n) f) ∙ vanish g in
        let rest : Congruent p (inverse.0 * n) ((p - 1) * f) =
        subst (λ q. Congruent q (inverse.0 * n) ((p - 1) * f)) prime_is (opposite (p - 1) (inverse.0 * n) f (subst (λ q. Congruent q (inverse.0 * n + f) 0) (sym prime_is) zero)) in
        ap (λ k. k % p) (left ∙ split inverse.0 c (g id) n)
        ∙ congruent-add p (c * inverse.0 * g id) (1 * g id) (inverse.0 * n) ((p - 1) * f) (congruent-mul p (c * inverse.0) 1 (g id) (g id) inverse.2 refl) rest
        ∙ ap (λ k. k % p) (once (g id) ((p - 1) * f) ∙ sym right);
  }
    where
      split : (i c a n : ℕ) → i * (c * a + n) ≡ c * i * a + i * n
      split i c a n = omega arith

      swapped : (a b : ℕ) → a + b ≡ b + a
      swapped a b = omega arith

      once : (a b : ℕ) → 1 * a + b ≡ a + b
      once a b = omega arith

  scaled_once : SameWeights p (scaled i (element_of T v) ++ scaled 0 (element_of T v)) (scaled i (element_of T v))
  scaled_once = SameWeights-equal (λ h. simp (weigh-append, weigh-scaled) (omega arith))

  pub drawn_forward : DerivedWithin (presented T) T.level (element_of T v) → IsForwardOf T id forward
  drawn_forward derived = record {
    stands = record {
      row = (drawn.reduced, drawn_keys (λ n. n < length T.words) row.1);
      derived = DerivedWithin-alike (presented T) T.level same_element
          (DerivedWithin-alike (presented T) T.level scaled_once (DerivedWithin-combined (presented T) T.level i 0 derived derived));
    };
    below = drawn_below;
  }
