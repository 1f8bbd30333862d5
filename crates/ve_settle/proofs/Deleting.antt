-- The greatest id of a vanishing vector, expressed by the others.
use Rattle.std.proofs.Common.{◌≡◌, ℕ, suc, ◌+◌, ◌-◌, ◌*◌, ◌%◌, ◌<◌, nat_eq, ◌∷◌, ◌++◌, length, All, refl, sym, ap, subst, ◌∙◌, arith, mod-eq_of_lt}
use Rattle.std.proofs.lemmas.List.Elements.{All-tail}
use Rattle.ve_theory.specs.Residues.{Congruent}
use Rattle.ve_theory.specs.Combinations.{Combination, unit, scaled, difference, IsReduced, IsReducedOf}
use Rattle.ve_theory.specs.Answers.{Row, IsRow}
use Rattle.ve_theory.specs.Derivations.{DerivedWithin}
use Rattle.ve_theory.proofs.Sums.{weigh, weigh-append, weigh-scaled, weigh-difference, weigh-extended, SameWeights, Alike_from_weights, weights_from_Alike, Decides-nat_eq, congruent-add, congruent-mul}
use Rattle.ve_theory.proofs.Independence.{congruent_by}
use Rattle.ve_theory.proofs.Reduced.{All_from_AllBefore}
use Rattle.ve_theory.proofs.Members.{All-scaled}
use Rattle.ve_theory.proofs.DerivedElements.{DerivedWithin-alike}
use Rattle.ve_table.specs.Tables.{ActionTable, presented, word_at, element_of, IsLive}
use Rattle.ve_table.specs.Sound.{IsForwardOf, HasLiveIds}
use Rattle.ve_machine.specs.Forwards.{IsDrawnFrom}
use Rattle.ve_settle.proofs.Derived.{DerivedWithin-scaled}
use Rattle.ve_machine.proofs.ReducedSums.{reduced_keys}

-- c is taken from p, and the inverse of the rest is i
module _ (m c rest i : ℕ) (whole : c + rest ≡ suc m) (inverse : Congruent (suc m) (rest * i) 1) where
  turned : Congruent (suc m) (m * i * c) 1
  turned =
      let split : i * (c + rest) ≡ i * suc m = ap (λ n. i * n) whole in
      congruent_by (suc m) (m * i * c) (rest * i) i (i * c) (omega (arith, split)) ∙ inverse

  cancelled : (w : ℕ) → Congruent (suc m) (c * (i * w) + w) 0
  cancelled w =
      let split : i * w * (c + rest) ≡ i * w * suc m = ap (λ n. i * w * n) whole in
      congruent-add (suc m) (c * (i * w)) (c * (i * w)) w (rest * i * w) refl (sym (congruent-mul (suc m) (rest * i) 1 w w inverse refl ∙ ap (λ n. n % suc m) (omega arith)))
      ∙ congruent_by (suc m) (c * (i * w) + rest * i * w) 0 0 (i * w) (omega (arith, split))

-- what is left of p
pub rest_of_prime : (p c rest : ℕ) → 0 < c → c < p → rest ≡ (p - c) % p → c + rest ≡ p
rest_of_prime p c rest positive residue rest_is =
    let itself : (p - c) % p ≡ p - c = mod-eq_of_lt (omega arith) in
    omega (arith, rest_is, itself)

pub rest_positive : (p c rest : ℕ) → 0 < c → c < p → rest ≡ (p - c) % p → 0 < rest
rest_positive p c rest positive residue rest_is = omega (arith, rest_of_prime p c rest positive residue rest_is)

pub first_reduced : (p : ℕ) (v others : Combination ℕ) (id c : ℕ) → v ≡ (id, c) ∷ others → IsReduced ◌<◌ p v → (0 < c) × (c < p) × IsReduced ◌<◌ p others
unfolding IsReduced
first_reduced p v others id c v_is reduced = let r : IsReduced ◌<◌ p ((id, c) ∷ others) = subst (λ u. IsReduced ◌<◌ p u) v_is reduced in (r.0, r.1, r.3)

-- the table's vector v has the first term (id, c); the forward is the other terms times i
module _ (T : ActionTable) (v others forward : Row) (id c rest i : ℕ) (v_is : v ≡ (id, c) ∷ others) (row : IsRow (presented T).prime (length T.words) v)
    (live : HasLiveIds T v) (rest_is : rest ≡ ((presented T).prime - c) % (presented T).prime) (inverse : Congruent (presented T).prime (rest * i) 1)
    (product : IsReducedOf ◌<◌ nat_eq (presented T).prime forward (scaled i others)) where
  m : ℕ
  m = (presented T).prime - 1

  reduced : IsReduced ◌<◌ (presented T).prime ((id, c) ∷ others)
  reduced = subst (λ u. IsReduced ◌<◌ (presented T).prime u) v_is row.0

  prime_is : (presented T).prime ≡ suc ((presented T).prime - 1)
  unfolding IsReduced
  prime_is = let r = reduced in omega (arith, r.1)

  whole : c + rest ≡ suc ((presented T).prime - 1)
  unfolding IsReduced
  whole = let r = reduced in rest_of_prime (presented T).prime c rest r.0 r.1 rest_is ∙ prime_is

  -- each id of the forward is one of the other ids
  keys : (Q : ℕ → Type 0) → All (λ t. Q t.0) v → All (λ t. Q t.0) forward
  keys Q all =
      reduced_keys Q (presented T).prime forward (scaled i others) product
      (All-scaled Q i others (All-tail (λ (t : ℕ × ℕ). Q t.0) (id, c) others (subst (λ u. All (λ t. Q t.0) u) v_is all)))

  pub forward_live : HasLiveIds T forward
  forward_live = keys (IsLive T) live

  forward_row : IsRow (presented T).prime (length T.words) forward
  forward_row = (product.reduced, keys (λ n. n < length T.words) row.1)

  forward_below : All (λ t. t.0 < id) forward
  unfolding IsReduced
  forward_below =
      reduced_keys (λ n. n < id) (presented T).prime forward (scaled i others) product
      (All-scaled (λ n. n < id) i others (All_from_AllBefore ◌<◌ id others reduced.2))

  same_product : SameWeights (presented T).prime forward (scaled i others)
  same_product = weights_from_Alike nat_eq Decides-nat_eq (presented T).prime forward (scaled i others) product.alike

  pub drawn : IsDrawnFrom (presented T).prime v id forward
  unfolding weigh
  drawn = record {
    coefficient = c;
    others = others;
    first = v_is;
    reduced = product.reduced;
    sum = Alike_from_weights nat_eq (record {
      at = λ h.
          let product_is : weigh h forward % (presented T).prime ≡ (i * weigh h others) % (presented T).prime =
          same_product.at h ∙ ap (λ n. n % (presented T).prime) (weigh-scaled h i others) in
          let parts : weigh h (scaled c forward ++ others) ≡ c * weigh h forward + weigh h others =
          weigh-append h (scaled c forward) others ∙ ap (λ n. n + weigh h others) (weigh-scaled h c forward) in
          ap (λ n. n % (presented T).prime) parts
          ∙ congruent-add (presented T).prime (c * weigh h forward) (c * (i * weigh h others)) (weigh h others) (weigh h others)
          (congruent-mul (presented T).prime c c (weigh h forward) (i * weigh h others) refl product_is) refl
          ∙ subst (λ q. Congruent q (c * (i * weigh h others) + weigh h others) 0) (sym prime_is)
          (cancelled ((presented T).prime - 1) c rest i whole (subst (λ q. Congruent q (rest * i) 1) prime_is inverse) (weigh h others));
    });
  }

  -- the vector, times the inverse of c, is the id less the forward
  same_element : SameWeights (presented T).prime (scaled (m * i) (element_of T v)) (difference (presented T).prime (unit (word_at T id)) (element_of T forward))
  unfolding weigh m
  same_element = record {
    at = λ h.
        let q : ℕ = (presented T).prime in
        let g : ℕ → ℕ = λ j. weigh h (unit (word_at T j)) in
        let n : ℕ = weigh g others in
        let left : weigh h (scaled (m * i) (element_of T v)) ≡ m * i * (c * g id + n) =
        weigh-scaled h (m * i) (element_of T v) ∙ ap (λ k. m * i * k) (weigh-extended h (λ j. unit (word_at T j)) v ∙ ap (weigh g) v_is) in
        let right : weigh h (difference q (unit (word_at T id)) (element_of T forward)) ≡ g id + m * weigh g forward =
        weigh-difference h q (unit (word_at T id)) (element_of T forward) ∙ ap (λ k. g id + m * k) (weigh-extended h (λ j. unit (word_at T j)) forward) in
        let others_are : Congruent q (i * n) (weigh g forward) = sym (same_product.at g ∙ ap (λ k. k % q) (weigh-scaled g i others)) in
        let once : Congruent q (m * i * c) 1 =
        subst (λ r. Congruent r (m * i * c) 1) (sym prime_is) (turned m c rest i whole (subst (λ r. Congruent r (rest * i) 1) prime_is inverse)) in
        ap (λ k. k % q) left ∙ ap (λ k. k % q) (split m i c (g id) n)
        ∙ congruent-add q (m * i * c * g id) (1 * g id) (m * (i * n)) (m * weigh g forward)
        (congruent-mul q (m * i * c) 1 (g id) (g id) once refl) (congruent-mul q m m (i * n) (weigh g forward) refl others_are)
        ∙ ap (λ k. k % q) (joined (g id) (m * weigh g forward)) ∙ ap (λ k. k % q) (sym right);
  }
    where
      split : (m i c a n : ℕ) → m * i * (c * a + n) ≡ m * i * c * a + m * (i * n)
      split m i c a n = omega arith

      joined : (a b : ℕ) → 1 * a + b ≡ a + b
      joined a b = omega arith

  pub forward_is : DerivedWithin (presented T) T.level (element_of T v) → IsForwardOf T id forward
  forward_is derived = record {
    stands = record {
      row = forward_row;
      derived = DerivedWithin-alike (presented T) T.level same_element (DerivedWithin-scaled (presented T) T.level (m * i) derived);
    };
    below = forward_below;
  }
