-- A term that is set among terms by falling id.
use Rattle.std.proofs.Common.{◌≡◌, ℕ, ◌+◌, ◌*◌, ◌%◌, ◌<◌, ◌≤◌, ◌≢◌, Bool, true, false, cond, suc, nat_eq, get_or, set, List, [], ◌∷◌, ◌++◌, length, take, drop, refl, sym, ap, subst, ◌∙◌, append_assoc, add-one, arith}
use Rattle.std.proofs.Math.Nat.{mod-eq_of_lt, mod-mod, zero-mod}
use Rattle.std.proofs.Math.Seq.{drop-cons}
use Rattle.std.proofs.lemmas.List.{take-append-drop, map-append, drop_all, set_split}
use Rattle.ve_theory.specs.Combinations.{Combination, scaled, coefficient, AllBefore, IsReduced, IsReducedOf}
use Rattle.ve_vec.specs.declared.term.Term.{Term}
use Rattle.ve_vec.specs.Terms.{pair_of, pairs}
use Rattle.ve_vec.proofs.Coefficients.{coefficient-append}
use Rattle.ve_vec.proofs.ReducedLists.{AllBefore-higher, IsMiddle, IsReduced-middle, IsReduced-back, IsReduced-front}
use Rattle.ve_vec.proofs.Joining.{IsReduced-join}
use Rattle.ve_vec.proofs.Merging.{Merging, take_right, take_both, cancel, finish_left, exchanged, at_key}

-- the terms before a place and those from it on
pub parts_at : (at : ℕ) (xs : List Term) → pairs xs ≡ pairs (take at xs) ++ pairs (drop at xs)
parts_at at xs = ap pairs (sym (take-append-drop at xs)) ∙ map-append pair_of (take at xs) (drop at xs)

-- no id is above k, and the first is another one
pub below_first : (p k : ℕ) (t : ℕ × ℕ) (l : Combination ℕ) → IsReduced ◌<◌ p (t ∷ l) → AllBefore ◌≤◌ k (t ∷ l) → t.0 ≢ k → AllBefore ◌<◌ k (t ∷ l)
unfolding IsReduced AllBefore
below_first p k t l reduced rest other = let less : t.0 < k = omega (arith, rest.0) in (less, AllBefore-higher t.0 k l (omega arith) reduced.2)

-- the coefficient at the place that a search answers

pub held_here : (at id : ℕ) (xs : List Term) (x : Term) → at < length xs → ((d : Term) → x ≡ get_or xs at d) → x.id ≡ id → drop at xs ≡ (record { id = id; coef = x.coef }) ∷ drop (at + 1) xs
held_here at id xs x within is same =
    rw add-one (drop-cons xs at x within ∙ ap (λ y. y ∷ drop (suc at) xs) (sym (is x) ∙ ap (λ i. record { id = i; coef = x.coef }) same))

pub other_here : (at id : ℕ) (xs : List Term) (x : Term) → AllBefore ◌≤◌ id (pairs (drop at xs)) → at < length xs → ((d : Term) → x ≡ get_or xs at d) → x.id ≢ id
    → (p : ℕ) → IsReduced ◌<◌ p (pairs (drop at xs)) → AllBefore ◌<◌ id (pairs (drop at xs))
other_here at id xs x rest within is other p reduced =
    let parts : drop at xs ≡ x ∷ drop (suc at) xs = drop-cons xs at x within ∙ ap (λ y. y ∷ drop (suc at) xs) (sym (is x)) in
    rw parts (below_first p id (pair_of x) (pairs (drop (suc at) xs)) (rw parts at reduced) (rw parts at rest) other)

pub none_here : (at id : ℕ) (xs : List Term) → length xs ≤ at → AllBefore ◌<◌ id (pairs (drop at xs))
unfolding AllBefore
none_here at id xs past = rw (drop_all at xs past) tt

-- the ids of m are above the new one
module _ (p id c : ℕ) (m r : Combination ℕ) (reduced : IsReduced ◌<◌ p (m ++ r)) (above : AllBefore (λ i j. j < i) id m) (positive : 0 < c) (residue : c < p) where
  abbrev total : Combination ℕ
  total = (m ++ r) ++ (id, c) ∷ []

  one_times : 1 * c ≡ c
  one_times = omega arith

  merging : Merging p 1 m r ((id, c) ∷ []) total
  unfolding scaled IsReduced AllBefore
  merging = record {
    left = reduced;
    right = IsReduced-join p id m ((id, c) ∷ []) (IsReduced-front p m r reduced) (positive, residue, tt, tt) above (omega arith, tt);
    alike = λ k. ap (λ w. coefficient nat_eq w k % p) (ap (λ n. m ++ (r ++ (id, n) ∷ [])) one_times ∙ sym (append_assoc m r ((id, c) ∷ [])));
  }

  is_product : c ≡ (1 * c) % p
  is_product = sym (ap (λ n. n % p) one_times ∙ mod-eq_of_lt residue)

  -- between others
  pub set_between : AllBefore ◌<◌ id r → IsReducedOf ◌<◌ nat_eq p (m ++ (id, c) ∷ r) total
  set_between below =
      let done = finish_left p 1 (m ++ (id, c) ∷ []) r total (take_right p 1 c m r [] total (id, c) below positive residue is_product merging) in
      rw append_assoc at done

  -- at its own id
  module _ (a s : ℕ) (l : Combination ℕ) (r_is : r ≡ (id, a) ∷ l) (sum_is : s ≡ (a + c) % p) where
    merging_here : Merging p 1 m ((id, a) ∷ l) ((id, c) ∷ []) total
    merging_here = subst (λ w. Merging p 1 m w ((id, c) ∷ []) total) r_is merging

    sum_of : s ≡ (a + 1 * c) % p
    sum_of = sum_is ∙ ap (λ n. (a + n) % p) (sym one_times)

    pub set_upon : 0 < s → s < p → IsReducedOf ◌<◌ nat_eq p (m ++ (id, s) ∷ l) total
    set_upon some less =
        let done = finish_left p 1 (m ++ (id, s) ∷ []) l total (take_both p 1 s m l [] total (id, a) (id, c) refl some less sum_of merging_here) in
        rw append_assoc at done

    pub set_against : s ≡ 0 → IsReducedOf ◌<◌ nat_eq p (m ++ l) total
    set_against none = finish_left p 1 m l total (cancel p 1 s m l [] total (id, a) (id, c) refl none sum_of merging_here)

-- a multiple that vanishes
pub nothing_added : (p by id c d : ℕ) (v : Combination ℕ) → IsReduced ◌<◌ p v → d ≡ (by * c) % p → d ≡ 0 → IsReducedOf ◌<◌ nat_eq p v (v ++ scaled by ((id, c) ∷ []))
unfolding scaled coefficient
nothing_added p by id c d v reduced product none = record {
  reduced = reduced;
  alike = λ k.
      exchanged p (coefficient nat_eq v k) (cond (nat_eq id k) 0 0) (cond (nat_eq id k) (by * c) 0) _ _
      (no_coefficient (nat_eq id k) (coefficient nat_eq v k)) (coefficient-append v ((id, by * c) ∷ []) k ∙ omega arith)
      (at_key p (nat_eq id k) 0 (by * c) (zero-mod p ∙ sym none ∙ product));
}
  where
    no_coefficient : (q : Bool) (n : ℕ) → n ≡ n + cond q 0 0
    no_coefficient true n = omega arith
    no_coefficient false n = omega arith

pub as_product : (p by id c d : ℕ) (v w : Combination ℕ) → d ≡ (by * c) % p → IsReducedOf ◌<◌ nat_eq p w (v ++ (id, d) ∷ []) → IsReducedOf ◌<◌ nat_eq p w (v ++ scaled by ((id, c) ∷ []))
unfolding scaled coefficient
as_product p by id c d v w product of = record {
  reduced = of.reduced;
  alike = λ k.
      of.alike k
      ∙ exchanged p (coefficient nat_eq v k) (cond (nat_eq id k) d 0) (cond (nat_eq id k) (by * c) 0) _ _
      (coefficient-append v ((id, d) ∷ []) k ∙ omega arith) (coefficient-append v ((id, by * c) ∷ []) k ∙ omega arith)
      (at_key p (nat_eq id k) d (by * c) (ap (λ n. n % p) product ∙ mod-mod (by * c) p));
}

-- the same at terms of the program

module _ (p id c at : ℕ) (xs : List Term) (reduced : IsReduced ◌<◌ p (pairs xs)) (above : AllBefore (λ i j. j < i) id (pairs (take at xs))) (positive : 0 < c) (residue : c < p) where
  in_parts : IsReduced ◌<◌ p (pairs (take at xs) ++ pairs (drop at xs))
  in_parts = subst (IsReduced ◌<◌ p) (parts_at at xs) reduced

  pub inserted : ((q : ℕ) → IsReduced ◌<◌ q (pairs (drop at xs)) → AllBefore ◌<◌ id (pairs (drop at xs))) → (new : List Term) → new ≡ take at xs ++ (record { id = id; coef = c }) ∷ drop at xs
      → IsReducedOf ◌<◌ nat_eq p (pairs new) (pairs xs ++ (id, c) ∷ [])
  inserted below new new_is =
      rw (new_is, map-append, parts_at at xs)
      (set_between p id c (pairs (take at xs)) (pairs (drop at xs)) in_parts above positive residue
      (below p (IsReduced-back p (pairs (take at xs)) (pairs (drop at xs)) in_parts)))

  module _ (a s : ℕ) (here : drop at xs ≡ (record { id = id; coef = a }) ∷ drop (at + 1) xs) where
    rest_is : pairs (drop at xs) ≡ (id, a) ∷ pairs (drop (at + 1) xs)
    rest_is = ap pairs here

    pub held_residue : a < p
    held_residue = (IsReduced-middle p (pairs (take at xs)) (pairs (drop (at + 1) xs)) (id, a) (rw rest_is at in_parts)).residue

    pub removed : s ≡ (a + c) % p → s ≡ 0 → (new : List Term) → new ≡ take at xs ++ drop (suc at) xs → IsReducedOf ◌<◌ nat_eq p (pairs new) (pairs xs ++ (id, c) ∷ [])
    removed sum_is none new new_is =
        rw (new_is ∙ ap (λ n. take at xs ++ drop n xs) (sym (add-one at)), map-append, parts_at at xs)
        (set_against p id c (pairs (take at xs)) (pairs (drop at xs)) in_parts above positive residue a s (pairs (drop (at + 1) xs)) rest_is sum_is none)

    pub replaced : s ≡ (a + c) % p → 0 < s → s < p → at < length xs → (new : List Term) → new ≡ set xs at (record { id = id; coef = s }) → IsReducedOf ◌<◌ nat_eq p (pairs new) (pairs xs ++ (id, c) ∷ [])
    replaced sum_is some less within new new_is =
        rw (new_is ∙ set_split xs at (record { id = id; coef = s }) within ∙ ap (λ n. take at xs ++ (record { id = id; coef = s }) ∷ drop n xs) (sym (add-one at)), map-append, parts_at at xs)
        (set_upon p id c (pairs (take at xs)) (pairs (drop at xs)) in_parts above positive residue a s (pairs (drop (at + 1) xs)) rest_is sum_is some less)

-- one term alone

pub alone : (xs : List Term) (d : Term) → 1 ≤ length xs → length xs < 2 → pairs xs ≡ ((get_or xs 0 d).id, (get_or xs 0 d).coef) ∷ []
alone [] d some few = absurd (omega arith)
alone (x ∷ []) d some few = refl
alone (x ∷ y ∷ xs) d some few = absurd (omega arith)

pub alone_of : {v : Combination ℕ} {items : List Term} (xs : List Term) (d : Term) → pairs items ≡ v → xs ≡ items → 1 ≤ length xs → length xs < 2
    → v ≡ ((get_or xs 0 d).id, (get_or xs 0 d).coef) ∷ []
alone_of xs d view read some few = sym view ∙ ap pairs (sym read) ∙ alone xs d some few

pub term_of : (p k c : ℕ) (v : Combination ℕ) → v ≡ (k, c) ∷ [] → IsReduced ◌<◌ p v → IsMiddle p (k, c) []
term_of p k c v is reduced = IsReduced-middle p [] [] (k, c) (subst (IsReduced ◌<◌ p) is reduced)
