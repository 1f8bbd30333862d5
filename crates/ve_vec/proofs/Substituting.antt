-- A term replaced by its coefficient times another vector.
use Rattle.std.proofs.Common.{◌≡◌, ◌≢◌, ℕ, ◌+◌, ◌*◌, ◌%◌, ◌<◌, ◌≤◌, cond, not, inl, nat_eq, ltb, List, [], ◌∷◌, ◌++◌, refl, sym, ap, ◌∙◌, eq-eqb, arith}
use Rattle.std.proofs.lemmas.Bool.{ne_eqb}
use Rattle.std.proofs.lemmas.List.{map-append}
use Rattle.ve_theory.specs.Combinations.{Combination, scaled, coefficient, AllBefore, IsReduced, IsReducedOf}
use Rattle.ve_vec.specs.declared.term.Term.{Term}
use Rattle.ve_vec.specs.Terms.{pair_of, pairs}
use Rattle.ve_vec.specs.Vectors.{without}
use Rattle.ve_vec.proofs.Coefficients.{coefficient-append, coefficient-scaled, coefficient-below, coefficient-rest, coefficient-head}
use Rattle.ve_vec.proofs.ReducedLists.{AllBefore-higher, IsReduced-middle, IsReduced-drop_one, IsReduced-back}
use Rattle.ve_vec.proofs.Merging.{unchanged, exchanged}
use Rattle.ve_vec.proofs.Ids.{ids_of_sum}
use Rattle.ve_vec.proofs.Joining.{IsReduced-join, above_by_test, test_of_above, at_most}

-- the parts of the terms that a view shows
pub parts_of : {v : Combination ℕ} {items slice : List Term} {m : Combination ℕ} → pairs items ≡ v → slice ≡ items → pairs slice ≡ m → v ≡ m
parts_of view read whole = sym view ∙ ap pairs (sym read) ∙ whole

pub halves_of : {v : Combination ℕ} {items slice : List Term} (m r : List Term) → pairs items ≡ v → slice ≡ items → slice ≡ m ++ r → v ≡ pairs m ++ pairs r
halves_of m r view read whole = parts_of view read (ap pairs whole ∙ map-append pair_of m r)

pub first_below : (p k : ℕ) (m r : Combination ℕ) (t : ℕ × ℕ) (l : Combination ℕ) → IsReduced ◌<◌ p (m ++ r) → AllBefore ◌≤◌ k r → r ≡ t ∷ l → t.0 ≢ k → AllBefore ◌<◌ k r
unfolding AllBefore
first_below p k m r t l reduced rest r_is other =
    let first = IsReduced-middle p m l t (rw r_is at reduced) in
    let le : t.0 ≤ k = (rw r_is at rest).0 in
    rw r_is (omega arith, AllBefore-higher t.0 k l (omega arith) first.above)

-- the vector without k

without-other : (k : ℕ) (t : ℕ × ℕ) (v : Combination ℕ) → t.0 ≢ k → without k (t ∷ v) ≡ t ∷ without k v
without-other k t v other = ap (λ b. cond (not b) (t ∷ without k v) (without k v)) (ne_eqb t.0 k other)

without-here : (k c : ℕ) (v : Combination ℕ) → without k ((k, c) ∷ v) ≡ without k v
without-here k c v = ap (λ b. cond (not b) ((k, c) ∷ without k v) (without k v)) (eq-eqb k k refl)

without-above : (k : ℕ) (m w : Combination ℕ) → AllBefore (λ i j. j < i) k m → without k (m ++ w) ≡ m ++ without k w
unfolding AllBefore
without-above k [] w above = refl
without-above k (t ∷ m) w above = without-other k t (m ++ w) (omega (arith, above.0)) ∙ ap (λ l. t ∷ l) (without-above k m w above.1)

without-below : (k : ℕ) (v : Combination ℕ) → AllBefore ◌<◌ k v → without k v ≡ v
unfolding AllBefore
without-below k [] below = refl
without-below k (t ∷ v) below = without-other k t v (omega (arith, below.0)) ∙ ap (λ l. t ∷ l) (without-below k v below.1)

-- there is no term of k
pub missing : (k : ℕ) (v m r : Combination ℕ) → v ≡ m ++ r → AllBefore (λ i j. j < i) k m → AllBefore ◌<◌ k r → without k v ≡ v
missing k v m r v_is above below = rw v_is (without-above k m r above ∙ ap (λ l. m ++ l) (without-below k r below))

pub no_coefficient : (k : ℕ) (v m r : Combination ℕ) → v ≡ m ++ r → AllBefore (λ i j. j < i) k m → AllBefore ◌<◌ k r → coefficient nat_eq v k ≡ 0
no_coefficient k v m r v_is above below = rw v_is (coefficient-rest k m r above ∙ coefficient-below k k r (omega arith) below)

pub kept : (p k : ℕ) (v w : Combination ℕ) → IsReduced ◌<◌ p v → without k v ≡ v → coefficient nat_eq v k ≡ 0
    → IsReducedOf ◌<◌ nat_eq p v (without k v ++ scaled (coefficient nat_eq v k) w)
kept p k v w reduced same none = rw (same, none) (unchanged p 0 v w reduced (inl refl))

-- the coefficient of k is its term's
pub coefficient-around : (p k c : ℕ) (v m l : Combination ℕ) → IsReduced ◌<◌ p v → v ≡ m ++ (k, c) ∷ l → AllBefore (λ i j. j < i) k m → coefficient nat_eq v k ≡ c
coefficient-around p k c v m l reduced v_is above =
    rw v_is (coefficient-rest k m ((k, c) ∷ l) above ∙ coefficient-head p (k, c) l (IsReduced-back p m ((k, c) ∷ l) (rw v_is at reduced)))

-- the term of k has the coefficient c, and the other vector is h and then g
module _ (p k c : ℕ) (m h sum : Combination ℕ) (above : AllBefore (λ i j. j < i) k m) (higher : AllBefore (λ i j. j < i) k h) (of : IsReducedOf ◌<◌ nat_eq p sum (m ++ scaled c h)) where
  sum_above : AllBefore (λ i j. j < i) k sum
  sum_above =
      above_by_test k sum (ids_of_sum p c (λ id. ltb k id) m h sum of (test_of_above k m above) (test_of_above k h higher))

  pub rest_of_first : (l : Combination ℕ) → IsReduced ◌<◌ p (m ++ (k, c) ∷ l) → IsReduced ◌<◌ p (sum ++ l)
  rest_of_first l reduced =
      let first = IsReduced-middle p m l (k, c) reduced in
      IsReduced-join p k sum l of.reduced (IsReduced-back p m l (IsReduced-drop_one p m l (k, c) reduced)) sum_above
      (at_most k k l (omega arith) first.above)

  pub rest_of_other : (g : Combination ℕ) → IsReduced ◌<◌ p (h ++ g) → AllBefore ◌≤◌ k g → IsReduced ◌<◌ p (sum ++ g)
  rest_of_other g reduced lower = IsReduced-join p k sum g of.reduced (IsReduced-back p h g reduced) sum_above lower

  regrouped : (l g : Combination ℕ) (j : ℕ) → coefficient nat_eq (sum ++ (l ++ scaled c g)) j % p ≡ coefficient nat_eq ((m ++ l) ++ scaled c (h ++ g)) j % p
  regrouped l g j =
      exchanged p (coefficient nat_eq l j + c * coefficient nat_eq g j) (coefficient nat_eq sum j) (coefficient nat_eq (m ++ scaled c h) j) _ _
      (coefficient-append sum (l ++ scaled c g) j ∙ omega (arith, coefficient-append l (scaled c g) j, coefficient-scaled c g j))
      (coefficient-append (m ++ l) (scaled c (h ++ g)) j
      ∙ omega (
        arith,
        coefficient-append m l j,
        coefficient-scaled c (h ++ g) j,
        coefficient-append m (scaled c h) j,
        coefficient-scaled c h j,
        ap (λ n. c * n) (coefficient-append h g j),
      ))
      (of.alike j)

  pub replaced : (l g v w new : Combination ℕ) → v ≡ m ++ (k, c) ∷ l → w ≡ h ++ g → IsReduced ◌<◌ p v → IsReducedOf ◌<◌ nat_eq p new (sum ++ (l ++ scaled c g))
      → IsReducedOf ◌<◌ nat_eq p new (without k v ++ scaled (coefficient nat_eq v k) w)
  replaced l g v w new v_is w_is reduced done =
      let first = IsReduced-middle p m l (k, c) (rw v_is at reduced) in
      let left : without k v ≡ m ++ l =
      rw v_is (without-above k m ((k, c) ∷ l) above ∙ ap (λ r. m ++ r) (without-here k c l ∙ without-below k l first.above)) in
      rw (left, coefficient-around p k c v m l reduced v_is above, w_is) (record { reduced = done.reduced; alike = λ j. done.alike j ∙ regrouped l g j })
