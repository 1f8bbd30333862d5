-- What a merge of two vectors keeps true from term to term.
use Rattle.std.proofs.Common.{◌≡◌, ℕ, ◌+◌, ◌*◌, ◌%◌, ◌<◌, Bool, true, false, cond, ◌⊎◌, inl, inr, nat_eq, [], ◌∷◌, ◌++◌, refl, sym, ap, ◌∙◌, append_assoc, append-nil, arith}
use Rattle.std.proofs.Math.Nat.{add-mod, mod-mod, zero-mod}
use Rattle.ve_theory.specs.Combinations.{Combination, scaled, coefficient, Alike, AllBefore, IsReduced, IsReducedOf}
use Rattle.ve_vec.proofs.Coefficients.{coefficient-append, coefficient-scaled}
use Rattle.ve_vec.proofs.ReducedLists.{AllBefore-higher, IsReduced-middle, IsReduced-front, IsReduced-drop_one, IsReduced-insert, IsReduced-new_coefficient}

-- m is what is written, l and r are what is left, and e is the sum of all
pub record Merging (p by : ℕ) (m l r e : Combination ℕ) : Type 0 where
  pub left : IsReduced ◌<◌ p (m ++ l)
  pub right : IsReduced ◌<◌ p (m ++ r)
  pub alike : Alike nat_eq p (m ++ (l ++ scaled by r)) e

-- two sums differ by two numbers that are congruent
pub exchanged : (p x c d y z : ℕ) → y ≡ x + c → z ≡ x + d → c % p ≡ d % p → y % p ≡ z % p
exchanged p x c d y z y_is z_is same =
    rw (y_is, z_is) (add-mod x c p ∙ ap (λ n. (x % p + n) % p) same ∙ sym (add-mod x d p))

-- the same at the coefficient of one key
pub at_key : (p : ℕ) (q : Bool) (c d : ℕ) → c % p ≡ d % p → cond q c 0 % p ≡ cond q d 0 % p
at_key p true c d same = same
at_key p false c d same = refl

pub at_key-add : (p : ℕ) (q : Bool) (c a b : ℕ) → c % p ≡ (a + b) % p → cond q c 0 % p ≡ (cond q a 0 + cond q b 0) % p
at_key-add p true c a b same = same
at_key-add p false c a b same = refl

-- the greatest key is the left one's
pub take_left : (p by : ℕ) (m l r e : Combination ℕ) (a b : ℕ × ℕ) → b.0 < a.0 → Merging p by m (a ∷ l) (b ∷ r) e → Merging p by (m ++ a ∷ []) l (b ∷ r) e
unfolding AllBefore
take_left p by m l r e a b less merging =
    let next = IsReduced-middle p m r b merging.right in
    let below : AllBefore ◌<◌ a.0 (b ∷ r) = (less, AllBefore-higher b.0 a.0 r (omega arith) next.above) in
    record {
      left = rw append_assoc merging.left;
      right = rw append_assoc (IsReduced-insert p m l (b ∷ r) a merging.left merging.right below);
      alike = rw append_assoc merging.alike;
    }

-- what the left has is below the right's first key
pub take_right : (p by c : ℕ) (m l r e : Combination ℕ) (b : ℕ × ℕ) → AllBefore ◌<◌ b.0 l → 0 < c → c < p → c ≡ (by * b.1) % p → Merging p by m l (b ∷ r) e → Merging p by (m ++ (b.0, c) ∷ []) l r e
unfolding scaled coefficient
take_right p by c m l r e b below positive residue c_is merging =
    let product = IsReduced-new_coefficient p m r b.0 b.1 c merging.right positive residue in
    record {
      left = rw append_assoc (IsReduced-insert p m r l (b.0, c) product merging.left below);
      right = rw append_assoc product;
      alike = λ k.
          let rest = coefficient nat_eq m k + (coefficient nat_eq l k + coefficient nat_eq (scaled by r) k) in
          exchanged p rest (cond (nat_eq b.0 k) c 0) (cond (nat_eq b.0 k) (by * b.1) 0) _ _
          (rw append_assoc (coefficient-append m ((b.0, c) ∷ (l ++ scaled by r)) k ∙ omega (arith, coefficient-append l (scaled by r) k)))
          (coefficient-append m (l ++ (b.0, by * b.1) ∷ scaled by r) k ∙ omega (arith, coefficient-append l ((b.0, by * b.1) ∷ scaled by r) k))
          (at_key p (nat_eq b.0 k) c (by * b.1) (ap (λ n. n % p) c_is ∙ mod-mod (by * b.1) p))
          ∙ merging.alike k;
    }

-- both have the same first key, and the sum of their coefficients is c
sum_congruent : (p by c : ℕ) (m l r : Combination ℕ) (a b : ℕ × ℕ) (k : ℕ) → a.0 ≡ b.0 → c % p ≡ (a.1 + by * b.1) % p
    → (coefficient nat_eq m k + cond (nat_eq a.0 k) c 0 + (coefficient nat_eq l k + coefficient nat_eq (scaled by r) k)) % p ≡ coefficient nat_eq (m ++ ((a ∷ l) ++ scaled by (b ∷ r))) k % p
unfolding scaled coefficient
sum_congruent p by c m l r a b k same c_is =
    let rest = coefficient nat_eq m k + (coefficient nat_eq l k + coefficient nat_eq (scaled by r) k) in
    exchanged p rest (cond (nat_eq a.0 k) c 0) (cond (nat_eq a.0 k) a.1 0 + cond (nat_eq a.0 k) (by * b.1) 0) _ _
    (omega arith)
    (coefficient-append m (a ∷ (l ++ (b.0, by * b.1) ∷ scaled by r)) k
    ∙ (rw same (omega (arith, coefficient-append l ((b.0, by * b.1) ∷ scaled by r) k))))
    (at_key-add p (nat_eq a.0 k) c a.1 (by * b.1) c_is)

pub take_both : (p by c : ℕ) (m l r e : Combination ℕ) (a b : ℕ × ℕ) → a.0 ≡ b.0 → 0 < c → c < p → c ≡ (a.1 + by * b.1) % p → Merging p by m (a ∷ l) (b ∷ r) e → Merging p by (m ++ (a.0, c) ∷ []) l r e
unfolding scaled coefficient
take_both p by c m l r e a b same positive residue c_is merging =
    let total = IsReduced-new_coefficient p m l a.0 a.1 c merging.left positive residue in
    let next = IsReduced-middle p m r b merging.right in
    let others = IsReduced-drop_one p m r b merging.right in
    record {
      left = rw append_assoc total;
      right = rw append_assoc (IsReduced-insert p m l r (a.0, c) total others (rw same next.above));
      alike = λ k.
          ap (λ n. n % p)
          (let parts : coefficient nat_eq ((m ++ (a.0, c) ∷ []) ++ (l ++ scaled by r)) k ≡ coefficient nat_eq m k + cond (nat_eq a.0 k) c 0 + (coefficient nat_eq l k + coefficient nat_eq (scaled by r) k) =
          rw append_assoc (coefficient-append m ((a.0, c) ∷ (l ++ scaled by r)) k ∙ omega (arith, coefficient-append l (scaled by r) k)) in parts)
          ∙ sum_congruent p by c m l r a b k same (ap (λ n. n % p) c_is ∙ mod-mod (a.1 + by * b.1) p)
          ∙ merging.alike k;
    }

-- both have the same first key, and their coefficients cancel
pub cancel : (p by c : ℕ) (m l r e : Combination ℕ) (a b : ℕ × ℕ) → a.0 ≡ b.0 → c ≡ 0 → c ≡ (a.1 + by * b.1) % p → Merging p by m (a ∷ l) (b ∷ r) e → Merging p by m l r e
cancel p by c m l r e a b same zero c_is merging = record {
  left = IsReduced-drop_one p m l a merging.left;
  right = IsReduced-drop_one p m r b merging.right;
  alike = λ k.
      ap (λ n. n % p)
      (coefficient-append m (l ++ scaled by r) k
      ∙ omega (arith, coefficient-append l (scaled by r) k, at_nothing (nat_eq a.0 k)))
      ∙ sum_congruent p by 0 m l r a b k same (zero-mod p ∙ sym zero ∙ c_is)
      ∙ merging.alike k;
}
  where
    at_nothing : (q : Bool) → ◌≡◌ {A = ℕ} (cond q 0 0) 0
    at_nothing true = refl
    at_nothing false = refl

-- nothing stands on the left
pub start_right : (p by : ℕ) (m r : Combination ℕ) → IsReduced ◌<◌ p (m ++ r) → Merging p by m [] r (m ++ scaled by r)
start_right p by m r reduced = record { left = rw append-nil (IsReduced-front p m r reduced); right = reduced; alike = λ k. refl }

-- nothing is left of the right, and the rest of the left follows
pub finish_left : (p by : ℕ) (m l e : Combination ℕ) → Merging p by m l [] e → IsReducedOf ◌<◌ nat_eq p (m ++ l) e
unfolding scaled
finish_left p by m l e merging = record {
  reduced = merging.left;
  alike = λ k. rw append-nil at (merging.alike k);
}

-- nothing is added
pub unchanged : (p by : ℕ) (v o : Combination ℕ) → IsReduced ◌<◌ p v → (by ≡ 0) ⊎ (o ≡ []) → IsReducedOf ◌<◌ nat_eq p v (v ++ scaled by o)
unfolding scaled coefficient
unchanged p by v o reduced (inl zero_factor) = record {
  reduced = reduced;
  alike = λ k. ap (λ n. n % p) (sym (coefficient-append v (scaled by o) k ∙ omega (arith, coefficient-scaled by o k, ap (λ n. n * coefficient nat_eq o k) zero_factor)));
}
unchanged p by v o reduced (inr none) = rw none (record { reduced = reduced; alike = λ k. ap (λ w. coefficient nat_eq w k % p) (sym (append-nil v)) })

-- the right is put behind as it is
pub once_more : (p : ℕ) (m r : Combination ℕ) → IsReduced ◌<◌ p (m ++ r) → IsReducedOf ◌<◌ nat_eq p (m ++ r) (m ++ scaled 1 r)
once_more p m r reduced = record {
  reduced = reduced;
  alike = λ k. ap (λ n. n % p) (coefficient-append m r k ∙ omega (arith, coefficient-append m (scaled 1 r) k, coefficient-scaled 1 r k));
}
