-- The steps of a merge, at terms of the program.
use Rattle.std.proofs.Common.{◌≡◌, ℕ, ◌+◌, ◌%◌, ◌<◌, List, zero, suc, [], ◌∷◌, ◌++◌, refl, sym, arith}
use Rattle.std.proofs.Math.Nat.{mod-lt}
use Rattle.std.proofs.lemmas.List.{map-append}
use Rattle.ve_theory.specs.Combinations.{IsReduced, IsReducedOf}
use Rattle.ve_theory.specs.Words.{Shortlex, same_word}
use Rattle.ve_theory.specs.Elements.{Element}
use Rattle.ve_pres.specs.declared.term.Term.{Term}
use Rattle.ve_pres.specs.Terms.{pairs}
use Rattle.ve_pres.proofs.Merging.{IsMerging, merging_begins, merging_goes_on, merging_cancels, left_next, right_next, both_next, ends_with_left, ends_with_right}

pub begins : (p : ℕ) (sum left right : List Term) → IsReduced Shortlex p (pairs left) → IsReduced Shortlex p (pairs right) → sum ≡ [] → IsMerging p (pairs sum) (pairs left) (pairs right) (pairs left ++ pairs right)
begins p sum left right l r none = rw none (merging_begins p (pairs left) (pairs right) l r)

module _ (p : ℕ) (sum left right l r : List Term) (e : Element) (a b : Term) (left_is : left ≡ a ∷ l) (right_is : right ≡ b ∷ r) (old : IsMerging p (pairs sum) (pairs left) (pairs right) e) where
  shown : IsMerging p (pairs sum) (pairs (a ∷ l)) (pairs (b ∷ r)) e
  shown = rw (left_is, right_is) at old

  pub left_residue : a.coef < p
  unfolding IsReduced
  left_residue = shown.left.1

  pub right_residue : b.coef < p
  unfolding IsReduced
  right_residue = shown.right.1

  pub push_left : (new : List Term) (t : Term) → Shortlex b.word a.word → t ≡ a → new ≡ sum ++ t ∷ [] → IsMerging p (pairs new) (pairs l) (pairs right) e
  push_left new t less same new_is =
      rw (new_is, same, map-append, right_is)
      (merging_goes_on p (pairs sum) (pairs (a ∷ l)) (pairs (b ∷ r)) (pairs l) (pairs (b ∷ r)) e (a.word, a.coef) shown (left_next p (pairs l) (pairs r) (a.word, a.coef) (b.word, b.coef) shown.left shown.right less))

  pub push_right : (new : List Term) (t : Term) → Shortlex a.word b.word → t ≡ b → new ≡ sum ++ t ∷ [] → IsMerging p (pairs new) (pairs left) (pairs r) e
  push_right new t less same new_is =
      rw (new_is, same, map-append, left_is)
      (merging_goes_on p (pairs sum) (pairs (a ∷ l)) (pairs (b ∷ r)) (pairs (a ∷ l)) (pairs r) e (b.word, b.coef) shown (right_next p (pairs l) (pairs r) (a.word, a.coef) (b.word, b.coef) shown.left shown.right less))

  pub push_both :
      (new : List Term) → a.word ≡ b.word → ((a.coef + b.coef) % p ≡ 0 → new ≡ sum)
      → (0 < (a.coef + b.coef) % p → pairs new ≡ pairs sum ++ (a.word, (a.coef + b.coef) % p) ∷ []) → IsMerging p (pairs new) (pairs l) (pairs r) e
  push_both new same cancelled added = cases ((a.coef + b.coef) % p) refl
    where
      cases : (n : ℕ) → (a.coef + b.coef) % p ≡ n → IsMerging p (pairs new) (pairs l) (pairs r) e
      cases zero is = rw (cancelled is) (merging_cancels p 0 (pairs sum) (pairs l) (pairs r) e (a.word, a.coef) (b.word, b.coef) shown same (sym is) refl)
      cases (suc n) is =
          let positive : 0 < (a.coef + b.coef) % p = omega (arith, is) in
          let some : 0 < p = omega (arith, left_residue) in
          rw (added positive)
          (merging_goes_on p (pairs sum) (pairs (a ∷ l)) (pairs (b ∷ r)) (pairs l) (pairs r) e (a.word, (a.coef + b.coef) % p) shown
          (both_next p ((a.coef + b.coef) % p) (pairs l) (pairs r) (a.word, a.coef) (b.word, b.coef) shown.left shown.right same refl positive (mod-lt (a.coef + b.coef) some)))

-- one side is empty, and the other is copied

pub ends_left : (p : ℕ) (sum new left right : List Term) (e : Element) → left ≡ [] → new ≡ sum ++ right → IsMerging p (pairs sum) (pairs left) (pairs right) e → IsReducedOf Shortlex same_word p (pairs new) e
ends_left p sum new left right e none new_is old = rw (new_is, map-append) (ends_with_right p (pairs sum) (pairs right) e (rw none at old))

pub ends_right : (p : ℕ) (sum new left right : List Term) (e : Element) → right ≡ [] → new ≡ sum ++ left → IsMerging p (pairs sum) (pairs left) (pairs right) e → IsReducedOf Shortlex same_word p (pairs new) e
ends_right p sum new left right e none new_is old = rw (new_is, map-append) (ends_with_left p (pairs sum) (pairs left) e (rw none at old))
