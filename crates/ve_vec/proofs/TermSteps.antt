-- The steps of a merge, at terms of the program.
use Rattle.std.proofs.Common.{◌≡◌, ℕ, ◌+◌, ◌*◌, ◌%◌, ◌<◌, nat_eq, List, [], ◌∷◌, ◌++◌, ◌∙◌, arith, length, drop, get_or, add-one}
use Rattle.std.proofs.Math.Nat.{add-mod-mod}
use Rattle.std.proofs.Math.Seq.{drop-cons}
use Rattle.std.proofs.lemmas.List.{map-append}
use Rattle.ve_theory.specs.Combinations.{Combination, AllBefore, IsReducedOf}
use Rattle.ve_vec.specs.declared.term.Term.{Term}
use Rattle.ve_vec.specs.Terms.{pair_of, pairs}
use Rattle.ve_vec.proofs.ReducedLists.{AllBefore-higher, IsMiddle, IsReduced-middle}
use Rattle.ve_vec.proofs.Merging.{Merging, take_left, take_right, take_both, cancel, finish_left}

module _ (p by : ℕ) (sum left right l r : List Term) (e : Combination ℕ) (a b : Term) (left_is : left ≡ a ∷ l) (right_is : right ≡ b ∷ r) (merging : Merging p by (pairs sum) (pairs left) (pairs right) e) where
  pub first_left : IsMiddle p (pair_of a) (pairs l)
  first_left = IsReduced-middle p (pairs sum) (pairs l) (pair_of a) (rw left_is at merging.left)

  pub first_right : IsMiddle p (pair_of b) (pairs r)
  first_right = IsReduced-middle p (pairs sum) (pairs r) (pair_of b) (rw right_is at merging.right)

  pub push_left : (new : List Term) → b.id < a.id → new ≡ sum ++ a ∷ [] → Merging p by (pairs new) (pairs l) (pairs right) e
  push_left new less new_is =
      rw (new_is, map-append, right_is)
      (take_left p by (pairs sum) (pairs l) (pairs r) e (pair_of a) (pair_of b) less (rw (left_is, right_is) at merging))

  pub push_right : (new : List Term) (c : ℕ) → a.id < b.id → 0 < c → c < p → c ≡ (by * b.coef) % p → new ≡ sum ++ (record { id = b.id; coef = c }) ∷ [] → Merging p by (pairs new) (pairs left) (pairs r) e
  unfolding AllBefore
  push_right new c less positive residue c_is new_is =
      let below : AllBefore ◌<◌ b.id (pair_of a ∷ pairs l) = (less, AllBefore-higher a.id b.id (pairs l) (omega arith) first_left.above) in
      rw (new_is, map-append)
      (take_right p by c (pairs sum) (pairs left) (pairs r) e (pair_of b) (rw left_is below) positive residue c_is (rw right_is at merging))

  pub push_both : (new : List Term) (product c : ℕ) → a.id ≡ b.id → 0 < c → c < p → product ≡ (by * b.coef) % p → c ≡ (a.coef + product) % p → new ≡ sum ++ (record { id = a.id; coef = c }) ∷ [] → Merging p by (pairs new) (pairs l) (pairs r) e
  push_both new product c same positive residue product_is c_is new_is =
      rw (new_is, map-append)
      (take_both p by c (pairs sum) (pairs l) (pairs r) e (pair_of a) (pair_of b) same positive residue
      (c_is ∙ rw product_is (add-mod-mod a.coef (by * b.coef) p)) (rw (left_is, right_is) at merging))

  pub push_none : (product c : ℕ) → a.id ≡ b.id → c ≡ 0 → product ≡ (by * b.coef) % p → c ≡ (a.coef + product) % p → Merging p by (pairs sum) (pairs l) (pairs r) e
  push_none product c same zero product_is c_is =
      cancel p by c (pairs sum) (pairs l) (pairs r) e (pair_of a) (pair_of b) same zero
      (c_is ∙ rw product_is (add-mod-mod a.coef (by * b.coef) p)) (rw (left_is, right_is) at merging)

-- the rest of the left follows
pub finish : (p by : ℕ) (sum new left right : List Term) (e : Combination ℕ) → right ≡ [] → new ≡ sum ++ left → Merging p by (pairs sum) (pairs left) (pairs right) e → IsReducedOf ◌<◌ nat_eq p (pairs new) e
finish p by sum new left right e none new_is merging =
    rw (new_is, map-append) (finish_left p by (pairs sum) (pairs left) e (rw none at merging))

-- the term at i of the right, where nothing is left of the left
module _ (p by : ℕ) (sum right : List Term) (i : ℕ) (d : Term) (e : Combination ℕ) (within : i < length right) (merging : Merging p by (pairs sum) [] (pairs (drop i right)) e) where
  next_is : drop i right ≡ get_or right i d ∷ drop (i + 1) right
  next_is = rw add-one (drop-cons right i d within)

  pub first_scaled : IsMiddle p (pair_of (get_or right i d)) (pairs (drop (i + 1) right))
  first_scaled = IsReduced-middle p (pairs sum) (pairs (drop (i + 1) right)) (pair_of (get_or right i d)) (rw next_is at merging.right)

  pub push_scaled : (new : List Term) (c : ℕ) → 0 < c → c < p → c ≡ (by * (get_or right i d).coef) % p → new ≡ sum ++ (record { id = (get_or right i d).id; coef = c }) ∷ [] → Merging p by (pairs new) [] (pairs (drop (i + 1) right)) e
  unfolding AllBefore
  push_scaled new c positive residue c_is new_is =
      rw (new_is, map-append)
      (take_right p by c (pairs sum) [] (pairs (drop (i + 1) right)) e (pair_of (get_or right i d)) tt positive residue c_is (rw next_is at merging))
