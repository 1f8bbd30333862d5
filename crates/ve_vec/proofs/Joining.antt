-- Vectors of which one has all ids above the other's.
use Rattle.std.proofs.Common.{◌≡◌, ℕ, zero, suc, ◌-◌, ◌<◌, ◌≤◌, true, Some, IfSome, List, [], ◌∷◌, ◌++◌, length, slice_get, get_or, ltb, ap, arith}
use Rattle.std.proofs.lemmas.Bool.{ltb-true, lt-ltb}
use Rattle.std.proofs.lemmas.List.Elements.{All-nil, All-cons, All-head, All-tail}
use Rattle.ve_theory.specs.Combinations.{Combination, AllBefore, IsReduced}
use Rattle.ve_vec.specs.declared.term.Term.{Term}
use Rattle.ve_vec.specs.Terms.{pairs}
use Rattle.ve_vec.specs.Vectors.{AllIds}
use Rattle.ve_vec.proofs.Searching.{falls}

AllBefore-join : (j k : ℕ) (m s : Combination ℕ) → j < k → AllBefore ◌<◌ k m → AllBefore ◌≤◌ j s → AllBefore ◌<◌ k (m ++ s)
unfolding AllBefore
AllBefore-join j k [] [] less below rest = tt
AllBefore-join j k [] (t ∷ s) less below rest = (omega (arith, rest.0), AllBefore-join j k [] s less tt rest.1)
AllBefore-join j k (t ∷ m) s less below rest = (below.0, AllBefore-join j k m s less below.1 rest)

-- the ids of m are above k, and those of s are not
pub IsReduced-join : (p k : ℕ) (m s : Combination ℕ) → IsReduced ◌<◌ p m → IsReduced ◌<◌ p s → AllBefore (λ i j. j < i) k m → AllBefore ◌≤◌ k s → IsReduced ◌<◌ p (m ++ s)
unfolding IsReduced AllBefore
IsReduced-join p k [] s left right above rest = right
IsReduced-join p k (t ∷ m) s left right above rest =
    (left.0, left.1, AllBefore-join k t.0 m s above.0 left.2 rest, IsReduced-join p k m s left.3 right above.1 rest)

-- the same of a test
pub above_by_test : (k : ℕ) (m : Combination ℕ) → AllIds (λ id. ltb k id) m → AllBefore (λ i j. j < i) k m
unfolding AllBefore
above_by_test k [] all = tt
above_by_test k (t ∷ m) all =
    (ltb-true k t.0 (All-head (λ (t : ℕ × ℕ). ltb k t.0 ≡ true) t m all), above_by_test k m (All-tail (λ (t : ℕ × ℕ). ltb k t.0 ≡ true) t m all))

pub test_of_above : (k : ℕ) (m : Combination ℕ) → AllBefore (λ i j. j < i) k m → AllIds (λ id. ltb k id) m
unfolding AllBefore
test_of_above k [] above = All-nil (λ (t : ℕ × ℕ). ltb k t.0 ≡ true)
test_of_above k (t ∷ m) above = All-cons (λ (t : ℕ × ℕ). ltb k t.0 ≡ true) t m (lt-ltb k t.0 above.0) (test_of_above k m above.1)

above_each : (k : ℕ) (xs : List Term) → ((i : ℕ) (d : Term) → i < length xs → k < (get_or xs i d).id) → AllBefore (λ i j. j < i) k (pairs xs)
unfolding AllBefore
above_each k [] above = tt
above_each k (x ∷ xs) above = (above 0 x (omega arith), above_each k xs (λ i d within. above (suc i) d (omega arith)))

pub at_most : (j k : ℕ) (v : Combination ℕ) → j ≤ k → AllBefore ◌<◌ j v → AllBefore ◌≤◌ k v
unfolding AllBefore
at_most j k [] le below = tt
at_most j k (t ∷ v) le below = (omega (arith, below.0), at_most j k v le below.1)

pub greatest_first : (p a c : ℕ) (v : Combination ℕ) → slice_get v 0 ≡ Some (a, c) → IsReduced ◌<◌ p v → (0 < c) × AllBefore ◌≤◌ a v
unfolding AllBefore IsReduced
greatest_first p a c [] first reduced = absurd cc
greatest_first p a c (t ∷ v) first reduced =
    let same : t ≡ (a, c) = cc in
    (omega (arith, reduced.0, ap (λ s. s.1) same), (omega (arith, ap (λ s. s.0) same), at_most t.0 a v (omega (arith, ap (λ s. s.0) same)) reduced.2))

pub first_nonzero : (p : ℕ) (xs : List Term) → IsReduced ◌<◌ p (pairs xs) → IfSome (slice_get xs 0) (λ t. 0 < t.coef)
unfolding IsReduced
first_nonzero p [] reduced = tt
first_nonzero p (x ∷ xs) reduced = reduced.0

pub first_greatest : (p : ℕ) (xs : List Term) → IsReduced ◌<◌ p (pairs xs) → IfSome (slice_get xs 0) (λ t. AllBefore ◌≤◌ t.id (pairs xs))
unfolding AllBefore IsReduced
first_greatest p [] reduced = tt
first_greatest p (x ∷ xs) reduced = (omega arith, at_most x.id x.id (pairs xs) (omega arith) reduced.2)

got : (xs : List Term) (i : ℕ) (d x : Term) → slice_get xs i ≡ Some x → get_or xs i d ≡ x
got [] i d x e = cc
got (y ∷ xs) zero d x e = cc
got (y ∷ xs) (suc i) d x e = got xs i d x e

got_within : (xs : List Term) (i : ℕ) (x : Term) → slice_get xs i ≡ Some x → i < length xs
got_within [] i x e = cc
got_within (y ∷ xs) zero x e = omega arith
got_within (y ∷ xs) (suc i) x e = omega (arith, got_within xs i x e)

first_pair : (ys : List Term) (y : Term) → slice_get ys 0 ≡ Some y → slice_get (pairs ys) 0 ≡ Some (y.id, y.coef)
first_pair [] y e = cc
first_pair (x ∷ ys) y e = let same : x ≡ y = cc in ap (λ t. Some (t.id, t.coef)) same

-- the last of the one is above the first of the other
pub join_ends : (p : ℕ) (xs ys : List Term) (x y : Term) → slice_get xs (length xs - 1) ≡ Some x → slice_get ys 0 ≡ Some y → y.id < x.id
    → IsReduced ◌<◌ p (pairs xs) → IsReduced ◌<◌ p (pairs ys) → IsReduced ◌<◌ p (pairs xs ++ pairs ys)
join_ends p xs ys x y last first less left right =
    let within = got_within xs (length xs - 1) x last in
    let above = above_each y.id xs (λ i d inside.
    let least = falls p xs i (length xs - 1) d left (omega arith) within in
    omega (arith, ap (λ t. t.id) (got xs (length xs - 1) d x last))) in
    IsReduced-join p y.id (pairs xs) (pairs ys) left right above (greatest_first p y.id y.coef (pairs ys) (first_pair ys y first) right).1
