-- Greatest numbers over lists, and sums over them.
use Rattle.std.proofs.Common.{◌≡◌, ℕ, ◌+◌, ◌<◌, max, List, [], ◌∷◌, ◌++◌, length, get_or, take, refl, sym, ap, ◌∙◌, add-one, arith, sum_by}
use Rattle.std.proofs.Math.Seq.{take-suc}
use Rattle.std.proofs.lemmas.List.Sums.{sum_by-cons}
use Rattle.std.proofs.lemmas.List.{get_or_default}
use Rattle.ve_theory.specs.Presentations.{greatest_of}

pub greatest_of-append : {X : Type 0} (size : X → ℕ) (xs ys : List X) → greatest_of size (xs ++ ys) ≡ max (greatest_of size xs) (greatest_of size ys)
unfolding greatest_of
greatest_of-append size [] ys = omega arith
greatest_of-append size (x ∷ xs) ys = omega (arith, greatest_of-append size xs ys)

pub greatest_of-one : {X : Type 0} (size : X → ℕ) (x : X) → greatest_of size (x ∷ []) ≡ size x
unfolding greatest_of
greatest_of-one size x = omega arith

pub greatest_of-none : {X : Type 0} (size : X → ℕ) → greatest_of {X = X} size [] ≡ 0
unfolding greatest_of
greatest_of-none size = refl

pub greatest_of-take : {X : Type 0} (size : X → ℕ) (xs : List X) (i : ℕ) (x : X) → i < length xs → x ≡ get_or xs i x
    → greatest_of size (take (i + 1) xs) ≡ max (greatest_of size (take i xs)) (size x)
greatest_of-take size xs i x below is =
    let next : take (i + 1) xs ≡ take i xs ++ x ∷ [] = rw (add-one, take-suc xs i x) (ap (λ t. take i xs ++ t ∷ []) (sym is)) in
    ap (greatest_of size) next ∙ (greatest_of-append size (take i xs) (x ∷ []) ∙ ap (max (greatest_of size (take i xs))) (greatest_of-one size x))

pub sum_by-append : {X : Type 0} (f : X → ℕ) (xs ys : List X) → sum_by f (xs ++ ys) ≡ sum_by f xs + sum_by f ys
sum_by-append f [] ys = omega arith
sum_by-append f (x ∷ xs) ys = omega (arith, sum_by-cons f x (xs ++ ys), sum_by-cons f x xs, sum_by-append f xs ys)

pub greatest_of-take_number : (xs : List ℕ) (i : ℕ) → i < length xs → greatest_of (λ n. n) (take (i + 1) xs) ≡ max (greatest_of (λ n. n) (take i xs)) (get_or xs i 0)
greatest_of-take_number xs i below = greatest_of-take (λ n. n) xs i (get_or xs i 0) below (get_or_default xs i 0 (get_or xs i 0) below)
