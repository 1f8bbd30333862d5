-- Members of lists, and what holds of all elements.
use Rattle.std.proofs.Common.{◌≡◌, ℕ, ◌<◌, inl, inr, Bool, true, false, cond, List, [], ◌∷◌, length, All, Contains, Some, slice_get, sym, ap, subst, ◌∙◌, arith}
use Rattle.std.specs.Prelude.{filter}
use Rattle.std.specs.List.{range_with_len}
use Rattle.std.proofs.lemmas.Bool.{cond-true}
use Rattle.std.proofs.lemmas.List.FromFn.{get_or-range_with_len, length-range_with_len}
use Rattle.std.proofs.lemmas.Option.{slice_get_within, get_or_from_slice_get}
pub use Rattle.ve_theory.proofs.Members.{Contains-here, Contains-later, Contains-nil, Contains-cons, Contains-map, All-front, All-last}

pub Contains-slice_get : {X : Type 0} (xs : List X) (x : X) (i : ℕ) → slice_get xs i ≡ Some x → Contains xs x
Contains-slice_get xs x i h = (i, slice_get_within xs i x h, get_or_from_slice_get xs i x x h)

-- what holds of all elements holds of the one at a place
pub All-slice_get : {X : Type 0} (P : X → Type 0) (xs : List X) (i : ℕ) (x : X) → slice_get xs i ≡ Some x → All P xs → P x
All-slice_get P xs i x is all = subst P (get_or_from_slice_get xs i x x is) (all i x (slice_get_within xs i x is))

-- what passes a filter
pub Contains-filter : {X : Type 0} (p : X → Bool) (xs : List X) (x : X) → Contains xs x → p x ≡ true → Contains (filter p xs) x
Contains-filter p [] x found passes = absurd (omega (arith, found.1))
Contains-filter p (y ∷ ys) x found passes =
    elim (Contains-cons y x ys found) [
      | inl here ↦ subst (λ l. Contains l x) (sym (cond-true (p y) (y ∷ filter p ys) (filter p ys) (ap p here ∙ passes))) (subst (Contains (y ∷ filter p ys)) here (Contains-here y (filter p ys)))
      | inr there ↦ kept (p y) (Contains-filter p ys x there passes)
    ]
  where
    kept : (b : Bool) → Contains (filter p ys) x → Contains (cond b (y ∷ filter p ys) (filter p ys)) x
    kept true found = Contains-later y x (filter p ys) found
    kept false found = found

-- the numbers below a bound
pub range_below : (n : ℕ) → All (λ x. x < n) (range_with_len 0 n)
range_below n k d lt = let in' : k < n = omega (arith, lt, length-range_with_len 0 n) in let e = get_or-range_with_len 0 n k d in' in omega (arith, e, in')
