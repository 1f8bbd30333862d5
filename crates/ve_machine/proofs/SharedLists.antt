-- What lists have after a write, a removal and at an end.
use Rattle.std.proofs.Common.{◌≡◌, ◌≢◌, ℕ, zero, suc, ◌+◌, ◌-◌, ◌<◌, ◌≤◌, ◌⊎◌, inl, inr, Some, List, [], ◌∷◌, length, take, drop, remove, get_or, All, Contains, refl, sym, ap, ◌∙◌, arith}
use Rattle.std.proofs.Math.ListN.{set}
use Rattle.std.specs.Prelude.{slice_get}
use Rattle.std.proofs.lemmas.Bool.{cases_eq, cases_lt}
use Rattle.std.proofs.lemmas.List.Edits.{get_or-remove_above, get_or-remove_below, length-remove}
use Rattle.std.proofs.lemmas.List.Elements.{All-append, All-drop, All-take}
use Rattle.std.proofs.lemmas.Option.{get_or_from_slice_get, none-some, slice_get_within}

pub set_else : {X : Type 0} (xs : List X) (i k : ℕ) (new : X) → k ≢ i → slice_get (set xs i new) k ≡ slice_get xs k
set_else [] i k new other = refl
set_else (x ∷ xs) zero zero new other = absurd (other refl)
set_else (x ∷ xs) zero (suc k) new other = refl
set_else (x ∷ xs) (suc i) zero new other = refl
set_else (x ∷ xs) (suc i) (suc k) new other = set_else xs i k new (λ same. other (ap suc same))

pub set_here : {X : Type 0} (xs : List X) (i : ℕ) (old new : X) → slice_get xs i ≡ Some old → slice_get (set xs i new) i ≡ Some new
set_here [] i old new is = absurd (none-some old is)
set_here (x ∷ xs) zero old new is = refl
set_here (x ∷ xs) (suc i) old new is = set_here xs i old new is

pub all_but : {X : Type 0} (P : X → Type 0) (xs : List X) (place : ℕ) → All P xs → All P (remove xs place)
all_but P xs place all = All-append P (take place xs) (drop (suc place) xs) (All-take P place xs all) (All-drop P (suc place) xs all)

-- the element that was removed, or one that is left
pub contains_but : {X : Type 0} (xs : List X) (place : ℕ) (x y : X) → slice_get xs place ≡ Some x → Contains xs y → (x ≡ y) ⊎ Contains (remove xs place) y
contains_but xs place x y is found =
    elim (cases_eq found.0 place) [
      | inl same ↦ inl (sym (get_or_from_slice_get xs place x y is) ∙ ap (λ k. get_or xs k y) (sym same) ∙ found.2)
      | inr other ↦ inr (elsewhere (cases_lt found.0 place) other)
    ]
  where
    within : place < length xs
    within = slice_get_within xs place x is

    elsewhere : (found.0 < place) ⊎ (place ≤ found.0) → found.0 ≢ place → Contains (remove xs place) y
    elsewhere (inl below) other = (found.0, omega (arith, below, within, length-remove xs place within), get_or-remove_below xs place y found.0 below within ∙ found.2)
    elsewhere (inr above) other =
        let on : found.0 - 1 + 1 ≡ found.0 = omega (arith, above, other) in (
          found.0 - 1,
          omega (arith, above, other, found.1, length-remove xs place within),
          get_or-remove_above xs place y (found.0 - 1) (omega (arith, above, other)) within ∙ ap (λ k. get_or xs k y) on ∙ found.2,
        )

-- an element is in the list, or not
pub decide_contains : {X : Type 0} → ((x y : X) → (x ≡ y) ⊎ (x ≢ y)) → (xs : List X) (y : X) → Contains xs y ⊎ ¬ Contains xs y
decide_contains decide [] y = inr (λ found. omega (arith, found.1))
decide_contains decide (x ∷ xs) y = first (decide x y) (decide_contains decide xs y)
  where
    first : (x ≡ y) ⊎ (x ≢ y) → Contains xs y ⊎ ¬ Contains xs y → Contains (x ∷ xs) y ⊎ ¬ Contains (x ∷ xs) y
    first (inl same) rest = inl (0, omega arith, same)
    first (inr other) (inl found) = inl (suc found.0, omega (arith, found.1), found.2)
    first (inr other) (inr absent) = inr (λ found. missing found.0 found.1 found.2)
      where
        missing : (k : ℕ) → k < length (x ∷ xs) → get_or (x ∷ xs) k y ≡ y → ⊥
        missing zero less same = other same
        missing (suc k) less same = absent (k, omega (arith, less), same)
