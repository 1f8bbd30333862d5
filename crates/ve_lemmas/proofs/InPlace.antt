-- A list that is mapped in its place, from the front.
use Rattle.std.proofs.Common.{◌≡◌, ℕ, zero, suc, ◌+◌, ◌<◌, ◌≤◌, List, [], ◌∷◌, ◌++◌, length, map, take, drop, get_or, refl, ap, ◌∙◌, append-nil}
use Rattle.std.proofs.Math.ListN.{set}
use Rattle.std.proofs.lemmas.List.{drop_all, get_or_default, take_all}
use Rattle.std.proofs.lemmas.List.Edits.{map_over_more}

-- what is not yet mapped is as it was
pub get_or-unmapped : {X : Type 0} (f : X → X) (xs : List X) (i : ℕ) (d : X) → get_or (map f (take i xs) ++ drop i xs) i d ≡ get_or xs i d
get_or-unmapped f [] zero d = refl
get_or-unmapped f [] (suc i) d = refl
get_or-unmapped f (x ∷ xs) zero d = refl
get_or-unmapped f (x ∷ xs) (suc i) d = get_or-unmapped f xs i d

pub map_next : {X : Type 0} (f : X → X) (xs ys : List X) (i : ℕ) (d new : X) → i < length xs → i < length ys → ys ≡ map f (take i xs) ++ drop i xs → new ≡ f (get_or ys i d)
    → set ys i new ≡ map f (take (i + 1) xs) ++ drop (i + 1) xs
map_next f xs ys i d new inside within ys_are new_is =
    ap (set ys i) new_is ∙ map_over_more f xs ys i (get_or ys i d) inside ys_are (get_or_default ys i d (get_or ys i d) within)

-- all of it is mapped
pub map_whole : {X : Type 0} (f : X → X) (xs ys : List X) (i : ℕ) → length xs ≤ i → ys ≡ map f (take i xs) ++ drop i xs → ys ≡ map f xs
map_whole f xs ys i past ys_are =
    ys_are ∙ (ap (λ l. map f (take i xs) ++ l) (drop_all i xs past) ∙ (append-nil (map f (take i xs)) ∙ ap (map f) (take_all i xs past)))
