-- Words that are compared byte by byte.
use Rattle.std.proofs.Common.{◌≡◌, ℕ, ◌&&◌, List, [], ◌∷◌, nat_eq, refl, ap}
use Rattle.ve_theory.specs.Words.{same_letters}
use lib.Pointwise.{pointwise}

pub same_letters-pointwise : (u v : List ℕ) → pointwise nat_eq u v ≡ same_letters u v
unfolding same_letters
same_letters-pointwise [] [] = refl
same_letters-pointwise [] (y ∷ v) = refl
same_letters-pointwise (x ∷ u) [] = refl
same_letters-pointwise (x ∷ u) (y ∷ v) = ap (λ t. nat_eq x y && t) (same_letters-pointwise u v)
