-- Names are equal or not.
use Rattle.std.proofs.Common.{◌≡◌, ◌≢◌, ℕ, true, false, List, [], ◌∷◌, refl, sym, ap, ◌∙◌}
use Rattle.std.specs.Prelude.{nat_eq}
use Rattle.std.proofs.lemmas.Bool.{eq-eqb, and_from}
use Rattle.ve_theory.specs.Words.{same_letters}

pub same_letters-refl : (u : List ℕ) → same_letters u u ≡ true
unfolding same_letters
same_letters-refl [] = refl
same_letters-refl (x ∷ u) = and_from (nat_eq x x) (same_letters u u) (eq-eqb x x refl) (same_letters-refl u)

pub same_letters-false : (u v : List ℕ) → same_letters u v ≡ false → u ≢ v
same_letters-false u v h e = let same : same_letters u v ≡ true = ap (λ w. same_letters u w) (sym e) ∙ same_letters-refl u in absurd (cc)
