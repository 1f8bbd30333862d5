-- The letters of a presentation, with what belongs to them.
use Rattle.std.specs.Prelude.{◌≡◌, ℕ, ◌+◌, ◌-◌, ◌<◌, ◌≤◌, List, [], ◌∷◌, ◌++◌, Some, length, slice_get, All}
use Rattle.ve_theory.specs.Presentations.{inverse_relators}
use Rattle.ve_theory.specs.Validity.{AreBeside}
use Rattle.ve_theory.specs.Presentations.{most_weight}
use Rattle.ve_word.specs.NameList.{AreLetterNames}
use Rattle.ve_pres.specs.declared.presentation.letters.Letters.{Letters}

-- letters with the same names, inverses, weights and relators
pub record AreSame (letters others : Letters) : Type 0 where
  pub names : letters.names ≡ others.names
  pub inverses : letters.inverses.items ≡ others.inverses.items
  pub weights : letters.weights.items ≡ others.weights.items
  pub relators : letters.relators.items ≡ others.relators.items

-- letters that a presentation of this version, over the field of p elements, may have
pub record AreLetters (version p : ℕ) (letters : Letters) : Type 0 where
  pub names : AreLetterNames letters.names
  pub one_inverse_each : length letters.inverses.items ≡ length letters.names
  pub one_weight_each : length letters.weights.items ≡ length letters.names
  pub weights : All (λ w. (0 < w) × (w ≤ most_weight)) letters.weights.items
  pub plain : version ≡ 1 → All (λ w. w ≡ 1) letters.weights.items
  pub inverses : (x y : ℕ) → slice_get letters.inverses.items x ≡ Some (Some y) → slice_get letters.inverses.items y ≡ Some (Some x)
  pub beside : (x y : ℕ) → slice_get letters.inverses.items x ≡ Some (Some y) → AreBeside x y
  pub relators : letters.relators.items ≡ inverse_relators p 0 letters.inverses.items

-- two letters were added, each the inverse of the other, the first of which is n
pub record IsPairPushed (p : ℕ) (old new : Letters) (name inverse : List ℕ) (n : ℕ) : Type 0 where
  pub names : new.names ≡ old.names ++ name ∷ inverse ∷ []
  pub inverses : new.inverses.items ≡ old.inverses.items ++ Some (n + 1) ∷ Some n ∷ []
  pub weights : new.weights.items ≡ old.weights.items ++ 1 ∷ 1 ∷ []
  pub relators : new.relators.items ≡ old.relators.items ++ ((n ∷ (n + 1) ∷ [], 1) ∷ ([], p - 1) ∷ []) ∷ (((n + 1) ∷ n ∷ [], 1) ∷ ([], p - 1) ∷ []) ∷ []
  pub letter : n ≡ length old.names
  pub letters : AreLetterNames new.names
