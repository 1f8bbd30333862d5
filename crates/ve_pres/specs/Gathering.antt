-- How terms are gathered, from the greatest word to the least.
use Rattle.std.specs.Prelude.{◌≡◌, ℕ, ◌<◌, ◌⊎◌, [], ◌∷◌, ◌++◌, All}
use Rattle.ve_theory.specs.Combinations.{Alike, IsReduced}
use Rattle.ve_theory.specs.Words.{Word, same_word, Shortlex}
use Rattle.ve_theory.specs.Elements.{Element}

-- the word w is not after v
abbrev pub IsAtMost : Word → Word → Type 0
IsAtMost w v = (w ≡ v) ⊎ Shortlex w v

-- no word of the element is before w
abbrev pub AtLeast : Word → Element → Type 0
AtLeast w v = All (λ t. IsAtMost w t.0) v

-- What a new term is put behind: `front`, after the last term was taken off where it has the same word. `coef` is then the sum
-- of both coefficients.
pub record IsReady (p : ℕ) (old : Element) (term : Word × ℕ) (front : Element) (coef : ℕ) : Type 0 where
  pub reduced : IsReduced Shortlex p front
  pub above : All (λ t. Shortlex term.0 t.0) front
  pub residue : coef < p
  pub alike : Alike same_word p (front ++ (term.0, coef) ∷ []) (old ++ term ∷ [])

-- the new element is the old one and a term, whose word no word is before
pub record Gathers (p : ℕ) (old : Element) (term : Word × ℕ) (new : Element) : Type 0 where
  pub reduced : IsReduced Shortlex p new
  pub alike : Alike same_word p new (old ++ term ∷ [])
  pub at_least : AtLeast term.0 new
