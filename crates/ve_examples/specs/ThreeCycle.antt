-- The group algebra of the group of three elements, over the field of seven elements: the letter x with its inverse X, and x^3 = 1.
use Rattle.std.specs.Prelude.{false, List, [], ◌∷◌, Some, codes}
use Rattle.ve_theory.specs.Elements.{AlgebraElement}
use Rattle.ve_theory.specs.Presentations.{Presentation}

-- the relation is x*x*x + 6, which is x*x*x - 1
unfoldable pub three_cycle : Presentation
three_cycle = record {
  version = 1;
  is_balanced = false;
  prime = 7;
  names = codes "x" ∷ codes "X" ∷ [];
  inverses = Some 1 ∷ Some 0 ∷ [];
  weights = 1 ∷ 1 ∷ [];
  generators = 1;
  relations = ((0 ∷ 0 ∷ 0 ∷ [], 1) ∷ ([], 6) ∷ []) ∷ [];
  submodule = [];
}

-- x*X - 1 and X*x - 1 come before the relation
abbrev pub three_cycle_relators : List AlgebraElement
three_cycle_relators =
    ((0 ∷ 1 ∷ [], 1) ∷ ([], 6) ∷ []) ∷ ((1 ∷ 0 ∷ [], 1) ∷ ([], 6) ∷ []) ∷ ((0 ∷ 0 ∷ 0 ∷ [], 1) ∷ ([], 6) ∷ []) ∷ []
