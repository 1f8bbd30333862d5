-- The symmetric group of three points by two involutions, over the field of three elements: a and b, with (a*b)^3 = 1. Balanced,
-- the relation is a*b*a = b*a*b.
use Rattle.std.specs.Prelude.{false, true, [], ◌∷◌, Some, codes}
use Rattle.ve_theory.specs.Presentations.{Presentation}

-- the relation is a*b*a*b*a*b + 2, which is a*b*a*b*a*b - 1
unfoldable pub triangle : Presentation
triangle = record {
  version = 2;
  is_balanced = false;
  prime = 3;
  names = codes "a" ∷ codes "b" ∷ [];
  inverses = Some 0 ∷ Some 1 ∷ [];
  weights = 1 ∷ 1 ∷ [];
  generators = 1;
  relations = ((0 ∷ 1 ∷ 0 ∷ 1 ∷ 0 ∷ 1 ∷ [], 1) ∷ ([], 2) ∷ []) ∷ [];
  submodule = [];
}

-- the relation is 2*b*a*b + a*b*a
unfoldable pub balanced_triangle : Presentation
unfolding triangle
balanced_triangle = record triangle {
  is_balanced = true;
  relations = ((1 ∷ 0 ∷ 1 ∷ [], 2) ∷ (0 ∷ 1 ∷ 0 ∷ [], 1) ∷ []) ∷ [];
}
