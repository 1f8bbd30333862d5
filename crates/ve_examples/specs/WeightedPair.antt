-- The group algebra of the group of three elements, over the field of three elements, by a generating letter y and its square:
-- the letters x of weight 3 and y of weight 1, with x = y^2 and y^3 = 1.
use Rattle.std.specs.Prelude.{false, [], ◌∷◌, None, codes}
use Rattle.ve_theory.specs.Combinations.{unit}
use Rattle.ve_theory.specs.Words.{Word, generator, times}
use Rattle.ve_theory.specs.Presentations.{Presentation}
use Rattle.ve_theory.specs.Answers.{Action, Answer}

-- the relations are 2*y*y + x, which is x - y*y, and y*y*y + 2, which is y*y*y - 1
unfoldable pub weighted_pair : Presentation
weighted_pair = record {
  version = 2;
  is_balanced = false;
  prime = 3;
  names = codes "x" ∷ codes "y" ∷ [];
  inverses = None ∷ None ∷ [];
  weights = 3 ∷ 1 ∷ [];
  generators = 1;
  relations = ((1 ∷ 1 ∷ [], 2) ∷ (0 ∷ [], 1) ∷ []) ∷ ((1 ∷ 1 ∷ 1 ∷ [], 1) ∷ ([], 2) ∷ []) ∷ [];
  submodule = [];
}

-- e1, e1*y and e1*y*y
abbrev pub e1 : Word
e1 = generator 0

abbrev pub e1_y : Word
e1_y = times e1 1

abbrev pub e1_y_y : Word
e1_y_y = times e1_y 1

-- y leads around, and x back
abbrev pub weighted_pair_action : Action
weighted_pair_action = record {
  basis = e1 ∷ e1_y ∷ e1_y_y ∷ [];
  images = unit 0 ∷ [];
  matrices = (unit 2 ∷ unit 0 ∷ unit 1 ∷ []) ∷ (unit 1 ∷ unit 2 ∷ unit 0 ∷ []) ∷ [];
}

unfoldable pub weighted_pair_answer : Answer
weighted_pair_answer = record {
  prime = 3;
  names = codes "x" ∷ codes "y" ∷ [];
  generators = 1;
  closed = 5;
  action = weighted_pair_action;
}
