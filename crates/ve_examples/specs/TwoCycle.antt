-- The group algebra of the group of two elements, over the field of two elements: the letter x, with x^2 = 1.
use Rattle.std.specs.Prelude.{false, [], ◌∷◌, None, codes}
use Rattle.ve_theory.specs.Combinations.{unit}
use Rattle.ve_theory.specs.Words.{Word, generator, times}
use Rattle.ve_theory.specs.Presentations.{Presentation}
use Rattle.ve_theory.specs.Answers.{Action, Answer}

-- the relation is x*x + 1, which is x*x - 1
unfoldable pub two_cycle : Presentation
two_cycle = record {
  version = 1;
  is_balanced = false;
  prime = 2;
  names = codes "x" ∷ [];
  inverses = None ∷ [];
  weights = 1 ∷ [];
  generators = 1;
  relations = ((0 ∷ 0 ∷ [], 1) ∷ ([], 1) ∷ []) ∷ [];
  submodule = [];
}

-- e1 and e1*x
abbrev pub e1 : Word
e1 = generator 0

abbrev pub e1_x : Word
e1_x = times e1 0

-- x swaps them
abbrev pub two_cycle_action : Action
two_cycle_action = record {
  basis = e1 ∷ e1_x ∷ [];
  images = unit 0 ∷ [];
  matrices = (unit 1 ∷ unit 0 ∷ []) ∷ [];
}

unfoldable pub two_cycle_answer : Answer
two_cycle_answer = record {
  prime = 2;
  names = codes "x" ∷ [];
  generators = 1;
  closed = 3;
  action = two_cycle_action;
}
