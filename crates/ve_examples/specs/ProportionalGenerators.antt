-- Two generators, of which the second is a multiple of the first: over the field of five elements the letter x, with x = 1 and
-- e2 = 3*e1. The second generator is no basis word, and has its image all the same.
use Rattle.std.specs.Prelude.{false, [], ◌∷◌, None, codes}
use Rattle.ve_theory.specs.Combinations.{unit}
use Rattle.ve_theory.specs.Words.{Word, generator}
use Rattle.ve_theory.specs.Presentations.{Presentation}
use Rattle.ve_theory.specs.Answers.{Action, Answer}

-- the generators
abbrev pub e1 : Word
e1 = generator 0

abbrev pub e2 : Word
e2 = generator 1

-- the relation is x + 4, which is x - 1; the submodule relation is e2 + 2*e1, which is e2 - 3*e1
unfoldable pub proportional_generators : Presentation
proportional_generators = record {
  version = 1;
  is_balanced = false;
  prime = 5;
  names = codes "x" ∷ [];
  inverses = None ∷ [];
  weights = 1 ∷ [];
  generators = 2;
  relations = ((0 ∷ [], 1) ∷ ([], 4) ∷ []) ∷ [];
  submodule = ((e2, 1) ∷ (e1, 2) ∷ []) ∷ [];
}

-- x does nothing
abbrev pub proportional_generators_action : Action
proportional_generators_action = record {
  basis = e1 ∷ [];
  images = unit 0 ∷ ((0, 3) ∷ []) ∷ [];
  matrices = (unit 0 ∷ []) ∷ [];
}

unfoldable pub proportional_generators_answer : Answer
proportional_generators_answer = record {
  prime = 5;
  names = codes "x" ∷ [];
  generators = 2;
  closed = 1;
  action = proportional_generators_action;
}
