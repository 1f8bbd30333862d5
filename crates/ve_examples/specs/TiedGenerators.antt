-- Two generators, of which the second is the first times x: over the field of three elements the letter x, with x^2 = 1 and
-- e2 = e1*x. The word e1*x comes after e2, and is the one that is reduced.
use Rattle.std.specs.Prelude.{false, [], ◌∷◌, None, codes}
use Rattle.ve_theory.specs.Combinations.{unit}
use Rattle.ve_theory.specs.Words.{Word, generator, times}
use Rattle.ve_theory.specs.Presentations.{Presentation}
use Rattle.ve_theory.specs.Answers.{Action, Answer}

-- the generators
abbrev pub e1 : Word
e1 = generator 0

abbrev pub e2 : Word
e2 = generator 1

-- the relation is x*x + 2, which is x*x - 1; the submodule relation is 2*e1*x + e2, which is e2 - e1*x
unfoldable pub tied_generators : Presentation
tied_generators = record {
  version = 1;
  is_balanced = false;
  prime = 3;
  names = codes "x" ∷ [];
  inverses = None ∷ [];
  weights = 1 ∷ [];
  generators = 2;
  relations = ((0 ∷ 0 ∷ [], 1) ∷ ([], 2) ∷ []) ∷ [];
  submodule = ((times e1 0, 2) ∷ (e2, 1) ∷ []) ∷ [];
}

-- x swaps the generators
abbrev pub tied_generators_action : Action
tied_generators_action = record {
  basis = e1 ∷ e2 ∷ [];
  images = unit 0 ∷ unit 1 ∷ [];
  matrices = (unit 1 ∷ unit 0 ∷ []) ∷ [];
}

unfoldable pub tied_generators_answer : Answer
tied_generators_answer = record {
  prime = 3;
  names = codes "x" ∷ [];
  generators = 2;
  closed = 2;
  action = tied_generators_action;
}
