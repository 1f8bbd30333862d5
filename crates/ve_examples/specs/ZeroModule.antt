-- The zero module: over the field of three elements the letter x, with 1 = 0.
use Rattle.std.specs.Prelude.{false, [], ◌∷◌, None, codes}
use Rattle.ve_theory.specs.Presentations.{Presentation}
use Rattle.ve_theory.specs.Answers.{Action, Answer}

-- the relation is 1
unfoldable pub zero_module : Presentation
zero_module = record {
  version = 1;
  is_balanced = false;
  prime = 3;
  names = codes "x" ∷ [];
  inverses = None ∷ [];
  weights = 1 ∷ [];
  generators = 1;
  relations = (([], 1) ∷ []) ∷ [];
  submodule = [];
}

-- nothing is left, and the generator goes to zero
abbrev pub zero_module_action : Action
zero_module_action = record { basis = []; images = [] ∷ []; matrices = [] ∷ [] }

unfoldable pub zero_module_answer : Answer
zero_module_answer = record {
  prime = 3;
  names = codes "x" ∷ [];
  generators = 1;
  closed = 0;
  action = zero_module_action;
}
