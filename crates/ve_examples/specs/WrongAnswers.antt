-- Wrong answers, one for each way to fail.
use Rattle.std.specs.Prelude.{[], ◌∷◌}
use Rattle.ve_theory.specs.Combinations.{unit}
use Rattle.ve_theory.specs.Answers.{Answer}
use Rattle.ve_examples.specs.TwoCycle.{e1, e1_x, two_cycle_answer}
use Rattle.ve_examples.specs.ProportionalGenerators.{proportional_generators_answer}

-- over another field
unfoldable pub other_field : Answer
unfolding two_cycle_answer
other_field = record two_cycle_answer { prime = 3 }

-- x takes both basis words to the second
unfoldable pub x_is_no_cycle : Answer
unfolding two_cycle_answer
x_is_no_cycle = record two_cycle_answer {
  action = record { basis = e1 ∷ e1_x ∷ []; images = unit 0 ∷ []; matrices = (unit 1 ∷ unit 1 ∷ []) ∷ [] };
}

-- the second generator is twice the first, not three times
unfoldable pub other_multiple : Answer
unfolding proportional_generators_answer
other_multiple = record proportional_generators_answer {
  action = record { basis = e1 ∷ []; images = unit 0 ∷ ((0, 2) ∷ []) ∷ []; matrices = (unit 0 ∷ []) ∷ [] };
}

-- the generator vanishes, and is a basis word
unfoldable pub vanishing_basis_word : Answer
unfolding two_cycle_answer
vanishing_basis_word = record two_cycle_answer {
  action = record { basis = e1 ∷ []; images = [] ∷ []; matrices = (unit 0 ∷ []) ∷ [] };
}
