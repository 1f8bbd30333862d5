-- The levels of the two-cycle.
use Rattle.std.proofs.Common.{[], ◌∷◌, refl}
use Rattle.ve_theory.specs.Combinations.{unit}
use Rattle.ve_theory.specs.Derivations.{by_relator, nothing}
use Rattle.ve_theory.specs.Laws.{FinishedLevelsSettle, ClosingLevelsSettle}
use Rattle.ve_examples.specs.TwoCycle.{two_cycle, e1, two_cycle_action, two_cycle_answer}
use Rattle.ve_examples.proofs.LevelTests.{Level}
use Rattle.ve_examples.proofs.WholeTests.{is_worked_out, IsWorkedOut, is_worked_out-true}

-- at level 0 the generator alone
abbrev first_level : Level
first_level = record {
  action = record { basis = e1 ∷ []; images = unit 0 ∷ []; matrices = [] };
  images = nothing ∷ [];
  matrices = [];
}

-- from then on both words: e1*x*x - e1 is e1 times the relator
abbrev later_level : Level
later_level = record {
  action = two_cycle_action;
  images = nothing ∷ [];
  matrices = (nothing ∷ by_relator e1 0 ∷ []) ∷ [];
}

pub IsWorkedOut-two_cycle : FinishedLevelsSettle → ClosingLevelsSettle → IsWorkedOut two_cycle two_cycle_answer (1 ∷ 2 ∷ 3 ∷ 2 ∷ [])
unfolding is_worked_out two_cycle two_cycle_answer
IsWorkedOut-two_cycle F C =
    is_worked_out-true F C two_cycle two_cycle_answer (1 ∷ 2 ∷ 3 ∷ 2 ∷ [])
    (first_level ∷ later_level ∷ later_level ∷ later_level ∷ [])
    refl (record { prime = refl; names = refl; generators = refl }) refl
