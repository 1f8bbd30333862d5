-- The levels of the proportional generators.
use Rattle.std.proofs.Common.{[], ◌∷◌, refl}
use Rattle.ve_theory.specs.Derivations.{by_relator, by_submodule, nothing}
use Rattle.ve_theory.specs.Laws.{FinishedLevelsSettle, ClosingLevelsSettle}
use Rattle.ve_examples.specs.ProportionalGenerators.{proportional_generators, e1, proportional_generators_action, proportional_generators_answer}
use Rattle.ve_examples.proofs.LevelTests.{Level}
use Rattle.ve_examples.proofs.WholeTests.{is_worked_out, IsWorkedOut, is_worked_out-true}

-- e2 - 3*e1 is the submodule relation, and e1*x - e1 is e1 times the relator, which is due at level 1
abbrev each_level : Level
each_level = record {
  action = proportional_generators_action;
  images = nothing ∷ by_submodule 0 ∷ [];
  matrices = (by_relator e1 0 ∷ []) ∷ [];
}

pub IsWorkedOut-proportional_generators : FinishedLevelsSettle → ClosingLevelsSettle → IsWorkedOut proportional_generators proportional_generators_answer (2 ∷ 2 ∷ [])
unfolding is_worked_out proportional_generators proportional_generators_answer
IsWorkedOut-proportional_generators F C =
    is_worked_out-true F C proportional_generators proportional_generators_answer (2 ∷ 2 ∷ [])
    (each_level ∷ each_level ∷ [])
    refl (record { prime = refl; names = refl; generators = refl }) refl
