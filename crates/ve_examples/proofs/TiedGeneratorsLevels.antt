-- The levels of the tied generators.
use Rattle.std.proofs.Common.{[], ◌∷◌, refl}
use Rattle.ve_theory.specs.Combinations.{unit}
use Rattle.ve_theory.specs.Words.{times}
use Rattle.ve_theory.specs.Derivations.{Derivation, by_relator, by_submodule, combined, multiplied, nothing}
use Rattle.ve_theory.specs.Laws.{FinishedLevelsSettle, ClosingLevelsSettle}
use Rattle.ve_examples.specs.TiedGenerators.{tied_generators, e1, e2, tied_generators_action, tied_generators_answer}
use Rattle.ve_examples.proofs.LevelTests.{Level}
use Rattle.ve_examples.proofs.WholeTests.{is_worked_out, IsWorkedOut, is_worked_out-true}

-- e1*x - e2 is twice the submodule relation 2*e1*x + e2
abbrev first_row : Derivation
first_row = combined 2 (by_submodule 0) 0 nothing

-- e2*x - e1 is the submodule relation times x, and e1 times the relator x*x + 2
abbrev second_row : Derivation
second_row = combined 1 (multiplied (by_submodule 0) 0) 1 (by_relator e1 0)

-- at level 1 also e2*x is normal
abbrev middle_level : Level
middle_level = record {
  action = record {
    basis = e1 ∷ e2 ∷ times e2 0 ∷ [];
    images = unit 0 ∷ unit 1 ∷ [];
    matrices = (unit 1 ∷ unit 2 ∷ []) ∷ [];
  };
  images = nothing ∷ nothing ∷ [];
  matrices = (first_row ∷ nothing ∷ []) ∷ [];
}

-- at levels 0 and 2 the generators alone
abbrev outer_level : Level
outer_level = record {
  action = tied_generators_action;
  images = nothing ∷ nothing ∷ [];
  matrices = (first_row ∷ second_row ∷ []) ∷ [];
}

pub IsWorkedOut-tied_generators : FinishedLevelsSettle → ClosingLevelsSettle → IsWorkedOut tied_generators tied_generators_answer (2 ∷ 4 ∷ 4 ∷ [])
unfolding is_worked_out tied_generators tied_generators_answer
IsWorkedOut-tied_generators F C =
    is_worked_out-true F C tied_generators tied_generators_answer (2 ∷ 4 ∷ 4 ∷ [])
    (outer_level ∷ middle_level ∷ outer_level ∷ [])
    refl (record { prime = refl; names = refl; generators = refl }) refl
