-- The levels of the weighted pair.
use Rattle.std.proofs.Common.{[], ◌∷◌, refl}
use Rattle.ve_theory.specs.Combinations.{unit}
use Rattle.ve_theory.specs.Words.{Word}
use Rattle.ve_theory.specs.Derivations.{Derivation, by_relator, combined, nothing}
use Rattle.ve_theory.specs.Laws.{FinishedLevelsSettle, ClosingLevelsSettle}
use Rattle.ve_examples.specs.WeightedPair.{weighted_pair, e1, e1_y, e1_y_y, weighted_pair_action, weighted_pair_answer}
use Rattle.ve_examples.proofs.LevelTests.{Level}
use Rattle.ve_examples.proofs.WholeTests.{is_worked_out, IsWorkedOut, is_worked_out-true}

-- w*x - w*y*y is w times the first relator, and v*y*y*y - v is v times the second: together w*x - v, where w is v*y
abbrev back : Word → Word → Derivation
back w v = combined 1 (by_relator w 0) 1 (by_relator v 1)

-- at level 0 the generator, at level 1 also e1*y: each letter that fits leads to a word of its own
abbrev first_level : Level
first_level = record {
  action = record { basis = e1 ∷ []; images = unit 0 ∷ []; matrices = [] };
  images = nothing ∷ [];
  matrices = [];
}

abbrev second_level : Level
second_level = record {
  action = record { basis = e1 ∷ e1_y ∷ []; images = unit 0 ∷ []; matrices = [] ∷ (unit 1 ∷ []) ∷ [] };
  images = nothing ∷ [];
  matrices = [] ∷ (nothing ∷ []) ∷ [];
}

-- from level 2 on the answer's words: x has rows from level 3 on, one more at each level
abbrev later_level : Level
later_level = record {
  action = weighted_pair_action;
  images = nothing ∷ [];
  matrices = (by_relator e1 0 ∷ back e1_y e1 ∷ back e1_y_y e1_y ∷ []) ∷ (nothing ∷ nothing ∷ by_relator e1 1 ∷ []) ∷ [];
}

pub IsWorkedOut-weighted_pair : FinishedLevelsSettle → ClosingLevelsSettle → IsWorkedOut weighted_pair weighted_pair_answer (1 ∷ 2 ∷ 3 ∷ 5 ∷ 4 ∷ 4 ∷ [])
unfolding is_worked_out weighted_pair weighted_pair_answer
IsWorkedOut-weighted_pair F C =
    is_worked_out-true F C weighted_pair weighted_pair_answer (1 ∷ 2 ∷ 3 ∷ 5 ∷ 4 ∷ 4 ∷ [])
    (first_level ∷ second_level ∷ later_level ∷ later_level ∷ later_level ∷ later_level ∷ [])
    refl (record { prime = refl; names = refl; generators = refl }) refl
