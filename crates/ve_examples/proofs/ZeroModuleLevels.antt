-- The one level of the zero module.
use Rattle.std.proofs.Common.{[], ◌∷◌, refl}
use Rattle.ve_theory.specs.Words.{generator}
use Rattle.ve_theory.specs.Derivations.{by_relator}
use Rattle.ve_theory.specs.Laws.{FinishedLevelsSettle, ClosingLevelsSettle}
use Rattle.ve_examples.specs.ZeroModule.{zero_module, zero_module_action, zero_module_answer}
use Rattle.ve_examples.proofs.LevelTests.{Level}
use Rattle.ve_examples.proofs.WholeTests.{is_worked_out, IsWorkedOut, is_worked_out-true}

-- the generator is itself times the relator
abbrev only_level : Level
only_level = record { action = zero_module_action; images = by_relator (generator 0) 0 ∷ []; matrices = [] }

pub IsWorkedOut-zero_module : FinishedLevelsSettle → ClosingLevelsSettle → IsWorkedOut zero_module zero_module_answer (1 ∷ [])
unfolding is_worked_out zero_module zero_module_answer
IsWorkedOut-zero_module F C =
    is_worked_out-true F C zero_module zero_module_answer (1 ∷ []) (only_level ∷ []) refl (record { prime = refl; names = refl; generators = refl }) refl
