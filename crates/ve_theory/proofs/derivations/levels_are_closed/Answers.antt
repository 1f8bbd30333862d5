use Rattle.ve_theory.proofs.ClosedLevels.{levels_are_closed}
use Rattle.ve_theory.proofs.derivations.levels_are_closed.Goals as goal

pub returns : goal.returns
returns c = levels_are_closed
