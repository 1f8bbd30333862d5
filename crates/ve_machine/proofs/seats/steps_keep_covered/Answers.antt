use Rattle.ve_machine.proofs.CoveredSteps.{steps_keep_covered}
use Rattle.ve_machine.proofs.seats.steps_keep_covered.Goals as goal

pub returns : goal.returns
returns c = steps_keep_covered c.has_inverses.ensures c.levels_are_closed.ensures
