use Rattle.ve_machine.proofs.CoveredSteps.{steps_keep_done}
use Rattle.ve_machine.proofs.seats.steps_keep_done.Goals as goal

pub returns : goal.returns
returns c = steps_keep_done
