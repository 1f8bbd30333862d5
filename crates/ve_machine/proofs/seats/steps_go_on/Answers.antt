use Rattle.ve_machine.proofs.Histories.{steps_go_on}
use Rattle.ve_machine.proofs.seats.steps_go_on.Goals as goal

pub returns : goal.returns
returns c = steps_go_on
