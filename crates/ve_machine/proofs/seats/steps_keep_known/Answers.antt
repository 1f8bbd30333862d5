use Rattle.ve_machine.proofs.SoundSteps.{steps_keep_known}
use Rattle.ve_machine.proofs.seats.steps_keep_known.Goals as goal

pub returns : goal.returns
returns c = steps_keep_known c.has_inverses.ensures c.levels_are_closed.ensures
