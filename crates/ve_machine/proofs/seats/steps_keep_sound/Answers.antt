use Rattle.ve_machine.proofs.SoundSteps.{steps_keep_sound}
use Rattle.ve_machine.proofs.seats.steps_keep_sound.Goals as goal

pub returns : goal.returns
returns c = steps_keep_sound c.has_inverses.ensures c.levels_are_closed.ensures
