use Rattle.ve_machine.proofs.Histories.{steps_keep_history}
use Rattle.ve_machine.proofs.seats.steps_keep_history.Goals as goal

pub returns : goal.returns
returns c = steps_keep_history c.has_inverses.ensures c.levels_are_closed.ensures
