use Rattle.ve_machine.proofs.FinishedTables.{stays_finished}
use Rattle.ve_machine.proofs.finished.stays_finished.Goals as goal

pub returns : goal.returns
returns c = stays_finished c.finished_levels_settle.ensures
