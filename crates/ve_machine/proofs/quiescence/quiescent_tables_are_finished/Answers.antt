use Rattle.ve_machine.proofs.QuietTables.{quiescent_tables_are_finished}
use Rattle.ve_machine.proofs.quiescence.quiescent_tables_are_finished.Goals as goal

pub returns : goal.returns
returns c = quiescent_tables_are_finished c.nothing_left_is_finished.ensures
