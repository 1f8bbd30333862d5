use Rattle.ve_machine.proofs.QuietTables.{finished_tables_are_unique}
use Rattle.ve_machine.proofs.quiescence.finished_tables_are_unique.Goals as goal

pub returns : goal.returns
returns c = finished_tables_are_unique c.finished_levels_are_unique.ensures
