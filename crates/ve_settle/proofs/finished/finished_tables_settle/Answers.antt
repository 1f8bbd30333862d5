use Rattle.ve_settle.proofs.LiveWords.{finished_tables_settle}
use Rattle.ve_settle.proofs.finished.finished_tables_settle.Goals as goal

pub returns : goal.returns
returns c = finished_tables_settle c.finished_levels_settle.ensures
