use Rattle.ve_machine.proofs.NothingLeft.{nothing_left}
use Rattle.ve_machine.proofs.work.nothing_left_is_finished.Goals as goal

pub returns : goal.returns
returns c = nothing_left c.resolutions_exist.ensures c.finished_levels_settle.ensures c.levels_are_closed.ensures
