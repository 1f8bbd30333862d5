use Rattle.ve_machine.proofs.MachineMoves.{machines_stay_right}
use Rattle.ve_machine.proofs.hands.machines_stay_right.Goals as goal

pub returns : goal.returns
returns c = machines_stay_right c.has_inverses.ensures c.levels_are_closed.ensures
