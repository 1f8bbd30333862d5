use Rattle.ve_machine.proofs.MachineMoves.{moves_go_right}
use Rattle.ve_machine.proofs.hands.moves_go_right.Goals as goal

pub returns : goal.returns
returns c = moves_go_right c.has_inverses.ensures c.levels_are_closed.ensures
