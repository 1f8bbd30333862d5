use Rattle.ve_examples.proofs.examples.two_cycle_is_ordered.Goals as goal
use Rattle.ve_examples.proofs.TwoCycleLevels.{IsWorkedOut-two_cycle}

pub returns : goal.returns
returns c = (IsWorkedOut-two_cycle c.finished_levels_settle.ensures c.closing_levels_settle.ensures).ordered
