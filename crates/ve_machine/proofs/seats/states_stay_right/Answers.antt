use Rattle.ve_machine.proofs.WhateverSeatsDo.{states_stay_right}
use Rattle.ve_machine.proofs.seats.states_stay_right.Goals as goal

pub returns : goal.returns
returns c = states_stay_right c.has_inverses.ensures c.levels_are_closed.ensures
