use Rattle.ve_machine.proofs.WhateverSeatsDo.{states_open}
use Rattle.ve_machine.proofs.seats.states_open.Goals as goal

pub returns : goal.returns
returns c = states_open
