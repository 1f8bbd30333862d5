use Rattle.ve_machine.proofs.work.openings_are_under_way.Goals as goal
use Rattle.ve_machine.proofs.UnderWay.{opening_packed, opening_under_way}

pub returns : goal.returns
returns c = λ O opening sound. (opening_packed O opening, opening_under_way O sound)
