use Rattle.ve_examples.proofs.examples.two_cycle_is_answered.Goals as goal
use Rattle.ve_examples.proofs.TwoCycleLevels.{IsWorkedOut-two_cycle}

pub returns : goal.returns
returns c =
    let shown = IsWorkedOut-two_cycle c.finished_levels_settle.ensures c.closing_levels_settle.ensures in
    record { valid = shown.valid; answer = shown.answer; sizes = shown.sizes }
