use Rattle.ve_examples.proofs.examples.tied_generators_are_answered.Goals as goal
use Rattle.ve_examples.proofs.TiedGeneratorsLevels.{IsWorkedOut-tied_generators}

pub returns : goal.returns
returns c =
    let shown = IsWorkedOut-tied_generators c.finished_levels_settle.ensures c.closing_levels_settle.ensures in
    record { valid = shown.valid; answer = shown.answer; sizes = shown.sizes }
