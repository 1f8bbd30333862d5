use Rattle.ve_examples.proofs.examples.weighted_pair_is_answered.Goals as goal
use Rattle.ve_examples.proofs.WeightedPairLevels.{IsWorkedOut-weighted_pair}

pub returns : goal.returns
returns c =
    let shown = IsWorkedOut-weighted_pair c.finished_levels_settle.ensures c.closing_levels_settle.ensures in
    record { valid = shown.valid; answer = shown.answer; sizes = shown.sizes }
