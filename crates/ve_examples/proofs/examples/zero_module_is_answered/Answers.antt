use Rattle.ve_examples.proofs.examples.zero_module_is_answered.Goals as goal
use Rattle.ve_examples.proofs.ZeroModuleLevels.{IsWorkedOut-zero_module}

pub returns : goal.returns
returns c =
    let shown = IsWorkedOut-zero_module c.finished_levels_settle.ensures c.closing_levels_settle.ensures in
    record { valid = shown.valid; answer = shown.answer; sizes = shown.sizes }
