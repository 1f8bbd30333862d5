use Rattle.ve_theory.proofs.levels.closing_levels_settle.Goals as goal
use Rattle.ve_theory.proofs.FinishedLevels.{settles_module}

pub returns : goal.returns
returns c = settles_module
