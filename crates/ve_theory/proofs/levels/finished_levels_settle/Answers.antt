use Rattle.ve_theory.proofs.levels.finished_levels_settle.Goals as goal
use Rattle.ve_theory.proofs.FinishedLevels.{settles_level}

pub returns : goal.returns
returns c = settles_level
