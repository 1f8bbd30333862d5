use Rattle.ve_theory.proofs.LevelBounds.{open_levels_are_bounded}
use Rattle.ve_theory.proofs.levels.open_levels_are_bounded.Goals as goal

pub returns : goal.returns
returns c = open_levels_are_bounded
