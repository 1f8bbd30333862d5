use Rattle.ve_theory.proofs.uniqueness.finished_levels_are_unique.Goals as goal
use Rattle.ve_theory.proofs.UniqueLevels.{finished_levels_are_unique}

pub returns : goal.returns
returns c = finished_levels_are_unique
