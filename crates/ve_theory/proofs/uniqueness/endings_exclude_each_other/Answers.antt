use Rattle.ve_theory.proofs.uniqueness.endings_exclude_each_other.Goals as goal
use Rattle.ve_theory.proofs.UniqueLevels.{endings_exclude}

pub returns : goal.returns
returns c = endings_exclude
