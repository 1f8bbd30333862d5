use Rattle.ve_theory.proofs.DerivationTrees.{levels_grow}
use Rattle.ve_theory.proofs.derivations.levels_grow.Goals as goal

pub returns : goal.returns
returns c = levels_grow
