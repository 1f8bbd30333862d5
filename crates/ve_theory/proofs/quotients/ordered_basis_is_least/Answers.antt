use Rattle.ve_theory.proofs.quotients.ordered_basis_is_least.Goals as goal
use Rattle.ve_theory.proofs.Kernels.{lists_least}

pub returns : goal.returns
returns c = lists_least
