use Rattle.std.proofs.Common.{ap}
use Rattle.ve_pres.specs.Terms.{in_algebra}
use Rattle.ve_pres.proofs.InAlgebra.{zero_reduced}
use Rattle.ve_pres.proofs.free_alg.FreeAlg.zero.Goals as goal

pub returns-clause-reduced : goal.returns-clause-reduced
returns-clause-reduced c p = zero_reduced p _ (ap in_algebra c.zero.ensures.zero)
