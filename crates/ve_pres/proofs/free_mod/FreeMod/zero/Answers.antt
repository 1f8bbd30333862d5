use Rattle.std.proofs.Common.{ap}
use Rattle.ve_pres.specs.Terms.{pairs}
use Rattle.ve_pres.proofs.InAlgebra.{zero_reduced_module}
use Rattle.ve_pres.proofs.KeptElements.{kept_zero}
use Rattle.ve_pres.proofs.free_mod.FreeMod.zero.Goals as goal

pub invariant_of-result : goal.invariant_of-result
invariant_of-result c = kept_zero _ c.new.ensures.items

pub returns-clause-reduced : goal.returns-clause-reduced
returns-clause-reduced c p = zero_reduced_module p _ (ap pairs c.new.ensures.items)
