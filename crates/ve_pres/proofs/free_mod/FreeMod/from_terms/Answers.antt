use Rattle.ve_pres.proofs.KeptElements.{kept_sum}
use Rattle.ve_pres.proofs.free_mod.FreeMod.from_terms.Goals as goal

pub invariant_of-result : goal.invariant_of-result
invariant_of-result c = kept_sum _ _ _ c.requires c.in_ok-terms.ensures.sum c.in_ok-terms.ensures.count
