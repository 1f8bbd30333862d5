use Rattle.ve_settle.proofs.UniqueResolutions.{forwardings_resolve_to_zero}
use Rattle.ve_settle.proofs.resolution.forwardings_resolve_to_zero.Goals as goal

pub returns : goal.returns
returns c = forwardings_resolve_to_zero c.forwardings_are_a_space.ensures
