use Rattle.std.proofs.Common.{refl}
use Rattle.ve_pres.proofs.ValidPresentations.{bare_built}
use Rattle.ve_pres.proofs.presentation.Presentation.bare.Goals as goal

pub invariant_of-result : goal.invariant_of-result
invariant_of-result c =
    (bare_built _ c.requires c.has_prime.ensures.in_table refl refl c.new.ensures.names c.new.ensures.inverses c.new.ensures.weights c.new.ensures.relators c.new-2.ensures.items c.new-3.ensures.items refl refl refl refl).1
