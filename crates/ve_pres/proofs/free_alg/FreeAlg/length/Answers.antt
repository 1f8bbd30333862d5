use Rattle.std.proofs.Common.{◌∙◌}
use Rattle.ve_pres.proofs.InAlgebra.{view_algebra_length}
use Rattle.ve_pres.proofs.free_alg.FreeAlg.length.Goals as goal

pub returns-clause-length : goal.returns-clause-length
returns-clause-length c = c.length.ensures.length ∙ view_algebra_length _ _ c.self.view_is
