use Rattle.std.proofs.Common.{arith}
use Rattle.ve_pres.proofs.InAlgebra.{view_algebra_length}
use Rattle.ve_pres.proofs.free_alg.FreeAlg.cells.Goals as goal

pub returns-clause-length : goal.returns-clause-length
returns-clause-length c = omega (arith, view_algebra_length _ _ c.self.view_is, c.cells.ensures.length)
