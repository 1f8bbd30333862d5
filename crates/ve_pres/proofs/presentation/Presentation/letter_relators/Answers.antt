use Rattle.std.proofs.Common.{arith}
use Rattle.ve_pres.proofs.ValidPresentations.{few_relators}
use Rattle.ve_pres.proofs.presentation.Presentation.letter_relators.Goals as goal

pub overflow_cast-result : goal.overflow_cast-result
overflow_cast-result c = omega (arith, few_relators c.self.inside c.self.invariant)
