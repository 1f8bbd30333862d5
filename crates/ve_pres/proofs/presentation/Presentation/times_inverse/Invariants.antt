use Rattle.ve_pres.proofs.HalfSteps.{IsPartOfInverse}
use Rattle.ve_pres.proofs.presentation.Presentation.times_inverse.Given as goal

abbrev pub invariant-loop-left : goal.invariant-loop-left
invariant-loop-left l = IsPartOfInverse l.fn.self.presentation l.fn.word l.fn.letters l.left l.product

abbrev pub decreases-loop-left : goal.decreases-loop-left
decreases-loop-left l = l.left
