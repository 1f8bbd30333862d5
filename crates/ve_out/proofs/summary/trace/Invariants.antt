use Rattle.ve_out.proofs.Figures.{IsSummed}
use Rattle.ve_out.proofs.summary.trace.Given as goal

abbrev pub invariant-loop-at : goal.invariant-loop-at
invariant-loop-at l = IsSummed l.matrix l.at l.sum
