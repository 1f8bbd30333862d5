use Rattle.ve_out.proofs.Figures.{IsCounted}
use Rattle.ve_out.proofs.summary.count_nonzero.Given as goal

abbrev pub invariant-loop-at : goal.invariant-loop-at
invariant-loop-at l = IsCounted l.matrix l.at l.count
