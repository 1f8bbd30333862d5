use Rattle.std.proofs.Common.{length}
use Rattle.ve_read.proofs.Cuts.{IsPassed}
use Rattle.ve_read.proofs.cut.split.Given as goal

abbrev pub invariant-loop-line : goal.invariant-loop-line
invariant-loop-line l = IsPassed l.text l.rest

abbrev pub decreases-loop-line : goal.decreases-loop-line
decreases-loop-line l = length l.rest
