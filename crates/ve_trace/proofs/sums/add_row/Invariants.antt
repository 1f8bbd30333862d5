use Rattle.std.proofs.Common.{◌<◌, ◌++◌, nat_eq, take}
use Rattle.ve_theory.specs.Combinations.{scaled, IsReducedOf}
use Rattle.ve_trace.proofs.sums.add_row.Given as goal

-- the terms of the row so far are added
abbrev pub invariant-loop-term : goal.invariant-loop-term
invariant-loop-term l = IsReducedOf ◌<◌ nat_eq l.field l.sum (l.fn.sum ++ scaled l.by (take l.term-index l.row))
