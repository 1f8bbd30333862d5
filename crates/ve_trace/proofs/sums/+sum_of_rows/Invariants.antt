use Rattle.std.proofs.Common.{◌-◌}
use Rattle.ve_trace.proofs.sums.+sum_of_rows.Given as goal

abbrev pub decreases-sum_of_rows : goal.decreases-sum_of_rows
decreases-sum_of_rows g l = l.to - l.from
