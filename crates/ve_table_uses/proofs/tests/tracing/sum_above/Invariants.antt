use Rattle.std.proofs.Common.{◌<◌}
use Rattle.ve_theory.specs.Combinations.{IsReduced}
use Rattle.ve_table_uses.proofs.tests.tracing.sum_above.Given as goal

abbrev pub invariant-loop-distance : goal.invariant-loop-distance
invariant-loop-distance l = IsReduced ◌<◌ l.field l.sum
