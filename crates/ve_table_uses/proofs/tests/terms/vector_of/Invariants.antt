use Rattle.std.proofs.Common.{◌<◌}
use Rattle.ve_theory.specs.Combinations.{IsReduced}
use Rattle.ve_table_uses.proofs.tests.terms.vector_of.Given as goal

abbrev pub invariant-loop-id : goal.invariant-loop-id
invariant-loop-id l = IsReduced ◌<◌ l.field l.sum
