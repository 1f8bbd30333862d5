use Rattle.std.proofs.Common.{◌<◌, All}
use Rattle.ve_theory.specs.Combinations.{IsReduced}
use Rattle.ve_table_uses.proofs.tests.tracing.sums_above.Given as goal

abbrev pub invariant-loop-id : goal.invariant-loop-id
invariant-loop-id l = All (IsReduced ◌<◌ l.field) l.rows.items
