use Rattle.std.proofs.Common.{◌≡◌}
use Rattle.ve_theory.specs.Combinations.{unit}
use Rattle.ve_vec.specs.Tracing.{vector_times_letters}
use Rattle.ve_trace.specs.Prefixes.{AreAllPrefixes}
use Rattle.ve_trace.proofs.Terms.{IsSumTo}
use Rattle.ve_trace.proofs.walk.walk_relator.Given as goal

abbrev pub invariant-loop-at : goal.invariant-loop-at
invariant-loop-at g l =
    IsSumTo l.field (vector_times_letters (g.R.Rows.rows l.rows) (unit l.id)) l.relator l.at l.sum
    × (l.walk.id ≡ l.id)
    × AreAllPrefixes l.field (g.R.Rows.rows l.rows) (unit l.id) l.before l.walk.products.items
