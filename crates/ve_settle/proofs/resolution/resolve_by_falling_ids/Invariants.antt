use Rattle.std.proofs.Common.{◌≡◌, ℕ, ◌<◌, ◌++◌, Bool}
use Rattle.ve_theory.specs.Combinations.{difference, IsReduced}
use Rattle.ve_vec.specs.Vectors.{AllIds}
use Rattle.ve_table.specs.Tables.{presented}
use Rattle.ve_table.specs.Sound.{HasLiveIds}
use Rattle.ve_machine.specs.Forwards.{IsForwarding}
use Rattle.ve_settle.specs.Falling.{left_of}
use Rattle.ve_settle.proofs.Resolving.{ceiling, IsKept}
use Rattle.ve_settle.proofs.resolution.resolve_by_falling_ids.Given as goal

-- what is done and what is left are the vector, but for forwards
abbrev pub invariant-loop-term : goal.invariant-loop-term
invariant-loop-term l = record {
  field : l.left.field ≡ (presented l.table).prime;
  reduced : IsReduced ◌<◌ (presented l.table).prime l.resolved;
  live : HasLiveIds l.table l.resolved;
  forwarding : IsForwarding (presented l.table).prime l.table.forwards (difference (presented l.table).prime l.fn.vector (l.resolved ++ left_of l.left));
  ids : (among : ℕ → Bool) → IsKept l.table among → AllIds among l.fn.vector → AllIds among l.resolved × AllIds among (left_of l.left);
}

abbrev pub decreases-loop-term : goal.decreases-loop-term
decreases-loop-term l = ceiling (left_of l.left)
