use Rattle.std.proofs.Common.{◌≡◌}
use Rattle.ve_theory.specs.Combinations.{difference}
use Rattle.ve_table.specs.Tables.{presented}
use Rattle.ve_machine.specs.Forwards.{IsForwarding}
use Rattle.ve_settle.specs.Falling.{left_of}
use Rattle.ve_settle.proofs.Clearing.{IsCleared}
use Rattle.ve_settle.proofs.span.resolve_over_span.Given as goal

-- the sum is what was left, but for forwards, and has no dead id from here on
abbrev pub invariant-loop-id : goal.invariant-loop-id
invariant-loop-id l = record {
  low : l.sum.low ≡ 0;
  high : l.sum.high ≡ l.bound;
  cleared : IsCleared (presented l.table).prime l.table.forwards l.bound l.id l.sum.total;
  forwarding : IsForwarding (presented l.table).prime l.table.forwards (difference (presented l.table).prime (left_of l.fn.left) l.sum.total);
}
