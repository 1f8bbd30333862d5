use Rattle.std.proofs.Common.{◌≡◌}
use Rattle.std.specs.Prelude.{filter}
use Rattle.std.specs.List.{range_with_len}
use Rattle.ve_table.specs.Tables.{presented, reach_at}
use Rattle.ve_plain.specs.Due.{is_due}
use Rattle.ve_plain.proofs.due.put_due.Given as goal

abbrev pub invariant-loop-number : goal.invariant-loop-number
invariant-loop-number l = l.numbers.items ≡ filter (is_due (presented l.table) l.table.level (reach_at l.table l.id)) (range_with_len 0 l.number)
