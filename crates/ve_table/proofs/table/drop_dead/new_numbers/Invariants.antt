use Rattle.std.proofs.Common.{◌≡◌, ◌+◌, ◌≤◌, map, take}
use Rattle.std.specs.Prelude.{count_by}
use Rattle.std.specs.List.{range_with_len}
use Rattle.ve_table.specs.Deaths.{is_live_entry}
use Rattle.ve_table.proofs.table.drop_dead.new_numbers.Given as goal

abbrev pub invariant-loop-id : goal.invariant-loop-id
invariant-loop-id l = l.numbers.items ≡ map (λ b. count_by is_live_entry (take b l.entries.items)) (range_with_len 0 l.id)

abbrev pub invariant-loop-entry : goal.invariant-loop-entry
invariant-loop-entry l = record {
  so_far : l.numbers.items ≡ map (λ b. count_by is_live_entry (take b l.entries.items)) (range_with_len 0 (l.least + l.entry-index));
  number_is : l.number ≡ count_by is_live_entry (take (l.least + l.entry-index) l.entries.items);
  small : l.number ≤ l.least + l.entry-index;
}
