use Rattle.std.proofs.Common.{◌≡◌, ◌<◌, ◌≤◌, ℕ, length, get_or}
use Rattle.ve_table.specs.declared.entry.Entry.{Entry}
use Rattle.ve_table.specs.Numbers.{IsNumbered}
use Rattle.ve_table.proofs.table.drop_dead.renumber_entries.Given as goal

abbrev pub invariant-loop-id : goal.invariant-loop-id
invariant-loop-id l = record {
  count : length l.entries ≡ length l.fn.entries;
  done : (k : ℕ) (d : Entry) → k < l.id → IsNumbered l.numbers (get_or l.fn.entries k d) (get_or l.entries k d);
  rest : (k : ℕ) (d : Entry) → l.id ≤ k → get_or l.entries k d ≡ get_or l.fn.entries k d;
}
