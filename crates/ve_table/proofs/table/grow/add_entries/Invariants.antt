use Rattle.std.proofs.Common.{◌≡◌, ◌+◌, ◌++◌, map, take}
use Rattle.std.specs.Vec.{vec_len, vec_capacity}
use Rattle.ve_table.specs.Growth.{entry_of_birth}
use Rattle.ve_table.proofs.table.grow.add_entries.Given as goal

abbrev pub invariant-loop-birth : goal.invariant-loop-birth
invariant-loop-birth l = record {
  so_far : l.entries.items ≡ l.fn.entries.items ++ map (entry_of_birth l.reach l.fn.entries.items) (take l.birth-index l.births);
  count : vec_len l.entries ≡ vec_len l.fn.entries + l.birth-index;
  capacity : vec_capacity l.entries ≡ vec_capacity l.fn.entries;
}
