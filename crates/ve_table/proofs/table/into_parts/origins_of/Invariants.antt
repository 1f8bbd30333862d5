use Rattle.std.proofs.Common.{◌≡◌, length, map, take}
use Rattle.std.specs.Vec.{vec_len, vec_capacity}
use Rattle.ve_table.specs.declared.entry.Entry.{Entry}
use Rattle.ve_table.proofs.table.into_parts.origins_of.Given as goal

abbrev pub invariant-loop-entry : goal.invariant-loop-entry
invariant-loop-entry l = record {
  origins : l.origins.items ≡ map (λ (e : Entry). e.origin) (take l.entry-index l.entry-items);
  count : vec_len l.origins ≡ l.entry-index;
  capacity : vec_capacity l.origins ≡ length l.entry-items;
}
