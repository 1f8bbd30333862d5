use Rattle.std.proofs.Common.{◌≡◌, take}
use Rattle.std.specs.Vec.{vec_len, vec_capacity}
use Rattle.ve_table.proofs.table.copy.copy_vectors.Given as goal

abbrev pub invariant-loop-vector : goal.invariant-loop-vector
invariant-loop-vector l = record {
  copies : l.copies.items ≡ take l.vector-index l.vectors.items;
  count : vec_len l.copies ≡ l.vector-index;
  capacity : vec_capacity l.copies ≡ l.room;
}
