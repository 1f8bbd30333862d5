use Rattle.std.proofs.Common.{◌≡◌, ◌+◌, ◌≤◌, ◌++◌, [], length}
use Rattle.std.specs.Prelude.{replicate}
use Rattle.std.specs.Vec.{vec_len, vec_capacity}
use Rattle.ve_table.proofs.rows.take_places.Given as goal

abbrev pub invariant-loop-place : goal.invariant-loop-place
invariant-loop-place l = record {
  places : l.rows.items ≡ l.fn.rows.items ++ replicate l._place [];
  count : vec_len l.rows ≡ length l.fn.rows.items + l._place;
  capacity : length l.fn.rows.items + l.more ≤ vec_capacity l.rows;
}
