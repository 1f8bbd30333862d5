use Rattle.std.proofs.Common.{◌≡◌, map}
use Rattle.std.specs.List.{range_with_len}
use Rattle.std.specs.Vec.{vec_len, vec_capacity}
use Rattle.ve_theory.specs.Combinations.{unit}
use Rattle.ve_matrix.proofs.matrix.Matrix.identity.Given as goal

abbrev pub invariant-loop-place : goal.invariant-loop-place
invariant-loop-place l = record {
  units : l.rows.items ≡ map unit (range_with_len 0 l.place);
  count : vec_len l.rows ≡ l.place;
  capacity : vec_capacity l.rows ≡ l.size;
}
