use Rattle.std.proofs.Common.{◌≡◌, length, take}
use Rattle.std.specs.Vec.{vec_len, vec_capacity}
use Rattle.ve_theory.specs.Answers.{IsRow}
use Rattle.ve_matrix.specs.Matrices.{IsProduct}
use Rattle.std.proofs.Common.{All}
use Rattle.ve_matrix.proofs.matrix.Matrix.mul.Given as goal

abbrev pub invariant-loop-row : goal.invariant-loop-row
invariant-loop-row l = record {
  product : IsProduct l.field (take l.row-index l.row-items) l.other l.rows.items;
  rows : All (IsRow l.field (length l.other)) l.rows.items;
  count : vec_len l.rows ≡ l.row-index;
  capacity : vec_capacity l.rows ≡ length l.row-items;
}
