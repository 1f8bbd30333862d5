use Rattle.std.proofs.Common.{◌≡◌, ℕ, List, Some, slice_get}
use Rattle.std.specs.Vec.{vec_len, vec_capacity}
use Rattle.ve_theory.specs.Answers.{Row}
use Rattle.ve_table.specs.Parts.{AreRowsAt}
use Rattle.ve_matrix.proofs.answer.copies.copy_matrices.Given as goal

abbrev pub invariant-loop-letter : goal.invariant-loop-letter
invariant-loop-letter l = record {
  each : (x : ℕ) (matrix : List Row) → slice_get l.matrices.items x ≡ Some matrix → AreRowsAt l.table x matrix;
  count : vec_len l.matrices ≡ l.letter;
  capacity : vec_capacity l.matrices ≡ l.letters;
}
