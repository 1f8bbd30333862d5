use Rattle.std.proofs.Common.{◌≡◌, ℕ, Some, slice_get}
use Rattle.std.specs.Vec.{vec_len, vec_capacity}
use Rattle.ve_theory.specs.Answers.{Row}
use Rattle.ve_table.specs.Tables.{row_at}
use Rattle.ve_matrix.proofs.answer.copies.copy_rows.Given as goal

abbrev pub invariant-loop-id : goal.invariant-loop-id
invariant-loop-id l = record {
  each : (b : ℕ) (v : Row) → slice_get l.rows.items b ≡ Some v → row_at l.table b l.letter ≡ Some v;
  count : vec_len l.rows ≡ l.id;
  capacity : vec_capacity l.rows ≡ l.count;
}
