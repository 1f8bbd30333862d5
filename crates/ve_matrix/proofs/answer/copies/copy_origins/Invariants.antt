use Rattle.std.proofs.Common.{◌≡◌, ℕ, Some, slice_get}
use Rattle.std.specs.Vec.{vec_len, vec_capacity}
use Rattle.ve_table.specs.declared.origin.Origin.{Origin}
use Rattle.ve_table.specs.Tables.{word_at}
use Rattle.ve_table.specs.Books.{IsOriginOf}
use Rattle.ve_matrix.proofs.answer.copies.copy_origins.Given as goal

abbrev pub invariant-loop-id : goal.invariant-loop-id
invariant-loop-id l = record {
  each : (b : ℕ) (o : Origin) → slice_get l.origins.items b ≡ Some o → IsOriginOf l.table.words b o (word_at l.table b);
  count : vec_len l.origins ≡ l.id;
  capacity : vec_capacity l.origins ≡ l.count;
}
