use Rattle.std.proofs.Common.{ap, ◌∷◌, [], ◌++◌, ◌∙◌, sym, arith}
use Rattle.ve_table.specs.Parts.{AreRowsAt}
use Rattle.ve_matrix.proofs.Tables.{each_pushed}
use Rattle.ve_matrix.proofs.Copying.{copied_columns}
use Rattle.ve_matrix.proofs.answer.copies.copy_matrices.Goals as goal

pub of_rows-requires-clause-columns : goal.of_rows-requires-clause-columns
of_rows-requires-clause-columns c = copied_columns c.args.table.now c.loop-letter.letter c.in_ok-rows.rows.items c.presentation.ensures.sound (c.in_ok-rows.ensures.rows)

pub loop-letter-preserved : goal.loop-letter-preserved
loop-letter-preserved c = record {
  each = each_pushed (AreRowsAt c.args.table.now) c.loop-letter.matrices.items c.push_reserved.new.self.items c.loop-letter.letter c.in_ok-rows.rows.items
      (c.push_reserved.ensures.items ∙ ap (λ m. c.loop-letter.matrices.items ++ m ∷ []) c.of_rows.ensures)
      (sym c.loop-letter.matrices.ok.0 ∙ c.loop-letter.invariant.count) c.loop-letter.invariant.each c.in_ok-rows.ensures.rows;
  count = omega (arith, c.push_reserved.ensures.len, c.loop-letter.invariant.count);
  capacity = c.push_reserved.ensures.capacity ∙ c.loop-letter.invariant.capacity;
}
