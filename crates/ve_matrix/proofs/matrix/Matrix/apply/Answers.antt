use Rattle.std.proofs.Common.{◌<◌, [], ◌∷◌, nat_eq, length, refl, sym, subst, ap, ◌∙◌, lit<}
use Rattle.std.proofs.lemmas.Result.{IfOk-weaker}
use Rattle.std.proofs.lemmas.List.Elements.{All-nil, All-cons}
use Rattle.ve_theory.specs.Combinations.{IsReducedOf}
use Rattle.ve_vec.specs.Tracing.{CanTrace, vector_times_letters}
use Rattle.ve_trace.proofs.Vectors.{ids_of_sum}
use Rattle.ve_matrix.specs.Matrices.{IsSquare, row_times_matrix}
use Rattle.ve_matrix.proofs.Tables.{as_table, times_letter, placed_times, letters_found}
use Rattle.ve_matrix.proofs.matrix.Matrix.apply.Goals as goal

pub trace_word-requires-clause-found : goal.trace_word-requires-clause-found
trace_word-requires-clause-found c =
    let square : IsSquare c.args.self.now = subst IsSquare c.self.view_is c.self.invariant in
    subst (λ matrix. CanTrace c.args.field.now (as_table (λ x. matrix)) c.args.row.now (0 ∷ [])) (sym c.new-letter.ensures)
    (letters_found c.args.field.now (length c.args.self.now) (λ x. c.args.self.now) 1 (λ x l. refl) (λ x l. square.columns) c.args.row.now (0 ∷ [])
    (All-cons (λ x. x < 1) 0 [] (lit< tt) (All-nil (λ x. x < 1))) c.requires.row.1)

pub returns-clause-product : goal.returns-clause-product
returns-clause-product c =
    IfOk-weaker c.trace_word.result _ _
    (λ v traced. subst (λ e. IsReducedOf ◌<◌ nat_eq c.args.field.now v e)
    (ap (λ matrix. vector_times_letters (as_table (λ x. matrix)) c.args.row.now (0 ∷ [])) c.new-letter.ensures ∙ times_letter c.args.self.now c.args.row.now) traced)
    c.trace_word.ensures.traced

pub returns-clause-row : goal.returns-clause-row
returns-clause-row c =
    let square : IsSquare c.args.self.now = subst IsSquare c.self.view_is c.self.invariant in
    IfOk-weaker c.trace_word.result _ _
    (λ v product. (
      product.reduced,
      ids_of_sum c.args.field.now (length c.args.self.now) v (row_times_matrix c.args.row.now c.args.self.now) product
          (placed_times (length c.args.self.now) c.args.self.now c.args.row.now square.columns),
    ))
    (returns-clause-product c)
