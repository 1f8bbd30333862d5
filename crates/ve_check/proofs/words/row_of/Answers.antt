use Rattle.std.proofs.Common.{◌≡◌, ◌<◌, [], length, slice_index_or, refl, sym, ap, ◌∙◌, subst, arith}
use Rattle.std.proofs.lemmas.List.{get_or_read_under}
use Rattle.std.proofs.lemmas.Option.{get_or_from_slice_get}
use Rattle.ve_matrix.specs.Answers.{answer_of}
use Rattle.ve_matrix.proofs.BasisWords.{length-words_of}
use Rattle.ve_check.specs.OriginRows.{HasRow, row_by_origin}
use Rattle.ve_check.proofs.words.row_of.Goals as goal

pub row-requires : goal.row-requires
row-requires c =
    let A = c.args.answer.now in
    let has = subst (HasRow A) c.in-Child.is c.requires.origin in
    let within : c.from-in-Child.result < length A.matrices.items = omega (arith, has.1, c.from-in-Child.ensures, c.requires.answer.form.one_matrix_each) in
    omega (arith, has.0, ap length c.index-in-Child.ensures, c.requires.answer.form.square c.from-in-Child.result c.index-in-Child.result.now within, length-words_of A.basis.items)

pub returns-in-Child : goal.returns-in-Child
returns-in-Child c =
    let A = c.args.answer.now in
    let has = subst (HasRow A) c.in-Child.is c.requires.origin in
    let within : c.from-in-Child.result < length A.matrices.items = omega (arith, has.1, c.from-in-Child.ensures, c.requires.answer.form.one_matrix_each) in
    let matrix : c.index-in-Child.result.now ≡ slice_index_or A.matrices.items c.in-Child.letter [] =
    get_or_read_under A.matrices.items c.from-in-Child.result (length A.matrices.items) c.index-in-Child.result.now [] c.index-in-Child.ensures within refl
    ∙ ap (λ x. slice_index_or A.matrices.items x []) c.from-in-Child.ensures in
    sym (get_or_from_slice_get c.index-in-Child.result.now c.in-Child.parent c.row.result.now [] c.row.ensures)
    ∙ (ap (λ m. slice_index_or m c.in-Child.parent []) matrix ∙ ap (row_by_origin (answer_of A).action) (sym c.in-Child.is))
