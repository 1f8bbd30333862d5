use Rattle.std.proofs.Common.{◌<◌, ◌≡◌, ◌++◌, [], length, arith, ap, ◌∙◌, sym, subst, get_or, IfOk}
use Rattle.std.proofs.lemmas.List.{get_or_default}
use Rattle.std.proofs.lemmas.List.Elements.{All-get_or}
use Rattle.ve_theory.specs.Answers.{dimension}
use Rattle.ve_formats.specs.Lines.{line_text}
use Rattle.ve_matrix.specs.Answers.{answer_of}
use Rattle.ve_out.proofs.AnswerParts.{matrix_among}
use Rattle.ve_out.proofs.Figures.{summary_of}
use Rattle.ve_out.proofs.summary.append_letter.Goals as goal

pub count_nonzero-requires : goal.count_nonzero-requires
count_nonzero-requires c =
    let A = c.args.answer.now in
    let form = c.requires.answer.form in
    let matrix = c.index-matrix.result.now in
    let inside : c.from.result < length A.matrices.items = omega (arith, c.from.ensures, c.requires.letter, form.one_matrix_each) in
    let size : length (get_or A.matrices.items c.from.result matrix) ≡ dimension (answer_of A).action = All-get_or (λ m. length m ≡ dimension (answer_of A).action) A.matrices.items c.from.result matrix inside form.square in
    matrix_among A.field _ (length matrix) A.matrices.items c.from.result matrix form.matrices inside c.index-matrix.ensures (sym size ∙ ap length (sym c.index-matrix.ensures))

pub returns : goal.returns
returns c =
    let A = c.args.answer.now in
    let form = c.requires.answer.form in
    let matrix = c.index-matrix.result.now in
    let inside : c.from.result < length A.matrices.items = omega (arith, c.from.ensures, c.requires.letter, form.one_matrix_each) in
    let size : length (get_or A.matrices.items c.from.result matrix) ≡ dimension (answer_of A).action = All-get_or (λ m. length m ≡ dimension (answer_of A).action) A.matrices.items c.from.result matrix inside form.square in
    let here : matrix ≡ get_or A.matrices.items c.args.letter [] =
    c.index-matrix.ensures ∙ get_or_default A.matrices.items c.from.result matrix [] inside ∙ ap (λ x. get_or A.matrices.items x []) c.from.ensures in
    let line = summary_of (answer_of A) c.args.letter c.name.result.now matrix c.count_nonzero.result c.trace-trace.result c.name.ensures here (ap length c.index-matrix.ensures ∙ size) c.count_nonzero.ensures c.trace-trace.ensures in
    subst (λ l. IfOk c.append_figures.result (λ _. c.append_figures.new.line.items ≡ c.args.line.now.items ++ line_text l)) line c.append_figures.ensures
