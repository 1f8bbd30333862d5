use Rattle.std.proofs.Common.{◌<◌, ◌≡◌, length, arith}
use Rattle.ve_theory.specs.Answers.{dimension}
use Rattle.ve_formats.specs.AnswerText.{letter_lines}
use Rattle.ve_port.specs.Writing.{Writes-stopped}
use Rattle.ve_matrix.specs.Answers.{answer_of}
use Rattle.ve_out.proofs.LineByLine.{Stops-line, Writes-behind}
use Rattle.ve_out.proofs.AnswerParts.{basis_size, matrix_among, Gains-name, Stops-name, Writes-matrix}
use Rattle.ve_out.proofs.answer.write_letter.Goals as goal

pub returns-in_err-write_name : goal.returns-in_err-write_name
unfolding letter_lines
returns-in_err-write_name g c =
    Writes-stopped c.from_residual.ensures.1
    (Stops-line _ _ (Stops-name c.args.answer.now.names c.args.letter c.name.result.now c.name.ensures c.in_err-write_name.ensures.stopped))

pub write_rows-requires-clause-rows : goal.write_rows-requires-clause-rows
write_rows-requires-clause-rows g c =
    let A = c.args.answer.now in
    let size : dimension (answer_of A).action ≡ c.len.result = omega (arith, basis_size A, A.basis.ok.0, c.len.ensures) in
    let inside : c.from.result < length A.matrices.items = omega (arith, c.from.ensures, c.requires.letter, c.requires.answer.form.one_matrix_each) in
    matrix_among A.field _ c.len.result A.matrices.items c.from.result c.index.result.now c.requires.answer.form.matrices inside c.index.ensures size

pub returns : goal.returns
unfolding letter_lines
returns g c =
    let A = c.args.answer.now in
    let size : c.len.result ≡ dimension (answer_of A).action = omega (arith, basis_size A, A.basis.ok.0, c.len.ensures) in
    let inside : c.args.letter < length A.matrices.items = omega (arith, c.requires.letter, c.requires.answer.form.one_matrix_each) in
    Writes-behind _ _ (Gains-name A.names c.args.letter c.name.result.now c.name.ensures c.in_ok-write_name.ensures.gained)
    (Writes-matrix _ c.len.result A.matrices.items c.from.result c.args.letter c.index.result.now size c.from.ensures inside c.index.ensures c.write_rows.ensures)
