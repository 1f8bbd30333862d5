use Rattle.std.proofs.Common.{◌<◌, ◌≤◌, ◌≡◌, length, arith, sym, subst, ap, ◌∙◌, get_or}
use Rattle.ve_theory.specs.Answers.{dimension}
use Rattle.ve_formats.specs.AnswerText.{image_line, image_lines}
use Rattle.ve_formats.specs.Lines.{line_text}
use Rattle.ve_port.specs.Sink.{Gains}
use Rattle.ve_port.specs.Writing.{Writes-stopped, Writes-gained, Stops}
use Rattle.ve_matrix.specs.Answers.{answer_of}
use Rattle.ve_port.proofs.ItemLines.{Gains-line, Gains-each, Stops-each}
use Rattle.ve_out.proofs.AnswerParts.{basis_size, row_among}
use Rattle.ve_out.proofs.answer.write_images.Goals as goal

pub write_row-requires-clause-row : goal.write_row-requires-clause-row
write_row-requires-clause-row g c =
    let A = c.args.answer.now in
    let inside : c.loop-image.image-index < length A.images.items = omega (arith, A.images.ok.0, ap length c.deref-image-items.ensures.value, c.loop-image-test.true) in
    let size : dimension (answer_of A).action ≡ c.len.result = omega (arith, basis_size A, A.basis.ok.0, c.len.ensures) in
    row_among A.field (dimension (answer_of A).action) c.len.result A.images.items c.loop-image.image-index c.image-item.result c.requires.answer.form.images inside (c.image-item.is ∙ ap (λ rows. get_or rows c.loop-image.image-index c.image-item.result) c.deref-image-items.ensures.value) size

pub returns-in_err-write_row : goal.returns-in_err-write_row
unfolding image_lines
returns-in_err-write_row g c =
    let A = c.args.answer.now in
    let n = dimension (answer_of A).action in
    let inside : c.loop-image.image-index < length A.images.items = omega (arith, A.images.ok.0, ap length c.deref-image-items.ensures.value, c.loop-image-test.true) in
    let size : c.len.result ≡ n = omega (arith, basis_size A, A.basis.ok.0, c.len.ensures) in
    Writes-stopped c.from_residual.ensures.1
    (Stops-each (image_line n) A.images.items c.loop-image.image-index c.image-item.result c.image-item.result inside (c.image-item.is ∙ ap (λ rows. get_or rows c.loop-image.image-index c.image-item.result) c.deref-image-items.ensures.value) c.loop-image.invariant
    (subst (λ m. Stops (g.K.Sink.output c.loop-image.out) (g.K.Sink.output c.write_row.new.out) (line_text (image_line m c.image-item.result)) c.in_err-write_row.field-0.0) size c.in_err-write_row.ensures.stopped))

pub loop-image-preserved : goal.loop-image-preserved
loop-image-preserved g c =
    let A = c.args.answer.now in
    let n = dimension (answer_of A).action in
    let inside : c.loop-image.image-index < length A.images.items = omega (arith, A.images.ok.0, ap length c.deref-image-items.ensures.value, c.loop-image-test.true) in
    let size : c.len.result ≡ n = omega (arith, basis_size A, A.basis.ok.0, c.len.ensures) in
    Gains-line (image_line n) A.images.items c.loop-image.image-index c.image-item.result c.image-item.result inside (c.image-item.is ∙ ap (λ rows. get_or rows c.loop-image.image-index c.image-item.result) c.deref-image-items.ensures.value) c.loop-image.invariant
    (subst (λ m. Gains (g.K.Sink.output c.loop-image.out) (g.K.Sink.output c.write_row.new.out) (line_text (image_line m c.image-item.result))) size c.in_ok-write_row.ensures.gained)

pub returns : goal.returns
unfolding image_lines
returns g c =
    let A = c.args.answer.now in
    let outside : length A.images.items ≤ c.loop-image.image-index = omega (arith, A.images.ok.0, ap length c.deref-image-items.ensures.value, c.loop-image-test.false) in
    Writes-gained _ (Gains-each (image_line (dimension (answer_of A).action)) A.images.items c.loop-image.image-index outside c.loop-image.invariant)
