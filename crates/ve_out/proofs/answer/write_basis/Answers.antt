use Rattle.std.proofs.Common.{◌<◌, ◌≤◌, ◌≡◌, ◌++◌, List, ℕ, codes, length, arith, sym, subst, ap, ◌∙◌, refl}
use Rattle.ve_theory.specs.Words.{Word, generator}
use Rattle.ve_theory.specs.Answers.{dimension, basis_word}
use Rattle.ve_formats.specs.AnswerText.{basis_lines}
use Rattle.ve_formats.specs.WordText.{word_text}
use Rattle.ve_formats.specs.Lines.{line_text}
use Rattle.ve_port.specs.Sink.{Gains}
use Rattle.ve_port.specs.Writing.{Writes-stopped, Writes-gained, Stops, Stops-memory}
use Rattle.ve_matrix.specs.Answers.{answer_of}
use Rattle.ve_port.proofs.ItemLines.{Gains-line, Gains-each, Stops-each}
use Rattle.ve_out.specs.Parts.{basis_line}
use Rattle.ve_out.proofs.AnswerParts.{basis_size}
use Rattle.ve_out.proofs.answer.write_basis.Goals as goal

pub returns-in_err-append_basis_line : goal.returns-in_err-append_basis_line
unfolding basis_lines
returns-in_err-append_basis_line g c =
    let A = answer_of c.args.answer.now in
    let line : Word → List ℕ = λ w. codes "basis " ++ word_text A.names w in
    let inside : c.loop-place.place < dimension A.action = omega (arith, basis_size c.args.answer.now, c.args.answer.now.basis.ok.0, c.len-place-end.ensures, c.loop-place-test.true) in
    Writes-stopped c.from_residual.ensures.1
    (Stops-each line A.action.basis c.loop-place.place (basis_word A.action c.loop-place.place) (generator 0) inside refl c.loop-place.invariant (Stops-memory _ _))

pub returns-in_err-put : goal.returns-in_err-put
unfolding basis_lines
returns-in_err-put g c =
    let A = answer_of c.args.answer.now in
    let line : Word → List ℕ = λ w. codes "basis " ++ word_text A.names w in
    let inside : c.loop-place.place < dimension A.action = omega (arith, basis_size c.args.answer.now, c.args.answer.now.basis.ok.0, c.len-place-end.ensures, c.loop-place-test.true) in
    let text = c.deref.ensures.value ∙ c.in_ok-append_basis_line.ensures ∙ ap (λ l. l ++ line_text (basis_line A c.loop-place.place)) c.clear.ensures.items in
    Writes-stopped c.from_residual-in_err-put.ensures.1
    (Stops-each line A.action.basis c.loop-place.place (basis_word A.action c.loop-place.place) (generator 0) inside refl c.loop-place.invariant
    (subst (λ t. Stops (g.K.Sink.output c.loop-place.out) (g.K.Sink.output c.put.new.out) t c.in_err-put.field-0.0) text c.in_err-put.ensures.stopped))

pub loop-place-preserved : goal.loop-place-preserved
loop-place-preserved g c =
    let A = answer_of c.args.answer.now in
    let line : Word → List ℕ = λ w. codes "basis " ++ word_text A.names w in
    let inside : c.loop-place.place < dimension A.action = omega (arith, basis_size c.args.answer.now, c.args.answer.now.basis.ok.0, c.len-place-end.ensures, c.loop-place-test.true) in
    let text = c.deref.ensures.value ∙ c.in_ok-append_basis_line.ensures ∙ ap (λ l. l ++ line_text (basis_line A c.loop-place.place)) c.clear.ensures.items in
    Gains-line line A.action.basis c.loop-place.place (basis_word A.action c.loop-place.place) (generator 0) inside refl c.loop-place.invariant
    (subst (λ t. Gains (g.K.Sink.output c.loop-place.out) (g.K.Sink.output c.put.new.out) t) text c.in_ok-put.ensures.gained)

pub returns : goal.returns
unfolding basis_lines
returns g c =
    let A = answer_of c.args.answer.now in
    let line : Word → List ℕ = λ w. codes "basis " ++ word_text A.names w in
    let outside : dimension A.action ≤ c.loop-place.place = omega (arith, basis_size c.args.answer.now, c.args.answer.now.basis.ok.0, c.len-place-end.ensures, c.loop-place-test.false) in
    Writes-gained _ (Gains-each line A.action.basis c.loop-place.place outside c.loop-place.invariant)
