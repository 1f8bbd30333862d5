use Rattle.std.proofs.Common.{◌<◌, ◌≤◌, ◌≡◌, ◌++◌, length, arith, sym, subst, ap, ◌∙◌}
use Rattle.ve_formats.specs.Lines.{line_text, numbers_below}
use Rattle.ve_formats.specs.SummaryText.{letter_summary}
use Rattle.ve_formats.proofs.NumbersBelow.{length-numbers_below}
use Rattle.ve_port.specs.Sink.{Gains}
use Rattle.ve_port.specs.Writing.{Writes-stopped, Writes-gained, Stops, Stops-memory}
use Rattle.ve_matrix.specs.Answers.{answer_of}
use Rattle.ve_port.proofs.ItemLines.{Gains-line, Gains-each, Stops-each}
use Rattle.ve_out.specs.Parts.{letters_text}
use Rattle.ve_out.proofs.AnswerParts.{number_at}
use Rattle.ve_out.proofs.summary.write_letters.Goals as goal

pub returns-in_err-append_letter : goal.returns-in_err-append_letter
unfolding letters_text
returns-in_err-append_letter g c =
    let n = length c.args.answer.now.names in
    let below : c.loop-letter.letter < n = omega (arith, c.count-letter-end.ensures.count, c.loop-letter-test.true) in
    let inside : c.loop-letter.letter < length (numbers_below n) = omega (arith, length-numbers_below n, below) in
    Writes-stopped c.from_residual.ensures.1
    (Stops-each (letter_summary (answer_of c.args.answer.now)) (numbers_below n) c.loop-letter.letter c.loop-letter.letter 0 inside (number_at n c.loop-letter.letter below) c.loop-letter.invariant (Stops-memory _ _))

pub returns-in_err-put : goal.returns-in_err-put
unfolding letters_text
returns-in_err-put g c =
    let A = answer_of c.args.answer.now in
    let n = length c.args.answer.now.names in
    let below : c.loop-letter.letter < n = omega (arith, c.count-letter-end.ensures.count, c.loop-letter-test.true) in
    let inside : c.loop-letter.letter < length (numbers_below n) = omega (arith, length-numbers_below n, below) in
    let text = c.deref.ensures.value ∙ c.in_ok-append_letter.ensures ∙ ap (λ l. l ++ line_text (letter_summary A c.loop-letter.letter)) c.clear.ensures.items in
    Writes-stopped c.from_residual-in_err-put.ensures.1
    (Stops-each (letter_summary A) (numbers_below n) c.loop-letter.letter c.loop-letter.letter 0 inside (number_at n c.loop-letter.letter below) c.loop-letter.invariant
    (subst (λ t. Stops (g.K.Sink.output c.loop-letter.out) (g.K.Sink.output c.put.new.out) t c.in_err-put.field-0.0) text c.in_err-put.ensures.stopped))

pub loop-letter-preserved : goal.loop-letter-preserved
loop-letter-preserved g c =
    let A = answer_of c.args.answer.now in
    let n = length c.args.answer.now.names in
    let below : c.loop-letter.letter < n = omega (arith, c.count-letter-end.ensures.count, c.loop-letter-test.true) in
    let inside : c.loop-letter.letter < length (numbers_below n) = omega (arith, length-numbers_below n, below) in
    let text = c.deref.ensures.value ∙ c.in_ok-append_letter.ensures ∙ ap (λ l. l ++ line_text (letter_summary A c.loop-letter.letter)) c.clear.ensures.items in
    Gains-line (letter_summary A) (numbers_below n) c.loop-letter.letter c.loop-letter.letter 0 inside (number_at n c.loop-letter.letter below) c.loop-letter.invariant
    (subst (λ t. Gains (g.K.Sink.output c.loop-letter.out) (g.K.Sink.output c.put.new.out) t) text c.in_ok-put.ensures.gained)

pub returns : goal.returns
unfolding letters_text
returns g c =
    let n = length c.args.answer.now.names in
    let outside : length (numbers_below n) ≤ c.loop-letter.letter = omega (arith, length-numbers_below n, c.count-letter-end.ensures.count, c.loop-letter-test.false) in
    Writes-gained _ (Gains-each (letter_summary (answer_of c.args.answer.now)) (numbers_below n) c.loop-letter.letter outside c.loop-letter.invariant)
