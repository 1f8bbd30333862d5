use Rattle.std.proofs.Common.{◌<◌, length, ap, arith, below_more}
use Rattle.ve_theory.specs.Answers.{IsRow, dimension}
use Rattle.ve_lemmas.proofs.Lists.{All-slice_get}
use Rattle.ve_matrix.specs.Answers.{answer_of}
use Rattle.ve_matrix.specs.Disorders.{RowIsOrdered}
use Rattle.ve_matrix.proofs.BasisWords.{length-words_of}
use Rattle.ve_matrix.proofs.RisingWords.{letter_matrix, known_letters, child_letters, row_judged, denied}
use Rattle.ve_matrix.proofs.answer.Answer.first_above.Goals as goal

pub basis_word-requires-clause-place : goal.basis_word-requires-clause-place
basis_word-requires-clause-place c =
    let matrix = letter_matrix c.args.self.now c.args.letter c.from.result c.index-matrix.result.now c.requires.order.answer c.from.ensures c.requires.letter c.index-matrix.ensures in
    omega (arith, matrix.size, length-words_of c.args.self.now.basis.items)

pub is_up_to-requires-clause-row : goal.is_up_to-requires-clause-row
is_up_to-requires-clause-row c =
    let matrix = letter_matrix c.args.self.now c.args.letter c.from.result c.index-matrix.result.now c.requires.order.answer c.from.ensures c.requires.letter c.index-matrix.ensures in
    All-slice_get (IsRow c.args.self.now.field (dimension (answer_of c.args.self.now).action)) c.index-matrix.result.now c.loop-place.place c.row.result.now c.row.ensures matrix.rows

pub is_up_to-requires-clause-word : goal.is_up_to-requires-clause-word
is_up_to-requires-clause-word c =
    let P = c.args.presentation.now.presentation in
    let matrix = letter_matrix c.args.self.now c.args.letter c.from.result c.index-matrix.result.now c.requires.order.answer c.from.ensures c.requires.letter c.index-matrix.ensures in
    let within : c.loop-place.place < length c.args.self.now.basis.items = omega (arith, matrix.size, length-words_of c.args.self.now.basis.items) in
    child_letters P c.args.letter c.in_ok-word.word c.push.new.self c.in_ok-push.ensures.ok
    (known_letters P c.args.self.now c.loop-place.place c.in_ok-word.word c.requires.order c.in_ok-word.ensures within)
    (omega (arith, ap length c.requires.order.shape.names))

pub returns-then-not-branch : goal.returns-then-not-branch
returns-then-not-branch c =
    let P = c.args.presentation.now.presentation in
    let matrix = letter_matrix c.args.self.now c.args.letter c.from.result c.index-matrix.result.now c.requires.order.answer c.from.ensures c.requires.letter c.index-matrix.ensures in
    record {
      exists = omega (arith, matrix.size);
      earlier = c.loop-place.invariant;
      fails =
          denied c.in_ok-is_up_to.field-0
          (row_judged P c.args.self.now c.args.letter c.loop-place.place c.in_ok-is_up_to.field-0 c.in_ok-word.word c.push.new.self c.row.result.now c.index-matrix.result.now matrix c.row.ensures
          c.in_ok-word.ensures c.in_ok-push.ensures.ok c.in_ok-is_up_to.ensures)
          c.if-not-branch.true;
    }

pub loop-place-preserved : goal.loop-place-preserved
loop-place-preserved c =
    let P = c.args.presentation.now.presentation in
    let matrix = letter_matrix c.args.self.now c.args.letter c.from.result c.index-matrix.result.now c.requires.order.answer c.from.ensures c.requires.letter c.index-matrix.ensures in
    below_more (RowIsOrdered P (answer_of c.args.self.now).action c.args.letter) c.loop-place.place c.loop-place.invariant
    ((row_judged P c.args.self.now c.args.letter c.loop-place.place c.in_ok-is_up_to.field-0 c.in_ok-word.word c.push.new.self c.row.result.now c.index-matrix.result.now matrix c.row.ensures
    c.in_ok-word.ensures c.in_ok-push.ensures.ok c.in_ok-is_up_to.ensures).0 c.if-not-branch.false)
