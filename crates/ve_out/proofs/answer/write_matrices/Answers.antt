use Rattle.std.proofs.Common.{◌<◌, ◌≡◌, length, arith, subst}
use Rattle.ve_formats.specs.AnswerText.{matrix_lines}
use Rattle.ve_formats.specs.Lines.{text_of_lines}
use Rattle.ve_port.specs.Sink.{Gains}
use Rattle.ve_port.specs.Writing.{Writes-stopped, Writes-gained}
use Rattle.ve_matrix.specs.Answers.{answer_of}
use Rattle.ve_out.proofs.AnswerParts.{Gains-no_matrix, Gains-matrix, Stops-matrix}
use Rattle.ve_out.proofs.answer.write_matrices.Goals as goal

pub loop-letter-init : goal.loop-letter-init
loop-letter-init g c = Gains-no_matrix (answer_of c.args.answer.now) _

pub loop-letter-preserved : goal.loop-letter-preserved
loop-letter-preserved g c = Gains-matrix (answer_of c.args.answer.now) c.loop-letter.letter c.loop-letter.invariant c.in_ok-write_letter.ensures.gained

pub returns-in_err-write_letter : goal.returns-in_err-write_letter
returns-in_err-write_letter g c =
    let inside : c.loop-letter.letter < length c.args.answer.now.names = omega (arith, c.count-letter-end.ensures.count, c.loop-letter-test.true) in
    Writes-stopped c.from_residual.ensures.1 (Stops-matrix (answer_of c.args.answer.now) c.loop-letter.letter _ inside c.loop-letter.invariant c.in_err-write_letter.ensures.stopped)
