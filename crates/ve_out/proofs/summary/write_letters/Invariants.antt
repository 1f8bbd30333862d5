use Rattle.std.proofs.Common.{length}
use Rattle.ve_formats.specs.Lines.{numbers_below}
use Rattle.ve_formats.specs.SummaryText.{letter_summary}
use Rattle.ve_matrix.specs.Answers.{answer_of}
use Rattle.ve_port.specs.Sink.{Gains}
use Rattle.ve_port.proofs.ItemLines.{text_before}
use Rattle.ve_out.proofs.summary.write_letters.Given as goal

abbrev pub invariant-loop-letter : goal.invariant-loop-letter
invariant-loop-letter g l =
    Gains (g.K.Sink.output l.fn.out) (g.K.Sink.output l.out) (text_before (letter_summary (answer_of l.answer)) (numbers_below (length l.answer.names)) l.letter)
