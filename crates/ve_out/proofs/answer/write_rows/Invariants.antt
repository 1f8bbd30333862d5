use Rattle.ve_formats.specs.AnswerText.{row_line}
use Rattle.ve_port.specs.Sink.{Gains}
use Rattle.ve_port.proofs.ItemLines.{text_before}
use Rattle.ve_out.proofs.answer.write_rows.Given as goal

abbrev pub invariant-loop-at : goal.invariant-loop-at
invariant-loop-at g l = Gains (g.K.Sink.output l.fn.out) (g.K.Sink.output l.out) (text_before (row_line l.count) l.matrix l.at)
