use Rattle.ve_formats.specs.AnswerText.{matrix_lines}
use Rattle.ve_formats.specs.Lines.{text_of_lines}
use Rattle.ve_matrix.specs.Answers.{answer_of}
use Rattle.ve_port.specs.Sink.{Gains}
use Rattle.ve_out.proofs.answer.write_matrices.Given as goal

abbrev pub invariant-loop-letter : goal.invariant-loop-letter
invariant-loop-letter g l = Gains (g.K.Sink.output l.fn.out) (g.K.Sink.output l.out) (text_of_lines (matrix_lines (answer_of l.answer) l.letter))
