use Rattle.ve_theory.specs.Answers.{dimension}
use Rattle.ve_formats.specs.AnswerText.{image_line}
use Rattle.ve_matrix.specs.Answers.{answer_of}
use Rattle.ve_port.specs.Sink.{Gains}
use Rattle.ve_port.proofs.ItemLines.{text_before}
use Rattle.ve_out.proofs.answer.write_images.Given as goal

abbrev pub invariant-loop-image : goal.invariant-loop-image
invariant-loop-image g l =
    Gains (g.K.Sink.output l.fn.out) (g.K.Sink.output l.out) (text_before (image_line (dimension (answer_of l.answer).action)) l.answer.images.items l.image-index)
