use Rattle.std.proofs.Common.{codes, ◌++◌}
use Rattle.ve_formats.specs.WordText.{word_text}
use Rattle.ve_matrix.specs.Answers.{answer_of}
use Rattle.ve_port.specs.Sink.{Gains}
use Rattle.ve_port.proofs.ItemLines.{text_before}
use Rattle.ve_out.proofs.answer.write_basis.Given as goal

abbrev pub invariant-loop-place : goal.invariant-loop-place
invariant-loop-place g l =
    Gains (g.K.Sink.output l.fn.out) (g.K.Sink.output l.out)
    (text_before (λ w. codes "basis " ++ word_text l.answer.names w) (answer_of l.answer).action.basis l.place)
