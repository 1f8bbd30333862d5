use Rattle.ve_port.specs.Sink.{Gains}
use Rattle.ve_show.proofs.LetterLines.{text_before}
use Rattle.ve_show.proofs.text.show_letters.Given as goal

abbrev pub invariant-loop-letter : goal.invariant-loop-letter
invariant-loop-letter g l = Gains (g.K.Sink.output l.fn.out) (g.K.Sink.output l.out) (text_before l.presentation.presentation l.letter)
