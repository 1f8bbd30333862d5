use Rattle.std.proofs.Common.{take}
use Rattle.std.specs.List.{flat_map}
use Rattle.ve_formats.specs.Lines.{line_text}
use Rattle.ve_formats.specs.CanonicalText.{relation_line}
use Rattle.ve_port.specs.Sink.{Gains}
use Rattle.ve_show.proofs.text.show_relations.Given as goal

abbrev pub invariant-loop-at : goal.invariant-loop-at
invariant-loop-at g l =
    Gains (g.K.Sink.output l.fn.out) (g.K.Sink.output l.out)
    (flat_map (λ r. line_text (relation_line l.presentation.presentation r)) (take l.at l.presentation.presentation.relations))
