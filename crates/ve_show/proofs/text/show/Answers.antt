use Rattle.ve_port.specs.Sink.{Gains-append}
use Rattle.ve_port.specs.Writing.{Writes-stopped, Writes-after, Stops-longer, Stops-after}
use Rattle.ve_show.proofs.Whole.{Writes-parts}
use Rattle.ve_show.proofs.text.show.Goals as goal

pub returns-in_err-show_declarations : goal.returns-in_err-show_declarations
returns-in_err-show_declarations g c =
    Writes-parts _ (Writes-stopped c.from_residual.ensures.1 (Stops-longer (Stops-longer (Stops-longer c.in_err-show_declarations.ensures.stopped _) _) _))

pub returns-in_err-show_relations : goal.returns-in_err-show_relations
returns-in_err-show_relations g c =
    Writes-parts _
    (Writes-stopped c.from_residual-in_err-show_relations.ensures.1
    (Stops-longer (Stops-longer (Stops-after c.in_ok-show_declarations.ensures.gained c.in_err-show_relations.ensures.stopped) _) _))

pub returns-in_err-show_submodule : goal.returns-in_err-show_submodule
returns-in_err-show_submodule g c =
    Writes-parts _
    (Writes-stopped c.from_residual-in_err-show_submodule.ensures.1
    (Stops-longer (Stops-after (Gains-append c.in_ok-show_declarations.ensures.gained c.in_ok-show_relations.ensures.gained) c.in_err-show_submodule.ensures.stopped) _))

pub returns : goal.returns
returns g c =
    Writes-parts _
    (Writes-after (Gains-append (Gains-append c.in_ok-show_declarations.ensures.gained c.in_ok-show_relations.ensures.gained) c.in_ok-show_submodule.ensures.gained) c.put.ensures)
