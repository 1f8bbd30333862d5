use Rattle.std.proofs.Common.{◌<◌, ◌≤◌, ◌∙◌, [], length, arith}
use Rattle.ve_formats.specs.CanonicalText.{relation_line}
use Rattle.ve_port.specs.Writing.{Writes-stopped, Writes-gained}
use Rattle.ve_port.proofs.ItemLines.{Gains-line, Gains-each, Stops-each}
use Rattle.ve_show.proofs.RelationLines.{relator-relation, length-relators}
use Rattle.ve_show.proofs.text.show_relations.Goals as goal

pub loop-at-preserved : goal.loop-at-preserved
loop-at-preserved g c =
    let inside : c.loop-at.at < length c.args.presentation.now.presentation.relations = omega (arith, length-relators c.args.presentation.now.presentation) in
    Gains-line (relation_line c.args.presentation.now.presentation) c.args.presentation.now.presentation.relations c.loop-at.at _ [] inside (c.relator.ensures ∙ relator-relation c.args.presentation.now.presentation c.letter_relators-first.result c.loop-at.at c.letter_relators-first.ensures) c.loop-at.invariant c.in_ok-show_relation.ensures.gained

pub returns-in_err-show_relation : goal.returns-in_err-show_relation
returns-in_err-show_relation g c =
    let inside : c.loop-at.at < length c.args.presentation.now.presentation.relations = omega (arith, length-relators c.args.presentation.now.presentation) in
    Writes-stopped c.from_residual.ensures.1
    (Stops-each (relation_line c.args.presentation.now.presentation) c.args.presentation.now.presentation.relations c.loop-at.at _ [] inside (c.relator.ensures ∙ relator-relation c.args.presentation.now.presentation c.letter_relators-first.result c.loop-at.at c.letter_relators-first.ensures) c.loop-at.invariant c.in_err-show_relation.ensures.stopped)

pub returns : goal.returns
returns g c =
    let outside : length c.args.presentation.now.presentation.relations ≤ c.loop-at.at = omega (arith, length-relators c.args.presentation.now.presentation) in
    Writes-gained _ (Gains-each (relation_line c.args.presentation.now.presentation) c.args.presentation.now.presentation.relations c.loop-at.at outside c.loop-at.invariant)
