use Rattle.std.proofs.Common.{◌<◌, ◌≤◌, [], length, arith}
use Rattle.ve_formats.specs.CanonicalText.{submodule_line}
use Rattle.ve_port.specs.Writing.{Writes-stopped, Writes-gained}
use Rattle.ve_port.proofs.ItemLines.{Gains-line, Gains-each, Stops-each}
use Rattle.ve_show.proofs.text.show_submodule.Goals as goal

pub loop-at-preserved : goal.loop-at-preserved
loop-at-preserved g c =
    let inside : c.loop-at.at < length c.args.presentation.now.presentation.submodule = omega arith in
    Gains-line (submodule_line c.args.presentation.now.presentation) c.args.presentation.now.presentation.submodule c.loop-at.at _ [] inside (c.sub.ensures) c.loop-at.invariant c.in_ok-show_submodule_relation.ensures.gained

pub returns-in_err-show_submodule_relation : goal.returns-in_err-show_submodule_relation
returns-in_err-show_submodule_relation g c =
    let inside : c.loop-at.at < length c.args.presentation.now.presentation.submodule = omega arith in
    Writes-stopped c.from_residual.ensures.1
    (Stops-each (submodule_line c.args.presentation.now.presentation) c.args.presentation.now.presentation.submodule c.loop-at.at _ [] inside (c.sub.ensures) c.loop-at.invariant c.in_err-show_submodule_relation.ensures.stopped)

pub returns : goal.returns
returns g c =
    let outside : length c.args.presentation.now.presentation.submodule ≤ c.loop-at.at = omega arith in
    Writes-gained _ (Gains-each (submodule_line c.args.presentation.now.presentation) c.args.presentation.now.presentation.submodule c.loop-at.at outside c.loop-at.invariant)
