use Rattle.std.proofs.Common.{◌≡◌, Some, ap, ◌∙◌, get_or}
use Rattle.std.specs.Prelude.{slice_get}
use Rattle.std.proofs.lemmas.Option.{slice_get-get_or}
use Rattle.ve_table.specs.declared.origin.Origin.TheVariants.{Root, Child}
use Rattle.ve_out.proofs.Climbing.{climbed_nothing, climbed_letter, climbed_all}
use Rattle.ve_out.proofs.basis.climb.Goals as goal

pub loop-at-init : goal.loop-at-init
loop-at-init c = climbed_nothing c.args.basis.now c.args.place c.args.letters.now.items c.requires.place c.requires.letters

pub returns-in-Root : goal.returns-in-Root
returns-in-Root c =
    let found = slice_get-get_or c.args.basis.now c.loop-at.at (Root 0) c.loop-at.invariant.inside ∙ ap Some c.in-Root.is in
    climbed_all c.args.basis.now c.args.place c.loop-at.at c.in-Root.root c.loop-at.letters.items c.loop-at.invariant found

pub loop-at-smaller : goal.loop-at-smaller
loop-at-smaller c =
    let found = slice_get-get_or c.args.basis.now c.loop-at.at (Root 0) c.loop-at.invariant.inside ∙ ap Some c.in-Child.is in
    (climbed_letter c.args.basis.now c.args.place c.loop-at.at c.in-Child.parent c.in-Child.letter c.loop-at.letters.items _ c.requires.origins c.loop-at.invariant found c.in_ok-push-in-Child.ensures.items).0

pub loop-at-preserved : goal.loop-at-preserved
loop-at-preserved c =
    let found = slice_get-get_or c.args.basis.now c.loop-at.at (Root 0) c.loop-at.invariant.inside ∙ ap Some c.in-Child.is in
    (climbed_letter c.args.basis.now c.args.place c.loop-at.at c.in-Child.parent c.in-Child.letter c.loop-at.letters.items _ c.requires.origins c.loop-at.invariant found c.in_ok-push-in-Child.ensures.items).1
