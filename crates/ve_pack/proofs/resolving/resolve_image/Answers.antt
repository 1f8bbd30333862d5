use Rattle.std.proofs.Common.{◌≡◌, Some, sym, subst, ◌∙◌}
use Rattle.ve_theory.specs.Words.{generator}
use Rattle.ve_table.specs.Tables.{ActionTable}
use Rattle.ve_table.specs.Sound.{IsSound, HasLiveIds}
use Rattle.ve_machine.specs.Finished.{IsFinishedTable}
use Rattle.ve_pack.specs.Packing.{IsPartlyResolved}
use Rattle.ve_pack.specs.LiveVectors.{HasLiveImage}
use Rattle.ve_pack.proofs.Steps.{image_resolved, image_set_here}
use Rattle.ve_pack.proofs.resolving.resolve_image.Goals as goal

pub has_live_ids-requires-clause-ids : goal.has_live_ids-requires-clause-ids
has_live_ids-requires-clause-ids c = (c.requires.finished.sound.images c.args.root c.image-image.result.now c.image-image.ensures).stands.row.1

pub resolve-requires : goal.resolve-requires
resolve-requires c = (c.requires.finished.sound.images c.args.root c.image-image.result.now c.image-image.ensures).stands.row

pub set_image-requires-clause-image : goal.set_image-requires-clause-image
set_image-requires-clause-image c =
    let T : ActionTable = c.args.table.now in
    let sound = c.requires.finished.sound in
    c.resolutions_keep_words.ensures T (generator c.args.root) c.image-image.result.now c.in_ok-resolved.resolved sound
    (sound.images c.args.root c.image-image.result.now c.image-image.ensures) c.in_ok-resolved.ensures.resolved

pub returns-clause-finished : goal.returns-clause-finished
returns-clause-finished c =
    subst IsFinishedTable (sym c.set_image.ensures.image)
    (c.stays_finished.ensures.images c.args.table.now c.args.root c.image-image.result.now c.in_ok-resolved.resolved c.requires.finished c.image-image.ensures
    c.in_ok-resolved.ensures.resolved (subst IsSound c.set_image.ensures.image c.set_image.ensures.sound))

pub returns-clause-resolved : goal.returns-clause-resolved
returns-clause-resolved c =
    subst (IsPartlyResolved c.args.table.now) (sym c.set_image.ensures.image)
    (image_resolved c.args.table.now c.args.root c.image-image.result.now c.in_ok-resolved.resolved c.image-image.ensures c.in_ok-resolved.ensures.resolved)

pub returns-clause-live : goal.returns-clause-live
returns-clause-live c =
    subst (λ N. HasLiveImage N c.args.root) (sym c.set_image.ensures.image)
    (λ v there.
    let same : c.in_ok-resolved.resolved ≡ v =
    let e : Some c.in_ok-resolved.resolved ≡ Some v = sym (image_set_here c.args.table.now c.args.root c.image-image.result.now c.in_ok-resolved.resolved c.image-image.ensures) ∙ there in cc in
    subst (HasLiveIds c.args.table.now) same c.in_ok-resolved.ensures.resolved.live)
