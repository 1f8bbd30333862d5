use Rattle.std.proofs.Common.{ap, arith, below_more}
use Rattle.std.proofs.lemmas.Option.{slice_get_within}
use Rattle.ve_pres.specs.Drafts.{Draft}
use Rattle.ve_pack.specs.LiveVectors.{HasLiveImage}
use Rattle.ve_machine.proofs.Forwardings.{positive_prime}
use Rattle.ve_pack.proofs.Steps.{resolved_further, image_stays_live}
use Rattle.ve_pack.proofs.resolving.resolve_images.Goals as goal

pub returns-in_err-resolve_image-clause-resolved : goal.returns-in_err-resolve_image-clause-resolved
returns-in_err-resolve_image-clause-resolved c =
    resolved_further c.args.table.now c.loop-root.table c.resolve_image.new.table c.forwardings_are_a_space.ensures (positive_prime c.args.table.now c.requires.finished.sound)
    c.loop-root.invariant.resolved c.resolve_image.ensures.resolved

pub loop-root-preserved : goal.loop-root-preserved
loop-root-preserved c = record {
  finished = c.resolve_image.ensures.finished;
  resolved = resolved_further c.args.table.now c.loop-root.table c.resolve_image.new.table c.forwardings_are_a_space.ensures (positive_prime c.args.table.now c.requires.finished.sound)
      c.loop-root.invariant.resolved c.resolve_image.ensures.resolved;
  live = below_more (HasLiveImage c.resolve_image.new.table) c.loop-root.root
      (λ i less. image_stays_live c.loop-root.table c.resolve_image.new.table c.loop-root.invariant.finished.sound c.resolve_image.ensures.finished.sound c.resolve_image.ensures.resolved i (c.loop-root.invariant.live i less))
      c.in_ok-resolve_image.ensures.live;
}

pub returns-clause-live : goal.returns-clause-live
returns-clause-live c i v found =
    c.loop-root.invariant.live i
    (omega (arith, slice_get_within c.loop-root.table.images i v found, c.loop-root.invariant.finished.sound.one_image_each, ap (λ (d : Draft). d.presentation.generators) c.loop-root.invariant.resolved.draft, ap (λ (d : Draft). d.presentation.generators) c.presentation.ensures.value))
    v found
