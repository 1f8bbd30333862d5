use Rattle.std.proofs.Common.{get_or}
use Rattle.std.proofs.lemmas.Option.{slice_get-get_or}
use Rattle.ve_machine.proofs.Forwardings.{positive_prime}
use Rattle.ve_pack.proofs.Dropping.{live_packed}
use Rattle.ve_pack.proofs.Steps.{resolved_further, row_stays_live, still_live}
use Rattle.ve_pack.proofs.resolving.resolve_all.Goals as goal

pub returns-in_default-clause-live : goal.returns-in_default-clause-live
returns-in_default-clause-live c = record {
  origins = c.stays_finished.ensures.prefixes c.args.table.now c.requires;
  rows = λ b x v live found k d lt. live_packed c.args.table.now c.requires.sound c.in_default.ensures.none (get_or v k d).0 ((c.requires.sound.rows b x v found).stands.row.1 k d lt);
  images = λ i e within k d lt.
      live_packed c.args.table.now c.requires.sound c.in_default.ensures.none (get_or (get_or c.args.table.now.images i e) k d).0
      ((c.requires.sound.images i (get_or c.args.table.now.images i e) (slice_get-get_or c.args.table.now.images i e within)).stands.row.1 k d lt);
}

pub returns-in_err-resolve_images-clause-resolved : goal.returns-in_err-resolve_images-clause-resolved
returns-in_err-resolve_images-clause-resolved c =
    resolved_further c.args.table.now c.resolve_rows.new.table c.resolve_images.new.table c.forwardings_are_a_space.ensures (positive_prime c.args.table.now c.requires.sound)
    c.resolve_rows.ensures.resolved c.resolve_images.ensures.resolved

pub returns-clause-resolved : goal.returns-clause-resolved
returns-clause-resolved c =
    resolved_further c.args.table.now c.resolve_rows.new.table c.resolve_images.new.table c.forwardings_are_a_space.ensures (positive_prime c.args.table.now c.requires.sound)
    c.resolve_rows.ensures.resolved c.resolve_images.ensures.resolved

pub returns-clause-live : goal.returns-clause-live
returns-clause-live c = record {
  origins = c.stays_finished.ensures.prefixes c.resolve_images.new.table c.resolve_images.ensures.finished;
  rows = λ b x v live found.
      let before = still_live c.resolve_rows.new.table c.resolve_images.new.table c.resolve_rows.ensures.finished.sound c.resolve_images.ensures.finished.sound c.resolve_images.ensures.resolved b live in
      row_stays_live c.resolve_rows.new.table c.resolve_images.new.table c.resolve_rows.ensures.finished.sound c.resolve_images.ensures.finished.sound c.resolve_images.ensures.resolved
      b x before (c.in_ok-resolve_rows.ensures.live b x before) v found;
  images = λ i e within.
      c.in_ok-resolve_images.ensures.live i (get_or c.resolve_images.new.table.images i e) (slice_get-get_or c.resolve_images.new.table.images i e within);
}
