use Rattle.std.proofs.Common.{◌≡◌, ◌<◌, None, length, subst, ◌∙◌, sym}
use Rattle.std.proofs.lemmas.Option.{slice_get_within}
use Rattle.ve_settle.proofs.live.greatest_live_id.Goals as goal

pub loop-id-init : goal.loop-id-init
loop-id-init c =
    let count : length c.args.table.now.forwards ≡ c.id_count-id.result = c.is_sound.ensures.one_forward_each ∙ sym c.id_count-id.ensures in
    λ b live. subst (λ n. b < n) count (slice_get_within c.args.table.now.forwards b None live)
