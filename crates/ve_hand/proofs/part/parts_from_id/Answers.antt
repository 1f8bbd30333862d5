use Rattle.std.proofs.Common.{◌<◌, [], length, map, ap, ◌∙◌, arith}
use Rattle.ve_hand.specs.Parts.{part_at_id, part_of}
use Rattle.ve_hand.proofs.PartLists.{id_part, part_more}
use Rattle.ve_hand.proofs.part.parts_from_id.Goals as goal

pub loop-at-preserved : goal.loop-at-preserved
loop-at-preserved c =
    let within : c.loop-at.at < length c.args.relator.now = omega (arith, c.loop-at-test.true, c.term_count-at-end.ensures.count) in
    ap (map part_of) c.in_ok-push_back.ensures.items
    ∙ part_more (part_at_id c.args.id) c.args.relator.now c.loop-at.parts.items _ c.loop-at.at ([], 0) within
    (id_part c.args.id _ _ _ (c.in_ok-queue_of.ensures ∙ c.deref.ensures.value ∙ c.word_at.ensures.word) c.coef_at.ensures) c.loop-at.invariant
