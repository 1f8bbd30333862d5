use Rattle.std.proofs.Common.{◌<◌, length, map, ap, ◌∙◌, arith}
use Rattle.ve_theory.specs.Words.{generator}
use Rattle.ve_hand.specs.Parts.{part_of, part_of_image}
use Rattle.ve_hand.proofs.PartLists.{image_part, part_more}
use Rattle.ve_hand.proofs.part.parts_from_images.Goals as goal

pub loop-at-preserved : goal.loop-at-preserved
loop-at-preserved c =
    let within : c.loop-at.at < length c.args.relation.now = omega (arith, c.loop-at-test.true, c.term_count-at-end.ensures.count) in
    ap (map part_of) c.in_ok-push_back.ensures.items
    ∙ part_more part_of_image c.args.relation.now c.loop-at.parts.items _ c.loop-at.at (generator 0, 0) within
    (image_part _ _ _ c.word_at-word.result.now _ c.root_of.ensures.root (c.in_ok-queue_of.ensures ∙ c.deref.ensures.value ∙ c.spelling.ensures) c.word_at-word.ensures.word c.coef_at.ensures) c.loop-at.invariant
