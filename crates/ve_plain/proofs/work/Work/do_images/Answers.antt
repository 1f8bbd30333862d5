use Rattle.std.proofs.Common.{◌+◌, subst, sym}
use Rattle.ve_plain.specs.Works.{Lasts}
use Rattle.ve_plain.proofs.Going.{Continues-refl, Continues-trans}
use Rattle.ve_plain.proofs.Working.{Lasts-refl, Lasts-trans}
use Rattle.ve_plain.proofs.Settling.{HasImagesBelow, no_product, one_more_letter}
use Rattle.ve_plain.proofs.work.Work.do_images.Goals as goal
use Rattle.ve_plain.proofs.work.Work.do_images.Goals.{then-has_row+in_ok-do_image, else-has_row}

pub returns-in_err-do_image-clause-continues : goal.returns-in_err-do_image-clause-continues
returns-in_err-do_image-clause-continues c = Continues-trans _ _ _ c.loop-letter.invariant.lasts.continues c.do_image.ensures.continues

pub loop-letter-preserved : goal.loop-letter-preserved
loop-letter-preserved c =
    let old = c.args.self.now in
    let now = c.loop-letter.self in
    let so_far = c.loop-letter.invariant in
    elim c.if-has_row.branch [
      | then-has_row+in_ok-do_image w ↦ record {
        lasts = subst (Lasts old) (sym w.self-is) (Lasts-trans old now w.do_image.new.self so_far.lasts w.in_ok-do_image.ensures.lasts);
        done = subst (λ work. HasImagesBelow old work c.args.id (c.loop-letter.letter + 1)) (sym w.self-is)
            (one_more_letter old now w.do_image.new.self c.args.id c.loop-letter.letter c.requires so_far.lasts w.in_ok-do_image.ensures.lasts so_far.done
            (λ O at_work is_due. w.in_ok-do_image.ensures.done O at_work));
      }
      | else-has_row w ↦ record {
        lasts = subst (Lasts old) (sym w.self-is) so_far.lasts;
        done = subst (λ work. HasImagesBelow old work c.args.id (c.loop-letter.letter + 1)) (sym w.self-is)
            (one_more_letter old now now c.args.id c.loop-letter.letter c.requires so_far.lasts (Lasts-refl now (Continues-refl now.table so_far.lasts.continues.sound)) so_far.done
            (λ O at_work is_due. absurd (let bad = w.if-has_row.ensures.due.1 (no_product O now.table c.args.id c.loop-letter.letter at_work is_due) in cc)));
      }
    ]
