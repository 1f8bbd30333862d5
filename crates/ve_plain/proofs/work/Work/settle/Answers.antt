use Rattle.std.proofs.Common.{refl}
use Rattle.ve_plain.proofs.Going.{Continues-trans}
use Rattle.ve_plain.proofs.Settling.{settles_more}
use Rattle.ve_plain.proofs.work.Work.settle.Goals as goal

pub returns-in_err-do_images-clause-continues : goal.returns-in_err-do_images-clause-continues
returns-in_err-do_images-clause-continues c = Continues-trans _ _ _ c.loop-id.invariant.continues c.do_images.ensures.continues

pub loop-id-preserved : goal.loop-id-preserved
loop-id-preserved c =
    settles_more c.args.self.now c.loop-id.self (record c.loop-id.self { waiting = c.pop.new.self }) c.do_images.new.self c.in-Some.id c.loop-id.invariant refl c.in-Some.ensures.items
    c.in_ok-do_images.ensures.lasts c.in_ok-do_images.ensures.done
