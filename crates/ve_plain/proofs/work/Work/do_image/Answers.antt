use Rattle.ve_plain.proofs.Known.{image_known}
use Rattle.ve_plain.proofs.work.Work.do_image.Goals as goal

pub returns-clause-done : goal.returns-clause-done
returns-clause-done c = λ O at_work.
    image_known c.tracing_is_known.ensures O c.args.self.now c.impose.new.self c.in_ok-image.image at_work c.in_ok-impose.ensures.ok c.args.id c.args.letter
    c.is_sound.ensures c.requires.dead c.requires.row c.in_ok-image.ensures.difference.alike
