use Rattle.ve_formats.specs.PresentationLines.{pair}
use Rattle.ve_read.specs.Forms.{declared_of}
use Rattle.ve_read.specs.Drafts.{built_of}
use Rattle.ve_read.proofs.building.Building.pair.Goals as goal

pub returns : goal.returns
returns c = c.after.ensures (built_of c.args.self) (pair (declared_of c.args.letter) (declared_of c.args.inverse)) c.declare_pair-done.ensures
