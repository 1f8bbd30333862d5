use Rattle.ve_formats.specs.PresentationLines.{involution}
use Rattle.ve_read.specs.Forms.{declared_of}
use Rattle.ve_read.specs.Drafts.{built_of}
use Rattle.ve_read.proofs.building.Building.involution.Goals as goal

pub returns : goal.returns
returns c = c.after.ensures (built_of c.args.self) (involution (declared_of c.args.letter)) c.declare_involution-done.ensures
