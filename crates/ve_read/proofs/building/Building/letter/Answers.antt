use Rattle.ve_formats.specs.PresentationLines.{letter}
use Rattle.ve_read.specs.Forms.{declared_of}
use Rattle.ve_read.specs.Drafts.{built_of}
use Rattle.ve_read.proofs.building.Building.letter.Goals as goal

pub returns : goal.returns
returns c = c.after.ensures (built_of c.args.self) (letter (declared_of c.args.letter)) c.declare_letter-done.ensures
