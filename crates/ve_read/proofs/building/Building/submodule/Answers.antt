use Rattle.ve_formats.specs.PresentationLines.{submodule}
use Rattle.ve_read.specs.Drafts.{built_of}
use Rattle.ve_read.proofs.building.Building.submodule.Goals as goal

pub returns : goal.returns
returns c = λ d e left right. c.after.ensures (built_of c.args.self) (submodule d e) (c.keep_submodule-done.ensures d e left right)
