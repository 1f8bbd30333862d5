use Rattle.ve_formats.specs.PresentationLines.{relation}
use Rattle.ve_read.specs.Drafts.{built_of}
use Rattle.ve_read.proofs.building.Building.relation.Goals as goal

pub returns : goal.returns
returns c = λ d e left right. c.after.ensures (built_of c.args.self) (relation d e) (c.keep_relation-done.ensures d e left right)
