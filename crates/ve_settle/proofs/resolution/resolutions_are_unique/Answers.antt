use Rattle.ve_settle.proofs.UniqueResolutions.{resolutions_are_unique}
use Rattle.ve_settle.proofs.resolution.resolutions_are_unique.Goals as goal

pub returns : goal.returns
returns c = resolutions_are_unique
