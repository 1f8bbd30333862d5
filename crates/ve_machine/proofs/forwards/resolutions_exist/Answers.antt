use Rattle.ve_machine.proofs.forwards.resolutions_exist.Goals as goal
use Rattle.ve_machine.proofs.Resolutions.{resolution}

pub returns : goal.returns
returns c = λ T v sound known. resolution T sound v known
