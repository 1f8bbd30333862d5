use Rattle.ve_machine.proofs.ResolvedVectors.{resolved_vector}
use Rattle.ve_settle.proofs.resolution.resolutions_keep_words.Goals as goal

pub returns : goal.returns
returns c = λ T word v w sound. resolved_vector T sound word v w
