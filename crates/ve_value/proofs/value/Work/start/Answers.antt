use Rattle.ve_value.specs.Evaluation.{none}
use Rattle.ve_value.proofs.WorkSteps.{blank_pending}
use Rattle.ve_value.proofs.value.Work.start.Goals as goal

pub returns : goal.returns
returns c = λ P signed. rw (c.wanted.ensures) (record { outer = rw c.new.ensures.items none; inner = blank_pending P _ c.nothing.ensures; reading = tt })
