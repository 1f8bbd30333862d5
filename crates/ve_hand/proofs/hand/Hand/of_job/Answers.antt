use Rattle.std.proofs.Common.{ap₂, subst, sym, ◌∙◌}
use Rattle.ve_table.specs.Tables.{presented}
use Rattle.ve_machine.specs.Hands.{next_hand}
use Rattle.ve_hand.specs.Fits.{FitsHand}
use Rattle.ve_hand.specs.Jobs.{job_of}
use Rattle.ve_hand.proofs.Fitting.{job_hand_fits}
use Rattle.ve_hand.proofs.hand.Hand.of_job.Goals as goal

pub returns-clause-fits : goal.returns-clause-fits
returns-clause-fits c =
    subst (FitsHand (presented c.args.table.now).prime) (sym (c.next_stage-stage.ensures ∙ ap₂ next_hand c.zero.ensures.value c.in_ok-parts.ensures))
    (job_hand_fits c.args.table.now (job_of c.args.job) c.is_sound.ensures c.requires)
