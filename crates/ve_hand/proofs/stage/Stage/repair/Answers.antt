use Rattle.std.proofs.Common.{sym, subst}
use Rattle.std.proofs.lemmas.Result.{IfOk-weaker}
use Rattle.ve_machine.specs.Hands.{summed_hand}
use Rattle.ve_hand.specs.Outcomes.{RepairsHand}
use Rattle.ve_hand.specs.Views.{reading_of, stage_of}
use Rattle.ve_hand.proofs.GoingOn.{sum_repaired}
use Rattle.ve_hand.proofs.stage.Stage.repair.Goals as goal

pub returns-in-Summed-clause-ok : goal.returns-in-Summed-clause-ok
returns-in-Summed-clause-ok c =
    IfOk-weaker c.repair-in-Summed.result _ _
    (λ had repairs.
    subst (λ stage. RepairsHand c.args.field.now (stage_of stage) had (summed_hand c.repair-in-Summed.new.self.vector (reading_of c.repair-in-Summed.new.self))) (sym c.in-Summed.is)
    (sum_repaired c.args.field.now c.in-Summed.vector c.repair-in-Summed.new.self had repairs))
    c.repair-in-Summed.ensures.ok
