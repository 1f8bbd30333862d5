use Rattle.std.proofs.Common.{subst}
use Rattle.ve_hand.specs.Outcomes.{RepairsHand}
use Rattle.ve_hand.specs.Views.{stage_of}
use Rattle.ve_hand.proofs.GoingOn.{repair_told}
use Rattle.ve_hand.proofs.hand.Hand.repair.Goals as goal

pub returns-clause-able : goal.returns-clause-able
returns-clause-able c =
    repair_told c.args.field.now c.args.self.now (stage_of c.repair.new.self) c.in_ok-had.had
    (subst (λ hand. RepairsHand c.args.field.now hand c.in_ok-had.had (stage_of c.repair.new.self)) c.self.view_is c.in_ok-had.ensures.ok)
