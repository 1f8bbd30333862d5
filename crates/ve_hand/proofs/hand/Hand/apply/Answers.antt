use Rattle.std.proofs.Common.{subst}
use Rattle.ve_hand.specs.Outcomes.{AppliesHand}
use Rattle.ve_hand.specs.Views.{stage_of}
use Rattle.ve_hand.proofs.GoingOn.{applied_hand_fits, apply_told}
use Rattle.ve_hand.proofs.hand.Hand.apply.Goals as goal

pub returns-clause-able : goal.returns-clause-able
returns-clause-able c =
    apply_told c.args.field.now c.args.self.now (stage_of c.apply.new.self) c.in_ok-had.had
    (subst (λ hand. AppliesHand c.args.field.now hand c.in_ok-had.had (stage_of c.apply.new.self)) c.self.view_is c.in_ok-had.ensures.ok)

pub returns-clause-fits : goal.returns-clause-fits
returns-clause-fits c =
    applied_hand_fits c.args.field.now c.args.self.now (stage_of c.apply.new.self) c.in_ok-had.had c.has_prime.ensures.above_one c.requires
    (subst (λ hand. AppliesHand c.args.field.now hand c.in_ok-had.had (stage_of c.apply.new.self)) c.self.view_is c.in_ok-had.ensures.ok)
