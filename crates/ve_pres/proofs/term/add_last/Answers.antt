use Rattle.std.proofs.Common.{arith}
use Rattle.ve_pres.proofs.GatheringSteps.{gathers_nothing, gathers_pushed}
use Rattle.ve_pres.proofs.term.add_last.Goals as goal

pub returns-in_ok-push-clause-sum : goal.returns-in_ok-push-clause-sum
returns-in_ok-push-clause-sum c = gathers_pushed _ _ _ _ c.args.term _ c.sum_with_last-coef.ensures.ready (omega arith) c.in_ok-push.ensures.items

pub returns-else-coef-ne0-clause-sum : goal.returns-else-coef-ne0-clause-sum
returns-else-coef-ne0-clause-sum c = gathers_nothing _ _ _ _ _ c.sum_with_last-coef.ensures.ready c.if-coef-ne0.false
