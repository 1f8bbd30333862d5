use Rattle.ve_theory.proofs.FiniteOrders.{finitely_many_before}
use Rattle.ve_theory.proofs.order.finitely_many_before.Goals as goal

pub returns : goal.returns
returns c = finitely_many_before
