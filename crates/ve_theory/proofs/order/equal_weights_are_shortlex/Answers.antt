use Rattle.ve_theory.proofs.FiniteOrders.{equal_weights_are_shortlex}
use Rattle.ve_theory.proofs.order.equal_weights_are_shortlex.Goals as goal

pub returns : goal.returns
returns c = equal_weights_are_shortlex
