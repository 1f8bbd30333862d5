use Rattle.ve_theory.proofs.Orders.{has_bounds}
use Rattle.ve_theory.proofs.order.reaches_are_bounded.Goals as goal

pub returns : goal.returns
returns c = has_bounds
