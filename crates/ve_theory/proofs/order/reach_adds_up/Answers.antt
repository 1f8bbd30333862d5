use Rattle.ve_theory.proofs.Orders.{reach-generator, reach-times}
use Rattle.ve_theory.proofs.order.reach_adds_up.Goals as goal

pub returns : goal.returns
returns c = λ P. (reach-generator P, reach-times P)
