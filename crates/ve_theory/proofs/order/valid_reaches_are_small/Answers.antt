use Rattle.ve_theory.proofs.ValidBounds.{valid_reaches_are_small}
use Rattle.ve_theory.proofs.order.valid_reaches_are_small.Goals as goal

pub returns : goal.returns
returns c = valid_reaches_are_small
