use Rattle.ve_theory.proofs.Orders.{before_times}
use Rattle.ve_theory.proofs.order.letters_keep_order.Goals as goal

pub returns : goal.returns
returns c = before_times
