use Rattle.ve_theory.proofs.Orders.{is_total_order}
use Rattle.ve_theory.proofs.order.words_are_ordered.Goals as goal

pub returns : goal.returns
returns c = is_total_order
