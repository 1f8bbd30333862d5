use Rattle.ve_trace.proofs.FoundProducts.{found_products}
use Rattle.ve_trace.proofs.laws.products_are_found.Goals as goal

pub returns : goal.returns
returns c = found_products c.reach_adds_up.ensures c.words_are_ordered.ensures
