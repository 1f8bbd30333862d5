use Rattle.ve_settle.proofs.Order.{words_rise_with_ids}
use Rattle.ve_settle.proofs.ids.words_rise_with_ids.Goals as goal

pub returns : goal.returns
returns c = words_rise_with_ids c.words_are_ordered.ensures
