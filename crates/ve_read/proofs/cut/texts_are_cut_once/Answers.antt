use Rattle.ve_read.proofs.SingleCuts.{split_once}
use Rattle.ve_read.proofs.cut.texts_are_cut_once.Goals as goal

pub returns : goal.returns
returns c = split_once
