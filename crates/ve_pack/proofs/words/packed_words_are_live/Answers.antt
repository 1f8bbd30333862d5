use Rattle.ve_pack.proofs.Dropping.{words_packed}
use Rattle.ve_pack.proofs.words.packed_words_are_live.Goals as goal

pub returns : goal.returns
returns c = words_packed
