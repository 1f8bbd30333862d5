use Rattle.ve_words.proofs.Once.{words_mean_once}
use Rattle.ve_words.proofs.laws.words_mean_once.Goals as goal

pub returns : goal.returns
returns c = words_mean_once
