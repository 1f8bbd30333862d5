use Rattle.std.proofs.Common.{◌∙◌}
use Rattle.ve_read.proofs.SameWords.{same_letters-pointwise}
use Rattle.ve_read.proofs.keyword.is_word.Goals as goal

pub returns : goal.returns
returns c = c.eq.ensures ∙ same_letters-pointwise c.args.name.now c.args.word.now
