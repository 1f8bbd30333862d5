use Rattle.std.proofs.Common.{arith}
use Rattle.std.proofs.lemmas.Grind.{common_steps}
use Rattle.ve_word.proofs.Weights.{word_weight-sum}
use Rattle.ve_word.proofs.order.weight.Goals as goal

pub returns : goal.returns
returns c = grind (arith, common_steps, word_weight-sum)
