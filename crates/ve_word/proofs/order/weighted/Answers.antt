use Rattle.std.proofs.Common.{◌≡◌, arith}
use Rattle.ve_theory.specs.Words.{word_weight}
use Rattle.ve_word.proofs.Ranks.{equal-ranked}
use Rattle.ve_word.proofs.Weights.{same_weight-ends}
use Rattle.ve_word.proofs.order.weighted.Goals as goal

pub returns-in-Equal-clause-equal : goal.returns-in-Equal-clause-equal
returns-in-Equal-clause-equal c positive =
    let same : word_weight c.args.weights.now.items c.args.a.now ≡ word_weight c.args.weights.now.items c.args.b.now = grind arith in
    equal-ranked
    _
    _
    _
    c.by_spelling.ensures.less
    c.by_spelling.ensures.greater
    (same_weight-ends _ positive _ _ same)
