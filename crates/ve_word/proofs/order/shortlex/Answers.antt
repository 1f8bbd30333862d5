use Rattle.std.proofs.Common.{◌≡◌, arith}
use Rattle.ve_theory.specs.Words.{letters, word_length}
use Rattle.ve_word.proofs.Ranks.{equal-ranked, same_length-ends}
use Rattle.ve_word.proofs.order.shortlex.Goals as goal

pub returns-in-Equal-clause-equal : goal.returns-in-Equal-clause-equal
returns-in-Equal-clause-equal c =
    let same : word_length c.args.a.now ≡ word_length c.args.b.now = grind arith in
    equal-ranked
    _
    _
    _
    c.by_spelling.ensures.less
    c.by_spelling.ensures.greater
    (λ t. same_length-ends (letters c.args.a.now) (letters c.args.b.now) t same)
