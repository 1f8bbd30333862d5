use Rattle.std.proofs.Common.{◌≡◌, arith, min}
use Rattle.ve_theory.specs.Words.{IsSmaller, start, word_length}
use Rattle.ve_word.proofs.Ranks.{IsRanked, fronts-ranked, tie-ranked}
use Rattle.ve_word.proofs.order.by_spelling.Goals as goal

ranked :
    (c : goal.After-cmp-in-Equal) →
    IsRanked
    c.cmp-in-Equal.result
    (IsSmaller c.args.a.now c.args.b.now)
    (IsSmaller c.args.b.now c.args.a.now)
ranked c =
    let same : start c.args.a.now ≡ start c.args.b.now = grind arith in
    let shared : c.min-shared.result ≡ min (word_length c.args.a.now) (word_length c.args.b.now) = grind arith in
    tie-ranked _ _ same (fronts-ranked _ _ _ shared c.letters.ensures.value c.letters-in-Equal.ensures.value c.cmp-in-Equal.ensures)

pub returns-in-Equal-clause-less : goal.returns-in-Equal-clause-less
returns-in-Equal-clause-less c = (ranked c).less

pub returns-in-Equal-clause-greater : goal.returns-in-Equal-clause-greater
returns-in-Equal-clause-greater c = (ranked c).greater
