use Rattle.ve_pres.specs.Terms.{HasLettersBelow, HasWordsBelow}
use Rattle.ve_level_uses.proofs.TripleAnswers.{letter_below, root_below}
use Rattle.ve_level_uses.proofs.tests.three_cycle.relation.Goals as goal

pub returns-clause-words : goal.returns-clause-words
returns-clause-words c =
    let letter : HasLettersBelow 2 c.in_ok-letter.letter = letter_below c.in_ok-letter.letter c.in_ok-letter.ensures.letter in
    let root : HasWordsBelow 1 2 c.in_ok-root.root = root_below c.in_ok-root.root c.in_ok-root.ensures.root in
    let one : HasWordsBelow 1 2 c.in_ok-one.one = c.in_ok-one.ensures.words 1 2 root letter in
    let two : HasWordsBelow 1 2 c.in_ok-two.two = c.in_ok-two.ensures.words 1 2 one letter in
    c.in_ok-difference.ensures.words 1 2 (c.in_ok-three.ensures.words 1 2 two letter) (c.in_ok-minus.ensures.words 1 2 root)
