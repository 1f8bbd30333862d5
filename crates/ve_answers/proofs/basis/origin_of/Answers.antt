use Rattle.ve_answers.proofs.NextWords.{StarsSplitOnce, no_root, next_root, no_child, next_child}
use Rattle.ve_answers.proofs.TextEnds.{option_weaker}
use Rattle.ve_answers.proofs.basis.origin_of.Goals as goal

pub returns-in-Some : goal.returns-in-Some
returns-in-Some c words are =
    let law : StarsSplitOnce = record { stars = c.texts_split_once.ensures.stars; names = c.texts_split_once.ensures.names; numbers = c.texts_split_once.ensures.numbers; words = c.texts_split_once.ensures.words } in
    let split = c.in-Some.ensures in
    option_weaker c.child_of.result
    (no_child c.args.head.now law c.requires.head words c.args.texts.now are c.args.text.now c.in-Some.parent.now c.in-Some.name.now split.0 split.1)
    (λ origin some. next_child c.args.head.now law c.requires.head words c.args.texts.now are c.args.text.now c.in-Some.parent.now c.in-Some.name.now split.0 origin some)
    c.child_of.ensures

pub returns-in-None : goal.returns-in-None
returns-in-None c words are =
    let law : StarsSplitOnce = record { stars = c.texts_split_once.ensures.stars; names = c.texts_split_once.ensures.names; numbers = c.texts_split_once.ensures.numbers; words = c.texts_split_once.ensures.words } in
    option_weaker c.root_of.result
    (no_root c.args.head.now law c.requires.head words c.args.text.now c.in-None.ensures)
    (next_root c.args.head.now law c.requires.head words c.args.text.now)
    c.root_of.ensures
