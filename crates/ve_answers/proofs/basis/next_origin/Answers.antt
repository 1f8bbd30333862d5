use Rattle.std.proofs.Common.{◌≡◌, ◌++◌}
use Rattle.std.specs.Prelude.{codes}
use Rattle.std.proofs.lemmas.Bool.{both_ways}
use Rattle.std.proofs.lemmas.Bool.Decides.{Decides-eqb}
use Rattle.std.proofs.lemmas.Slice.Eq.{strip_prefix_is}
use Rattle.ve_answers.proofs.NextWords.{StarsSplitOnce, old_word}
use Rattle.ve_answers.proofs.basis.next_origin.Goals as goal

pub returns-then-not-branch : goal.returns-then-not-branch
returns-then-not-branch c words are written w h =
    let law : StarsSplitOnce = record { stars = c.texts_split_once.ensures.stars; names = c.texts_split_once.ensures.names; numbers = c.texts_split_once.ensures.numbers; words = c.texts_split_once.ensures.words } in
    let stripped = strip_prefix_is Decides-eqb c.args.line.now (codes "basis ") c.strip_prefix.result c.strip_prefix.ensures.cases in
    let line : c.args.line.now ≡ codes "basis " ++ c.in-Some.text.now = rw c.in-Some.is at stripped in
    old_word c.args.head.now law c.requires.head words c.args.texts.now are c.args.line.now c.in-Some.text.now line written
    (λ fresh. both_ways c.in_ok-add.field-0 c.if-not-branch.true (c.in_ok-add.ensures.new.1 fresh)) w h
