use Rattle.std.proofs.Common.{length, ◌<◌, sym, inl, ◌∙◌, arith}
use Rattle.std.proofs.lemmas.Bool.{eqb-false}
use Rattle.ve_lex.proofs.FirstLine.{lines_of-feed, lines_of-last, is_cut_at_feed}
use Rattle.ve_lex.proofs.lines.next_line.Goals as goal

pub returns-in-Some-clause-lines : goal.returns-in-Some-clause-lines
returns-in-Some-clause-lines c = lines_of-feed _ _ (sym c.line_feed_in.ensures ∙ c.in-Some.is)

pub returns-in-Some-clause-places : goal.returns-in-Some-clause-places
returns-in-Some-clause-places c = inl (is_cut_at_feed _ _ (sym c.line_feed_in.ensures ∙ c.in-Some.is))

pub returns-in-None-clause-lines : goal.returns-in-None-clause-lines
returns-in-None-clause-lines c =
    let some : 0 < length c.args.text.now = omega (arith, eqb-false _ _ (sym c.is_empty.ensures ∙ c.if-is_empty.false)) in
    lines_of-last _ (sym c.line_feed_in.ensures ∙ c.in-None.is) some
