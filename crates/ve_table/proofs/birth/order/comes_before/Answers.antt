use Rattle.std.proofs.Common.{inl, inr, ◌∙◌}
use Rattle.ve_table.proofs.Deaths.{no_entry}
use Rattle.ve_table.proofs.Comparing.{length_at, prefixes_differ, compared}
use Rattle.ve_table.proofs.birth.order.comes_before.Goals as goal

pub differs_below-requires-clause-distinct : goal.differs_below-requires-clause-distinct
differs_below-requires-clause-distinct c =
    let es = c.args.entries.now in
    prefixes_differ es c.shorter-count.result c.args.a c.args.b c.prefix-a.result c.prefix-b.result c.requires.words c.prefix-a.ensures c.prefix-b.ensures
    (elim c.shorter-count.ensures.either [
      | inl first ↦ inl (first ∙ length_at es c.args.a.parent no_entry c.requires.book c.requires.words.first)
      | inr second ↦ inr (second ∙ length_at es c.args.b.parent no_entry c.requires.book c.requires.words.second)
    ])

pub returns : goal.returns
returns c = compared c.args.entries.now c.differs_below.result c.args.a c.args.b c.prefix-a.result c.prefix-b.result c.prefix-a.ensures.begins c.prefix-b.ensures.begins c.differs_below.ensures
