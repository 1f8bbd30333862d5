use Rattle.std.proofs.Common.{ap, sym, ◌∙◌}
use Rattle.ve_theory.specs.Words.{word_length}
use Rattle.ve_lemmas.proofs.Words.{length-generator}
use Rattle.ve_table.proofs.Comparing.{root_word, child_word}
use Rattle.ve_table.proofs.birth.order.without_letter.Goals as goal

pub returns-in-Root-clause-none : goal.returns-in-Root-clause-none
returns-in-Root-clause-none c = ap word_length (root_word c.args.entries.now c.args.word.parent c.in-Root.field-0 _ c.requires.book c.requires.parent c.in-Root.is) ∙ length-generator c.in-Root.field-0

pub returns-in-Child-clause-some : goal.returns-in-Child-clause-some
returns-in-Child-clause-some c =
    let word = child_word c.args.entries.now c.args.word.parent c.in-Child.parent c.in-Child.letter _ c.requires.book c.requires.parent c.in-Child.is in
    record { earlier = word.0; product = sym word.1 }
