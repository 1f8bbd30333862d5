use Rattle.std.proofs.Common.{ap, arith}
use Rattle.ve_theory.specs.Words.{word_length}
use Rattle.ve_table.specs.Births.{word_in}
use Rattle.ve_table.proofs.Comparing.{root_word, child_word, length_times}
use Rattle.ve_table.proofs.birth.order.root_of.Goals as goal

pub returns-in-Root : goal.returns-in-Root
returns-in-Root c = root_word c.args.entries.now c.args.id c.in-Root.root _ c.requires.book c.requires.id c.in-Root.is

pub returns-in-Child : goal.returns-in-Child
returns-in-Child c =
    let word = child_word c.args.entries.now c.args.id c.in-Child.parent c.in-Child.letter _ c.requires.book c.requires.id c.in-Child.is in
    absurd (omega (arith, c.requires.root, ap word_length word.1, length_times (word_in c.args.entries.now c.in-Child.parent) c.in-Child.letter))
