use Rattle.std.proofs.Common.{◌<◌, ◌≤◌, length}
use Rattle.ve_theory.specs.Words.{word_length}
use Rattle.ve_table.specs.Births.{Begins, word_in, product_of}
use Rattle.ve_table.proofs.birth.order.prefix.Given as goal

abbrev pub invariant-loop-word : goal.invariant-loop-word
invariant-loop-word l = record {
  parent : l.word.parent < length l.entries;
  long : l.count ≤ word_length (word_in l.entries l.word.parent);
  begins : Begins (product_of l.entries l.word) (product_of l.entries l.initial.word);
}

abbrev pub decreases-loop-word : goal.decreases-loop-word
decreases-loop-word l = l.word.parent
