use Rattle.std.proofs.Common.{◌≡◌, ◌≢◌, ◌<◌, length}
use Rattle.ve_theory.specs.Words.{word_length}
use Rattle.ve_table.specs.Births.{Begins, word_in, product_of}
use Rattle.ve_table.proofs.birth.order.differs_below.Given as goal

abbrev pub invariant-loop-a : goal.invariant-loop-a
invariant-loop-a l = record {
  first : l.a.parent < length l.entries;
  second : l.b.parent < length l.entries;
  lengths : word_length (word_in l.entries l.a.parent) ≡ word_length (word_in l.entries l.b.parent);
  distinct : product_of l.entries l.a ≢ product_of l.entries l.b;
  first_begins : Begins (product_of l.entries l.a) (product_of l.entries l.initial.a);
  second_begins : Begins (product_of l.entries l.b) (product_of l.entries l.initial.b);
}

abbrev pub decreases-loop-a : goal.decreases-loop-a
decreases-loop-a l = l.a.parent
