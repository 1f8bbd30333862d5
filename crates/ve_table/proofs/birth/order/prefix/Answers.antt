use Rattle.std.proofs.Common.{arith}
use Rattle.ve_table.specs.Births.{same, product_of}
use Rattle.ve_table.proofs.Deaths.{no_entry}
use Rattle.ve_table.proofs.Comparing.{length_at, begins_through, shorter_begins, shorter_length}
use Rattle.ve_table.proofs.birth.order.prefix.Goals as goal

pub loop-word-init : goal.loop-word-init
loop-word-init c = record { parent = c.requires.parent; long = c.requires.long; begins = same (product_of c.args.entries.now c.args.word) }

pub loop-word-preserved : goal.loop-word-preserved
loop-word-preserved c =
    let es = c.args.entries.now in
    let i = c.loop-word.invariant in
    let is = c.in-Some.ensures.some in
    record {
      parent = omega (arith, is.earlier, i.parent);
      long = omega (arith, c.loop-word-test.true, length_at es c.loop-word.word.parent no_entry c.requires.book i.parent, shorter_length es c.loop-word.word c.in-Some.shorter is);
      begins = begins_through (product_of es c.in-Some.shorter) (product_of es c.loop-word.word) (product_of es c.args.word) (shorter_begins es c.loop-word.word c.in-Some.shorter is) i.begins;
    }

pub returns : goal.returns
returns c =
    let es = c.args.entries.now in
    let i = c.loop-word.invariant in
    record {
      parent = i.parent;
      count = omega (arith, i.long, c.loop-word-test.false, length_at es c.loop-word.word.parent no_entry c.requires.book i.parent);
      begins = i.begins;
    }
