use Rattle.std.proofs.Common.{◌≡◌, ap, ap₂, sym, subst, ◌∙◌, arith}
use Rattle.ve_theory.specs.Words.{generator, times}
use Rattle.ve_table.specs.Births.{Begins, same, word_in, product_of}
use Rattle.ve_table.proofs.Comparing.{begins_through, roots_decide, letters_decide, words_differ, shorter_begins, shorter_length, parent_begins}
use Rattle.ve_table.proofs.birth.order.differs_below.Goals as goal

pub loop-a-init : goal.loop-a-init
loop-a-init c = record {
  first = c.requires.first;
  second = c.requires.second;
  lengths = c.requires.lengths;
  distinct = c.requires.distinct;
  first_begins = same (product_of c.args.entries.now c.args.a);
  second_begins = same (product_of c.args.entries.now c.args.b);
}

pub returns-in_default : goal.returns-in_default
returns-in_default c =
    let es = c.args.entries.now in
    let i = c.loop-a.invariant in
    let differ = words_differ es c.loop-a.a.parent c.loop-a.b.parent c.requires.book i.first i.second c.loop-a-test.true in
    roots_decide c.root_of.result c.root_of-in_default.result (product_of es c.args.a) (product_of es c.args.b)
    (λ equal. differ (c.root_of.ensures ∙ ap generator equal ∙ sym c.root_of-in_default.ensures))
    (begins_through (generator c.root_of.result) (product_of es c.loop-a.a) (product_of es c.args.a) (parent_begins es c.loop-a.a (generator c.root_of.result) c.root_of.ensures) i.first_begins)
    (begins_through (generator c.root_of-in_default.result) (product_of es c.loop-a.b) (product_of es c.args.b) (parent_begins es c.loop-a.b (generator c.root_of-in_default.result) c.root_of-in_default.ensures) i.second_begins)

pub returns-in_default-without_letter : goal.returns-in_default-without_letter
returns-in_default-without_letter c =
    absurd (omega (arith, c.loop-a.invariant.lengths, c.in_default-without_letter.ensures.none, shorter_length c.args.entries.now c.loop-a.a c.in-Some.shorter_a c.in-Some.ensures.some))

pub loop-a-preserved : goal.loop-a-preserved
loop-a-preserved c =
    let es = c.args.entries.now in
    let i = c.loop-a.invariant in
    let first = c.in-Some.ensures.some in
    let second = c.in-Some-without_letter.ensures.some in
    let a = c.in-Some.shorter_a in
    let b = c.in-Some-without_letter.shorter_b in
    let differ = words_differ es c.loop-a.a.parent c.loop-a.b.parent c.requires.book i.first i.second c.loop-a-test.true in
    record {
      first = omega (arith, first.earlier, i.first);
      second = omega (arith, second.earlier, i.second);
      lengths = omega (arith, i.lengths, shorter_length es c.loop-a.a a first, shorter_length es c.loop-a.b b second);
      distinct = λ equal. differ (sym first.product ∙ equal ∙ second.product);
      first_begins = begins_through (product_of es a) (product_of es c.loop-a.a) (product_of es c.args.a) (shorter_begins es c.loop-a.a a first) i.first_begins;
      second_begins = begins_through (product_of es b) (product_of es c.loop-a.b) (product_of es c.args.b) (shorter_begins es c.loop-a.b b second) i.second_begins;
    }

pub returns : goal.returns
returns c =
    let es = c.args.entries.now in
    let i = c.loop-a.invariant in
    let parents : c.loop-a.b.parent ≡ c.loop-a.a.parent = sym c.loop-a-test.false in
    let w = word_in es c.loop-a.a.parent in
    letters_decide w c.loop-a.a.letter c.loop-a.b.letter (product_of es c.args.a) (product_of es c.args.b)
    (λ equal. i.distinct (ap₂ (λ p x. times (word_in es p) x) (sym parents) equal))
    i.first_begins
    (subst (λ p. Begins (times (word_in es p) c.loop-a.b.letter) (product_of es c.args.b)) parents i.second_begins)
