use Rattle.std.proofs.Common.{◌∷◌, List, sym, subst}
use Rattle.std.proofs.lemmas.List.{nil_from_length}
use Rattle.ve_table.specs.declared.birth.Birth.{Birth}
use Rattle.ve_table.specs.Births.{Merges, no_left, no_right}
use Rattle.ve_table.proofs.Merging.{step_left, step_right, one_more, contains_rest, contains_head}
use Rattle.ve_table.proofs.birth.merge.merge.Goals as goal

pub returns-in_default : goal.returns-in_default
returns-in_default c =
    let es = c.args.entries.now in
    let second : List Birth = c.loop-a.second.now in
    subst (Merges es c.args.left.now c.args.right.now) (sym c.in_ok-extend_from_slice.ensures.items)
    (c.loop-a.invariant.merges second (subst (λ l. Merges es l second second) (sym (nil_from_length c.loop-a.first.now c.in_default.ensures.cases)) (no_left second)))

pub returns-in_default-split_first : goal.returns-in_default-split_first
returns-in_default-split_first c =
    let es = c.args.entries.now in
    let first : List Birth = c.loop-a.first.now in
    subst (Merges es c.args.left.now c.args.right.now) (sym c.in_ok-extend_from_slice-2.ensures.items)
    (c.loop-a.invariant.merges first (subst (λ r. Merges es first r first) (sym (nil_from_length c.loop-a.second.now c.in_default-split_first.ensures.cases)) (no_right first)))

pub comes_before-requires-clause-words : goal.comes_before-requires-clause-words
comes_before-requires-clause-words c =
    c.loop-a.invariant.comparable c.in-Some.a.now c.in-Some-split_first.b.now
    (contains_head c.in-Some.a.now c.loop-a.first.now c.in-Some.after_a.now c.in-Some.ensures.cases.0)
    (contains_head c.in-Some-split_first.b.now c.loop-a.second.now c.in-Some-split_first.after_b.now c.in-Some-split_first.ensures.cases.0)

pub loop-a-preserved-then-comes_before : goal.loop-a-preserved-then-comes_before
loop-a-preserved-then-comes_before c =
    let es = c.args.entries.now in
    let a : Birth = c.in-Some.a.now in
    let b : Birth = c.in-Some-split_first.b.now in
    let first_is = c.in-Some.ensures.cases.0 in
    let second_is = c.in-Some-split_first.ensures.cases.0 in
    record {
      comparable = λ x y found other. c.loop-a.invariant.comparable x y (contains_rest a x c.loop-a.first.now c.in-Some.after_a.now first_is found) other;
      merges = λ rest merges.
          one_more es c.args.left.now c.args.right.now c.loop-a.births.items c.push.new.self.items rest a c.in_ok-push.ensures.items
          (c.loop-a.invariant.merges (a ∷ rest)
          (step_left es a b c.loop-a.first.now c.loop-a.second.now c.in-Some.after_a.now c.in-Some-split_first.after_b.now rest first_is second_is c.if-comes_before.ensures merges));
    }

pub loop-a-preserved : goal.loop-a-preserved
loop-a-preserved c =
    let es = c.args.entries.now in
    let a : Birth = c.in-Some.a.now in
    let b : Birth = c.in-Some-split_first.b.now in
    let first_is = c.in-Some.ensures.cases.0 in
    let second_is = c.in-Some-split_first.ensures.cases.0 in
    record {
      comparable = λ x y found other. c.loop-a.invariant.comparable x y found (contains_rest b y c.loop-a.second.now c.in-Some-split_first.after_b.now second_is other);
      merges = λ rest merges.
          one_more es c.args.left.now c.args.right.now c.loop-a.births.items c.push-else-comes_before.new.self.items rest b c.in_ok-push-2.ensures.items
          (c.loop-a.invariant.merges (b ∷ rest)
          (step_right es a b c.loop-a.first.now c.loop-a.second.now c.in-Some.after_a.now c.in-Some-split_first.after_b.now rest first_is second_is c.if-comes_before.ensures merges));
    }
