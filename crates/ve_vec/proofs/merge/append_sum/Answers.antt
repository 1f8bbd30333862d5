use Rattle.std.proofs.Common.{◌<◌, ◌≡◌, arith}
use Rattle.std.proofs.lemmas.List.{nil_from_length}
use Rattle.ve_vec.proofs.TermSteps.{first_left, first_right, push_left, push_right, push_both, push_none, finish}
use Rattle.ve_vec.proofs.merge.append_sum.Goals as goal

pub returns-in_default-split_first : goal.returns-in_default-split_first
returns-in_default-split_first c = record {
  ok = finish _ _ _ _ _ _ _ (nil_from_length _ c.in_default-split_first.ensures.cases) c.in_ok-extend_from_slice.ensures.ok c.loop-a.invariant;
}

pub loop-a-preserved-then-a-b : goal.loop-a-preserved-then-a-b
loop-a-preserved-then-a-b c =
    push_left _ _ _ _ _ _ _ _ _ _ c.in-Some.ensures.cases.0 c.in-Some-split_first.ensures.cases.0 c.loop-a.invariant _ c.if-a-b.true c.in_ok-push.ensures.ok

pub mul-product-requires-clause-second : goal.mul-product-requires-clause-second
mul-product-requires-clause-second c =
    (first_right _ _ _ _ _ _ _ _ _ _ c.in-Some.ensures.cases.0 c.in-Some-split_first.ensures.cases.0 c.loop-a.invariant).residue

pub loop-a-preserved-then-a-b-2 : goal.loop-a-preserved-then-a-b-2
loop-a-preserved-then-a-b-2 c =
    let next = first_right _ _ _ _ _ _ _ _ _ _ c.in-Some.ensures.cases.0 c.in-Some-split_first.ensures.cases.0 c.loop-a.invariant in
    push_right _ _ _ _ _ _ _ _ _ _ c.in-Some.ensures.cases.0 c.in-Some-split_first.ensures.cases.0 c.loop-a.invariant _ _ c.if-a-b-2.true
    (c.mul-product.ensures.nonzero c.requires.nonzero next.positive) c.mul-product.ensures.residue c.mul-product.ensures.product c.in_ok-push-2.ensures.ok

pub add-coef-requires-clause-first : goal.add-coef-requires-clause-first
add-coef-requires-clause-first c =
    (first_left _ _ _ _ _ _ _ _ _ _ c.in-Some.ensures.cases.0 c.in-Some-split_first.ensures.cases.0 c.loop-a.invariant).residue

pub loop-a-preserved-in_ok-push-3 : goal.loop-a-preserved-in_ok-push-3
loop-a-preserved-in_ok-push-3 c =
    let same : c.in-Some.a.now.id ≡ c.in-Some-split_first.b.now.id = omega (arith, c.if-a-b.false, c.if-a-b-2.false) in
    let positive : 0 < c.add-coef.result = omega (arith, c.if-coef-ne0.true) in
    push_both _ _ _ _ _ _ _ _ _ _ c.in-Some.ensures.cases.0 c.in-Some-split_first.ensures.cases.0 c.loop-a.invariant _ _ _ same positive
    c.add-coef.ensures.residue c.mul-product.ensures.product c.add-coef.ensures.sum c.in_ok-push-3.ensures.ok

pub loop-a-preserved : goal.loop-a-preserved
loop-a-preserved c =
    let same : c.in-Some.a.now.id ≡ c.in-Some-split_first.b.now.id = omega (arith, c.if-a-b.false, c.if-a-b-2.false) in
    push_none _ _ _ _ _ _ _ _ _ _ c.in-Some.ensures.cases.0 c.in-Some-split_first.ensures.cases.0 c.loop-a.invariant _ _ same c.if-coef-ne0.false
    c.mul-product.ensures.product c.add-coef.ensures.sum
