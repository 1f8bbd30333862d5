use Rattle.std.proofs.Common.{refl}
use Rattle.std.proofs.lemmas.List.{nil_from_length}
use Rattle.ve_pres.proofs.MergeSteps.{begins, left_residue, right_residue, push_left, push_right, push_both, ends_left, ends_right}
use Rattle.ve_pres.proofs.merge.merge.Goals as goal

pub loop-a-init : goal.loop-a-init
loop-a-init c = begins _ _ _ _ c.requires.left c.requires.right c.in_ok-sum.ensures.items

pub returns-in_default-clause-sum : goal.returns-in_default-clause-sum
returns-in_default-clause-sum c = ends_left _ _ _ _ _ _ (nil_from_length _ c.in_default.ensures.cases) c.in_ok-push_copies.ensures c.loop-a.invariant

pub returns-in_default-split_first-clause-sum : goal.returns-in_default-split_first-clause-sum
returns-in_default-split_first-clause-sum c =
    ends_right _ _ _ _ _ _ (nil_from_length _ c.in_default-split_first.ensures.cases) c.in_ok-push_copies-2.ensures c.loop-a.invariant

pub loop-a-preserved-in-Greater : goal.loop-a-preserved-in-Greater
loop-a-preserved-in-Greater c =
    push_left _ _ _ _ _ _ _ _ _ c.in-Some.ensures.cases.0 c.in-Some-split_first.ensures.cases.0 c.loop-a.invariant _ _
    (c.in-Greater.ensures.greater.0 refl) c.in_ok-copy-in-Greater.ensures c.in_ok-push-in-Greater.ensures.items

pub loop-a-preserved-in-Less : goal.loop-a-preserved-in-Less
loop-a-preserved-in-Less c =
    push_right _ _ _ _ _ _ _ _ _ c.in-Some.ensures.cases.0 c.in-Some-split_first.ensures.cases.0 c.loop-a.invariant _ _
    (c.in-Less.ensures.less.0 refl) c.in_ok-copy-in-Less.ensures c.in_ok-push-in-Less.ensures.items

pub push_sum-requires-clause-left : goal.push_sum-requires-clause-left
push_sum-requires-clause-left c =
    rw c.in_ok-copy-in-Equal.ensures (left_residue _ _ _ _ _ _ _ _ _ c.in-Some.ensures.cases.0 c.in-Some-split_first.ensures.cases.0 c.loop-a.invariant)

pub push_sum-requires-clause-right : goal.push_sum-requires-clause-right
push_sum-requires-clause-right c = right_residue _ _ _ _ _ _ _ _ _ c.in-Some.ensures.cases.0 c.in-Some-split_first.ensures.cases.0 c.loop-a.invariant

pub loop-a-preserved : goal.loop-a-preserved
loop-a-preserved c =
    push_both _ _ _ _ _ _ _ _ _ c.in-Some.ensures.cases.0 c.in-Some-split_first.ensures.cases.0 c.loop-a.invariant _
    (c.in-Equal.ensures.equal.0 refl) (rw c.in_ok-copy-in-Equal.ensures at c.in_ok-push_sum-in-Equal.ensures.cancelled) (rw c.in_ok-copy-in-Equal.ensures at c.in_ok-push_sum-in-Equal.ensures.added)
