use Rattle.std.proofs.Common.{arith, refl}
use Rattle.ve_pres.proofs.MovedMerges.{begins_behind, moved_left_residue, moved_right_residue, moved_left, moved_right, moved_both, moved_left_alone, moved_right_alone}
use Rattle.ve_pres.proofs.merge.push_merged.Goals as goal

pub loop-a-init : goal.loop-a-init
loop-a-init c = begins_behind _ _ _ _ _ _ c.requires.left c.requires.right c.reverse.ensures.items c.reverse-2.ensures.items

pub returns-in_default-clause-sum : goal.returns-in_default-clause-sum
returns-in_default-clause-sum c = moved_right_alone _ _ _ c.loop-a.left.items c.loop-a.right.items _ (omega (arith, c.in_default.ensures.cases.0)) c.in_ok-push_reversed.ensures c.loop-a.invariant

pub returns-in_default-pop-clause-sum : goal.returns-in_default-pop-clause-sum
returns-in_default-pop-clause-sum c =
    moved_left_alone _ _ _ _ c.loop-a.left.items c.loop-a.right.items _ _ _ (omega (arith, c.in_default-pop.ensures.cases.0)) c.in-Some.ensures.items c.in_ok-push.ensures.items c.in_ok-push_reversed-2.ensures c.loop-a.invariant

pub loop-a-preserved-in-Continue-branch-5 : goal.loop-a-preserved-in-Continue-branch-5
loop-a-preserved-in-Continue-branch-5 c =
    moved_left _ _ _ _ _ _ _ _ _ c.in-Some.ensures.items c.in-Some-pop.ensures.items c.loop-a.invariant _ _
    (c.in-Greater.ensures.greater.0 refl) c.in_ok-push-in-Greater.ensures.items c.in_ok-push-in-Greater-2.ensures.items

pub loop-a-preserved-in-Continue-branch-7 : goal.loop-a-preserved-in-Continue-branch-7
loop-a-preserved-in-Continue-branch-7 c =
    moved_right _ _ _ _ _ _ _ _ _ c.in-Some.ensures.items c.in-Some-pop.ensures.items c.loop-a.invariant _ _
    (c.in-Less.ensures.less.0 refl) c.in_ok-push-in-Less.ensures.items c.in_ok-push-in-Less-2.ensures.items

pub push_sum-requires-clause-left : goal.push_sum-requires-clause-left
push_sum-requires-clause-left c = moved_left_residue _ _ _ _ _ _ _ _ _ c.in-Some.ensures.items c.in-Some-pop.ensures.items c.loop-a.invariant

pub push_sum-requires-clause-right : goal.push_sum-requires-clause-right
push_sum-requires-clause-right c = moved_right_residue _ _ _ _ _ _ _ _ _ c.in-Some.ensures.items c.in-Some-pop.ensures.items c.loop-a.invariant

pub loop-a-preserved : goal.loop-a-preserved
loop-a-preserved c =
    moved_both _ _ c.loop-a.left.items c.loop-a.right.items _ _ _ _ _ c.in-Some.ensures.items c.in-Some-pop.ensures.items c.loop-a.invariant _
    (c.in-Equal.ensures.equal.0 refl) c.in_ok-push_sum-in-Equal.ensures.cancelled c.in_ok-push_sum-in-Equal.ensures.added
