use Rattle.ve_pres.proofs.MovedMerges.{parts_behind, others_behind, whole_sum}
use Rattle.ve_pres.proofs.merge.merge_moved.Goals as goal

pub push_merged-requires-clause-left : goal.push_merged-requires-clause-left
push_merged-requires-clause-left c = parts_behind _ _ _ _ _ c.requires.left c.in_ok-rest.ensures.items c.in_ok-rest.ensures.tail

pub push_merged-requires-clause-right : goal.push_merged-requires-clause-right
push_merged-requires-clause-right c =
    others_behind _ _ c.args.left.items _ _ c.requires.left c.requires.right
    ((rw (c.deref.ensures.value, c.deref-2.ensures.value) at c.count_above-above.ensures.above) _ c.requires.left c.requires.right)
    c.in_ok-rest.ensures.items

pub returns-clause-sum : goal.returns-clause-sum
returns-clause-sum c = whole_sum _ _ _ c.args.left.items _ _ c.args.right.items c.in_ok-rest.ensures.items c.in_ok-rest.ensures.tail c.in_ok-push_merged.ensures.sum
