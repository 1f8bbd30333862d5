use Rattle.std.proofs.Common.{rules, of_calls, arith}
use Rattle.std.proofs.lemmas.List.Sorted.{IsPartitionPoint-from_clause}
use Rattle.ve_pres.proofs.Orders.{is_before}
use Rattle.ve_pres.proofs.MovedMerges.{test_from_parts, partitioned, front_above_first, above_nothing}
use Rattle.ve_pres.proofs.merge.count_above.Goals as goal

pub returns-in-Some-clause-above : goal.returns-in-Some-clause-above
returns-in-Some-clause-above c p terms others =
    let point = IsPartitionPoint-from_clause (λ t. is_before c.in-Some.first.now.word t.word) _ _ c.partition_point.ensures.partitioned (partitioned p c.in-Some.first.now.word c.args.terms.now terms)
    (λ a r q k. (test_from_parts r c.in-Some.first.now.word a.0.now.word (λ e. search (rules, of_calls)) (λ e. search (rules, of_calls)), search (rules, of_calls))) in
    front_above_first p _ _ _ _ others c.in-Some.ensures.value (λ k d l m. point.0 k d (omega arith) l)

pub returns-in-None-clause-above : goal.returns-in-None-clause-above
returns-in-None-clause-above c p terms others = above_nothing _ _ c.in-None.ensures.value
