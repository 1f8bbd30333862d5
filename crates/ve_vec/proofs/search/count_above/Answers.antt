use Rattle.std.proofs.Common.{rules, ltb, arith}
use Rattle.std.proofs.lemmas.List.Sorted.{IsPartitionPoint-from_clause}
use Rattle.ve_vec.proofs.Searching.{partitioned, above_at, rest_at}
use Rattle.ve_vec.proofs.search.count_above.Goals as goal

pub returns-clause-above : goal.returns-clause-above
returns-clause-above c =
    let parted = partitioned c.requires.0 c.args.id c.args.terms.now c.requires.1 in
    let point = IsPartitionPoint-from_clause (λ t. ltb c.args.id t.id) _ _ c.partition_point.ensures.partitioned parted (λ a r q k. search rules) in
    above_at _ _ _ (λ k d lt. point.0 k d (omega arith) lt)

pub returns-clause-rest : goal.returns-clause-rest
returns-clause-rest c =
    let parted = partitioned c.requires.0 c.args.id c.args.terms.now c.requires.1 in
    let point = IsPartitionPoint-from_clause (λ t. ltb c.args.id t.id) _ _ c.partition_point.ensures.partitioned parted (λ a r q k. search rules) in
    rest_at _ _ _ (λ k d le lt. point.1 k d le lt)
