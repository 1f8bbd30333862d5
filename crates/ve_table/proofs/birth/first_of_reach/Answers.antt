use Rattle.std.proofs.Common.{rules, ltb}
use Rattle.std.proofs.lemmas.Bool.{ltb-true, ltb-false}
use Rattle.std.proofs.lemmas.List.Sorted.{IsPartitionPoint-from_clause}
use Rattle.ve_table.specs.declared.entry.Entry.{Entry}
use Rattle.ve_table.proofs.Stepping.{partitioned}
use Rattle.ve_table.proofs.birth.first_of_reach.Goals as goal

pub returns-clause-below : goal.returns-clause-below
returns-clause-below c =
    let parted = partitioned c.args.reach c.args.entries.now c.requires in
    let point = IsPartitionPoint-from_clause (λ (e : Entry). ltb e.reach c.args.reach) _ _ c.partition_point.ensures.partitioned parted (λ a r q k. search rules) in
    λ k d le lt. ltb-true _ _ (point.0 k d le lt)

pub returns-clause-rest : goal.returns-clause-rest
returns-clause-rest c =
    let parted = partitioned c.args.reach c.args.entries.now c.requires in
    let point = IsPartitionPoint-from_clause (λ (e : Entry). ltb e.reach c.args.reach) _ _ c.partition_point.ensures.partitioned parted (λ a r q k. search rules) in
    λ k d le lt. ltb-false _ _ (point.1 k d le lt)
