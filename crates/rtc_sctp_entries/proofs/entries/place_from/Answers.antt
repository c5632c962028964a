use Rattle.std.proofs.Common.{ltb, ltb-true, ltb-false, arith, rules}
use Rattle.std.proofs.lemmas.List.Sorted.{IsPartitionPoint-from_clause, IsPartitionedBy-ltb}
use Rattle.rtc_sctp_entries.specs.declared.stream_entry.StreamEntry.{StreamEntry}
use Rattle.rtc_sctp_entries.proofs.OrderLemmas.{ascend_up}
use Rattle.rtc_sctp_entries.proofs.entries.place_from.Goals as goal

pub returns-clause-before : goal.returns-clause-before
returns-clause-before c =
    let parted = IsPartitionedBy-ltb (λ (e : StreamEntry). e.id) _ c.args.id (ascend_up 0 c.args.entries.now c.requires) in
    let point = IsPartitionPoint-from_clause (λ (e : StreamEntry). ltb e.id c.args.id) _ _ c.partition_point.ensures.partitioned parted (λ a r q k. search rules) in
    λ k d h. ltb-true _ _ (point.0 k d (omega arith) h)

pub returns-clause-behind : goal.returns-clause-behind
returns-clause-behind c =
    let parted = IsPartitionedBy-ltb (λ (e : StreamEntry). e.id) _ c.args.id (ascend_up 0 c.args.entries.now c.requires) in
    let point = IsPartitionPoint-from_clause (λ (e : StreamEntry). ltb e.id c.args.id) _ _ c.partition_point.ensures.partitioned parted (λ a r q k. search rules) in
    λ k d le lt. ltb-false _ _ (point.1 k d le lt)
