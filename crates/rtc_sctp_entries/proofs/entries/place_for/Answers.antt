use Rattle.std.proofs.Common.{leb, leb-true, sym, arith, rules}
use Rattle.std.proofs.lemmas.Bool.{leb-false}
use Rattle.std.proofs.lemmas.List.Sorted.{IsPartitionPoint-from_clause, IsPartitionedBy-leb}
use Rattle.rtc_sctp_entries.specs.declared.stream_entry.StreamEntry.{StreamEntry}
use Rattle.rtc_sctp_entries.proofs.OrderLemmas.{ascend_up, new_place_at}
use Rattle.rtc_sctp_entries.proofs.entries.place_for.Goals as goal

pub returns-clause-place : goal.returns-clause-place
returns-clause-place c =
    let parted = IsPartitionedBy-leb (λ (e : StreamEntry). e.id) _ c.args.id (ascend_up 0 c.args.entries.now c.requires) in
    let point = IsPartitionPoint-from_clause (λ (e : StreamEntry). leb e.id c.args.id) _ _ c.partition_point.ensures.partitioned parted (λ a r q k. search rules) in
    sym (new_place_at c.args.id c.partition_point.result c.args.entries.now c.partition_point.ensures.bound
    (λ k d h. leb-true _ _ (point.0 k d (omega arith) h)) (λ d h. leb-false _ _ (point.1 _ d (omega arith) h)))
