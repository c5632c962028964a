use Rattle.std.proofs.Common.{refl}
use Rattle.rtc_sctp_values.specs.StreamIds.{has_id}
use Rattle.rtc_sctp_values.proofs.BitLemmas.{empty_bits, empty_summary}
use Rattle.rtc_sctp_values.proofs.stream_set.StreamSet.new.Goals as goal

pub invariant_of-result : goal.invariant_of-result
invariant_of-result c = record { word_count = refl; group_count = refl; top_count = refl; lower = empty_summary 16 1024; upper = empty_summary 1 16 }

pub returns : goal.returns
unfolding has_id
returns c = λ id. empty_bits 1024 id
