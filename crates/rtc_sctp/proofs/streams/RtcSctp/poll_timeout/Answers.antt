use Rattle.rtc_sctp.proofs.RestLemmas.{all_noted}
use Rattle.rtc_sctp.proofs.streams.RtcSctp.poll_timeout.Goals as goal

pub retry_wake-requires-clause-ascend : goal.retry_wake-requires-clause-ascend
retry_wake-requires-clause-ascend g c = rw c.as_slice.ensures.value c.self.invariant.0.ascend

pub retry_wake-requires-clause-noted : goal.retry_wake-requires-clause-noted
retry_wake-requires-clause-noted g c = rw c.as_slice.ensures.value (all_noted g.S.Association.association _ _ _ c.self.invariant.0.rest)
