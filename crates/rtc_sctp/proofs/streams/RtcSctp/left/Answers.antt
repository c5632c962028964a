use Rattle.rtc_sctp.proofs.streams.RtcSctp.left.Goals as goal

pub left_of-requires-clause-ascend : goal.left_of-requires-clause-ascend
left_of-requires-clause-ascend g c = rw c.as_slice.ensures.value c.self.invariant.0.ascend

pub left_of-requires-clause-counted : goal.left_of-requires-clause-counted
left_of-requires-clause-counted g c = rw c.as_slice.ensures.value c.self.invariant.0.counted
