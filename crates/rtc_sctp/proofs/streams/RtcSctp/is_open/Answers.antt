use Rattle.rtc_sctp.proofs.streams.RtcSctp.is_open.Goals as goal

pub has_open-requires : goal.has_open-requires
has_open-requires g c = rw c.as_slice.ensures.value c.self.invariant.0.ascend
