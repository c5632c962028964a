use Rattle.rtc_sctp.proofs.streams.RtcSctp.is_current.Goals as goal

pub generation_of-requires : goal.generation_of-requires
generation_of-requires g c = rw c.as_slice.ensures.value c.self.invariant.0.ascend
