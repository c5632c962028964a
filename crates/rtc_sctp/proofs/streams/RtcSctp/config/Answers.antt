use Rattle.rtc_sctp.proofs.streams.RtcSctp.config.Goals as goal

pub config_of-requires : goal.config_of-requires
config_of-requires g c = rw c.as_slice.ensures.value c.self.invariant.0.ascend
