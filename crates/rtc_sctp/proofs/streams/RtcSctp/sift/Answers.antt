use Rattle.rtc_sctp.proofs.streams.RtcSctp.sift.Goals as goal

pub sift-requires : goal.sift-requires
sift-requires g c = rw c.as_slice.ensures.value c.self.invariant.0

pub invariant_of-self : goal.invariant_of-self
invariant_of-self g c = (rw c.as_slice.ensures.value at c.sift.ensures, c.self.invariant.1)
