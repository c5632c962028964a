use Rattle.rtc_sctp.proofs.CallsTended.{tended_noted}
use Rattle.rtc_sctp.proofs.StreamsTended.{tended_ended}
use Rattle.rtc_sctp.proofs.streams.RtcSctp.close_stream.Goals as goal

pub invariant_of-self : goal.invariant_of-self
invariant_of-self g c = (
  tended_ended g.S.Association.association g.met.S.Association.laws _ _ _ _ _ _ _ _ _
      (tended_noted g.S.Association.association _ _ _ _ _ c.self.invariant.0 c.note.ensures.here c.note.ensures.others c.note.ensures.buffered c.note.ensures.apart c.note.ensures.closed) c.note.ensures.here c.close_in.ensures,
  λ e. cc (e),
)

pub close_in-requires : goal.close_in-requires
close_in-requires g c = c.self.invariant.0.ascend
