use Rattle.rtc_sctp.proofs.CallsTended.{tended_noted}
use Rattle.rtc_sctp.proofs.StreamsTended.{tended_opened}
use Rattle.rtc_sctp.proofs.streams.RtcSctp.open_stream.Goals as goal

pub invariant_of-self : goal.invariant_of-self
invariant_of-self g c = (
  tended_opened g.S.Association.association g.met.S.Association.laws _ _ _ _ _ _ _ _
      (tended_noted g.S.Association.association _ _ _ _ _ c.self.invariant.0 c.note.ensures.here c.note.ensures.others c.note.ensures.buffered c.note.ensures.apart c.note.ensures.closed) c.note.ensures.here c.note.ensures.buffered c.open_in.ensures,
  λ e. cc (e),
)

pub open_in-requires : goal.open_in-requires
open_in-requires g c = c.self.invariant.0.ascend
