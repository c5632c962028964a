use Rattle.rtc_sctp_entries.proofs.UntoldVisits.{untold_wrote}
use Rattle.rtc_sctp.proofs.TendedLemmas.{tended_wrote}
use Rattle.rtc_sctp.proofs.streams.RtcSctp.write_message.Goals as goal

pub invariant_of-self : goal.invariant_of-self
invariant_of-self g c = (
  tended_wrote g.S.Association.association g.met.S.Association.laws c.args.id _ _ _ _ _ (untold_wrote g.S.Association.association _ _ _ _ _ _ c.stream_write.ensures)
      c.count.ensures.streams c.count.ensures.closed c.count.ensures.here c.count.ensures.apart c.self.invariant.0,
  λ e. cc (e),
)
