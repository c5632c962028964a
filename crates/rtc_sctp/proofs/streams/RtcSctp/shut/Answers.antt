use Rattle.rtc_sctp.proofs.CallsTended.{shut_untold}
use Rattle.rtc_sctp.proofs.TendedLemmas.{tended_on}
use Rattle.rtc_sctp.proofs.streams.RtcSctp.shut.Goals as goal

pub invariant_of-self : goal.invariant_of-self
invariant_of-self g c = (
  tended_on g.S.Association.association g.met.S.Association.laws _ _ _ _ (shut_untold g.S.Association.association g.met.S.Association.laws _ _ _ c.shut.ensures.asks) c.self.invariant.0,
  λ e. cc (e),
)
