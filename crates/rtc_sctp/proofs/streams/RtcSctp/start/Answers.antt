use Rattle.std.proofs.Common.{◌∙◌, sym}
use Rattle.rtc_sctp.proofs.CallsTended.{init_untold}
use Rattle.rtc_sctp.proofs.TendedLemmas.{tended_on}
use Rattle.rtc_sctp.proofs.streams.RtcSctp.start.Goals as goal

pub invariant_of-self : goal.invariant_of-self
invariant_of-self g c = (
  tended_on g.S.Association.association g.met.S.Association.laws _ _ _ _ (init_untold g.S.Association.association g.met.S.Association.laws _ _ _ _ _ _ _ (sym c.is_started.ensures ∙ c.if-is_started.false) c.ask_start.ensures) c.self.invariant.0,
  λ e. cc (e),
)
