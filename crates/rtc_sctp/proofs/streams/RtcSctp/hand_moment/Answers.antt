use Rattle.std.proofs.Common.{refl}
use Rattle.rtc_parts.specs.Why.{Timed}
use Rattle.rtc_parts.specs.AssociationActs.{Stirred}
use Rattle.rtc_sctp_entries.proofs.UntoldVisits.{untold_act}
use Rattle.rtc_sctp.proofs.CallsTended.{tended_swept}
use Rattle.rtc_sctp.proofs.TendedLemmas.{tended_on}
use Rattle.rtc_sctp.proofs.streams.RtcSctp.hand_moment.Goals as goal

pub invariant_of-self : goal.invariant_of-self
invariant_of-self g c = (
  tended_on g.S.Association.association g.met.S.Association.laws _ _ _ _ (untold_act g.S.Association.association _ _ (Stirred (Timed c.args.now)) (_, c.handle_timeout.ensures) refl)
      (tended_swept g.S.Association.association _ _ _ _ _ c.self.invariant.0 c.sweep.ensures.entries c.sweep.ensures.streams),
  λ e. cc (e),
)

pub invariant_of-self-2 : goal.invariant_of-self-2
invariant_of-self-2 g c = (
  tended_on g.S.Association.association g.met.S.Association.laws _ _ _ _ (untold_act g.S.Association.association _ _ (Stirred (Timed c.args.now)) (_, c.handle_timeout.ensures) refl)
      (tended_swept g.S.Association.association _ _ _ _ _ c.self.invariant.0 c.sweep.ensures.entries c.sweep.ensures.streams),
  λ e. cc (e),
)

pub sweep-requires : goal.sweep-requires
sweep-requires g c = c.self.invariant.0.unclosed_all
