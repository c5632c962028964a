use Rattle.std.proofs.Common.{refl}
use Rattle.rtc_parts.specs.AssociationActs.{Given}
use Rattle.rtc_sctp_entries.proofs.UntoldVisits.{untold_act}
use Rattle.rtc_sctp.proofs.TendedLemmas.{tended_on}
use Rattle.rtc_sctp.proofs.streams.RtcSctp.handle_input.Goals as goal

pub invariant_of-self : goal.invariant_of-self
invariant_of-self g c = (
  tended_on g.S.Association.association g.met.S.Association.laws _ _ _ _ (untold_act g.S.Association.association _ _ (Given c.args.bytes.now) (c.args.now, (_, c.handle_input.ensures)) refl) c.self.invariant.0,
  λ e. cc (e),
)

pub invariant_of-self-in_err-handle_input : goal.invariant_of-self-in_err-handle_input
invariant_of-self-in_err-handle_input g c = (
  tended_on g.S.Association.association g.met.S.Association.laws _ _ _ _ (untold_act g.S.Association.association _ _ (Given c.args.bytes.now) (c.args.now, (_, c.handle_input.ensures)) refl) c.self.invariant.0,
  λ e. cc (e),
)
