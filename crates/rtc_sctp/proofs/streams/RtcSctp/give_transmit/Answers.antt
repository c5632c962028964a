use Rattle.std.proofs.Common.{◌∙◌, true≢false, sym, ap}
use Rattle.rtc_sctp.specs.Streams.{SctpStreams}
use Rattle.rtc_sctp.proofs.CallsTended.{packet_untold}
use Rattle.rtc_sctp.proofs.TendedLemmas.{tended_on}
use Rattle.rtc_sctp.proofs.streams.RtcSctp.give_transmit.Goals as goal

pub invariant_of-self-then-is_started : goal.invariant_of-self-then-is_started
invariant_of-self-then-is_started g c = (
  tended_on g.S.Association.association g.met.S.Association.laws _ _ _ _ (packet_untold g.S.Association.association g.met.S.Association.laws _ _ _ c.take_packet.ensures) c.self.invariant.0,
  λ e. absurd (true≢false (sym e ∙ (ap (λ (x : SctpStreams _). x.rests) c.self.view_is ∙ c.requires))),
)
