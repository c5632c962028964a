use Rattle.std.proofs.Common.{◌∙◌, true≢false, sym, ap}
use Rattle.rtc_sctp.specs.Streams.{SctpStreams}
use Rattle.rtc_sctp.proofs.CallsTended.{tended_swept}
use Rattle.rtc_sctp.proofs.streams.RtcSctp.drop_closed_entries.Goals as goal

pub invariant_of-self : goal.invariant_of-self
invariant_of-self g c = (
  tended_swept g.S.Association.association _ _ _ _ _ c.self.invariant.0 c.sweep.ensures.entries c.sweep.ensures.streams,
  λ e. absurd (true≢false (sym e ∙ (ap (λ (x : SctpStreams _). x.rests) c.self.view_is ∙ c.requires))),
)

pub sweep-requires : goal.sweep-requires
sweep-requires g c = c.self.invariant.0.unclosed_all
