use Rattle.std.proofs.Common.{◌∙◌, true≢false, sym, ap}
use Rattle.rtc_sctp.specs.Streams.{SctpStreams}
use Rattle.rtc_sctp.proofs.streams.RtcSctp.visit_entries.Goals as goal

pub invariant_of-self : goal.invariant_of-self
invariant_of-self g c = (
  c.visit_all.ensures.tended,
  λ e. absurd (true≢false (sym e ∙ (ap (λ (x : SctpStreams _). x.rests) c.self.view_is ∙ c.requires.awake))),
)

pub visit_all-requires-clause-tended : goal.visit_all-requires-clause-tended
visit_all-requires-clause-tended g c = c.self.invariant.0
