use Rattle.std.proofs.Common.{◌∙◌, true≢false, sym, ap}
use Rattle.rtc_sctp.specs.Streams.{SctpStreams}
use Rattle.rtc_sctp.specs.Polls.{book}
use Rattle.rtc_sctp.proofs.StepLemmas.{event_handled}
use Rattle.rtc_sctp.proofs.streams.RtcSctp.take_event.Goals as goal

pub returns : goal.returns
returns g c =
    event_handled g.S.Association.association _ c.args.self.now c.take_event.result c.take_event.new.association
    (book c.take_event.new.state c.take_event.new.entries.items c.take_event.new.resets.items c.take_event.new.completed.items)
    c.self.view_is c.take_event.ensures.takes

pub invariant_of-self : goal.invariant_of-self
invariant_of-self g c = (
  c.take_event.ensures.tended,
  λ e. absurd (true≢false (sym e ∙ (ap (λ (x : SctpStreams _). x.rests) c.self.view_is ∙ c.requires))),
)

pub take_event-requires : goal.take_event-requires
take_event-requires g c = c.self.invariant.0
