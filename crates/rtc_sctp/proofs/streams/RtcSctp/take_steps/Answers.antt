use Rattle.std.proofs.Common.{◌∙◌, ap}
use Rattle.rtc_sctp.specs.Streams.{SctpStreams}
use Rattle.rtc_sctp.specs.Polls.{GivesTransmit, HandlesEvent, VisitsEntries, GivesCompletion, Else}
use Rattle.rtc_sctp.proofs.EventsTended.{none_due}
use Rattle.rtc_sctp.proofs.RestingLemmas.{resting_left, transmit_awake, event_awake, visits_awake}
use Rattle.rtc_sctp.proofs.StepLemmas.{else_go, else_stop, passed}
use Rattle.rtc_sctp.proofs.streams.RtcSctp.take_steps.Goals as goal

pub returns-in_default : goal.returns-in_default
returns-in_default g c =
    let m = g.S.Association.association in
    passed m c.args.self.now c.drop_closed_entries.new.self _ _ c.drop_closed_entries.ensures
    (else_stop (GivesTransmit m) (Else (HandlesEvent m) (Else (VisitsEntries m) GivesCompletion)) _ _ _ c.give_transmit.ensures c.in_default.not-Nothing)

pub returns-in_default-take_event : goal.returns-in_default-take_event
returns-in_default-take_event g c =
    let m = g.S.Association.association in
    passed m c.args.self.now c.drop_closed_entries.new.self _ _ c.drop_closed_entries.ensures
    (else_go (GivesTransmit m) (Else (HandlesEvent m) (Else (VisitsEntries m) GivesCompletion)) _ _ _ _ _ c.give_transmit.ensures c.in-Nothing.is
    (else_stop (HandlesEvent m) (Else (VisitsEntries m) GivesCompletion) _ _ _ c.take_event.ensures c.in_default-take_event.not-Nothing))

pub returns-in_default-visit_entries : goal.returns-in_default-visit_entries
returns-in_default-visit_entries g c =
    let m = g.S.Association.association in
    passed m c.args.self.now c.drop_closed_entries.new.self _ _ c.drop_closed_entries.ensures
    (else_go (GivesTransmit m) (Else (HandlesEvent m) (Else (VisitsEntries m) GivesCompletion)) _ _ _ _ _ c.give_transmit.ensures c.in-Nothing.is
    (else_go (HandlesEvent m) (Else (VisitsEntries m) GivesCompletion) _ _ _ _ _ c.take_event.ensures c.in-Nothing-take_event.is
    (else_stop (VisitsEntries m) GivesCompletion _ _ _ c.visit_entries.ensures c.in_default-visit_entries.not-Nothing)))

pub returns : goal.returns
returns g c =
    let m = g.S.Association.association in
    passed m c.args.self.now c.drop_closed_entries.new.self _ _ c.drop_closed_entries.ensures
    (else_go (GivesTransmit m) (Else (HandlesEvent m) (Else (VisitsEntries m) GivesCompletion)) _ _ _ _ _ c.give_transmit.ensures c.in-Nothing.is
    (else_go (HandlesEvent m) (Else (VisitsEntries m) GivesCompletion) _ _ _ _ _ c.take_event.ensures c.in-Nothing-take_event.is
    (else_go (VisitsEntries m) GivesCompletion _ _ _ _ _ c.visit_entries.ensures c.in-Nothing-visit_entries.is c.give_completion.ensures)))

pub visit_entries-requires-clause-quiet : goal.visit_entries-requires-clause-quiet
visit_entries-requires-clause-quiet g c = λ started. none_due g.S.Association.association g.met.S.Association.laws _ _ _ _ _ c.take_event.ensures.0 c.in-Nothing-take_event.is started

pub give_transmit-requires : goal.give_transmit-requires
give_transmit-requires g c = ap (λ (x : SctpStreams _). x.rests) c.drop_closed_entries.ensures ∙ c.requires

pub take_event-requires : goal.take_event-requires
take_event-requires g c =
    let awake = ap (λ (x : SctpStreams _). x.rests) c.drop_closed_entries.ensures ∙ c.requires in
    transmit_awake g.S.Association.association _ _ _ awake c.give_transmit.ensures

pub visit_entries-requires-clause-awake : goal.visit_entries-requires-clause-awake
visit_entries-requires-clause-awake g c =
    let awake = ap (λ (x : SctpStreams _). x.rests) c.drop_closed_entries.ensures ∙ c.requires in
    let sent = transmit_awake g.S.Association.association _ _ _ awake c.give_transmit.ensures in
    event_awake g.S.Association.association _ _ _ sent c.take_event.ensures

pub give_completion-requires-clause-awake : goal.give_completion-requires-clause-awake
give_completion-requires-clause-awake g c =
    let awake = ap (λ (x : SctpStreams _). x.rests) c.drop_closed_entries.ensures ∙ c.requires in
    let sent = transmit_awake g.S.Association.association _ _ _ awake c.give_transmit.ensures in
    let told = event_awake g.S.Association.association _ _ _ sent c.take_event.ensures in
    visits_awake g.S.Association.association _ _ _ told c.visit_entries.ensures

pub give_completion-requires-clause-resting : goal.give_completion-requires-clause-resting
give_completion-requires-clause-resting g c =
    resting_left g.S.Association.association c.args.self.now c.drop_closed_entries.new.self _ _ _ _ _ _ c.drop_closed_entries.ensures
    c.give_transmit.ensures c.in-Nothing.is c.take_event.ensures c.in-Nothing-take_event.is c.visit_entries.ensures c.in-Nothing-visit_entries.is
