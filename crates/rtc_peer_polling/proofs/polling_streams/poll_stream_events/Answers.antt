use Rattle.std.proofs.Common.{Option, Ok, Err, Some, None, refl, subst, alloc_error}
use Rattle.rtc_sctp_entries.specs.declared.sctp_event.SctpEvent.{SctpEvent}
use Rattle.rtc_sctp.specs.Polls.{PollsStreams}
use Rattle.rtc_peer_core.specs.Meanings.{meanings}
use Rattle.rtc_peer_polling.specs.StreamStages.{PollsStreamEvent}
use Rattle.rtc_peer_polling.proofs.ShortPackets.{poll_short}
use Rattle.rtc_peer_transport.proofs.StageLemmas.{over_more, repeats_end}
use Rattle.rtc_peer_polling.proofs.StreamTurns.{stream_turn_falls}
use Rattle.rtc_peer_polling.proofs.StreamWork.{poll_none}
use Rattle.rtc_peer_polling.proofs.polling_streams.poll_stream_events.Goals as goal

pub take_stream_event-requires-clause-none : goal.take_stream_event-requires-clause-none
take_stream_event-requires-clause-none g c = poll_none g.S.Association.association g.met.S.Association.laws _ _ _ c.poll.ensures

pub take_stream_event-requires-clause-short : goal.take_stream_event-requires-clause-short
take_stream_event-requires-clause-short g c =
    poll_short g.S.Association.association g.met.S.Association.laws _ _ _
    (subst (λ (o : Option SctpEvent). PollsStreams g.S.Association.association c.events.peer.core.sctp (Ok o) c.poll.new.self) c.in-Some.is c.in-Ok.ensures)
    c.pushed_back_is_short.ensures

pub events-preserved : goal.events-preserved
events-preserved g c =
    over_more (PollsStreamEvent (meanings g.I.IceAgent.ice g.D.DtlsInstance.dtls g.S.Association.association g.M.MediaSession.media g.N.Ids.ids)) _ _ _ c.events.invariant
    (record { answer = Ok (Some c.in-Some.event); streams = c.poll.new.self; by_poll = subst (λ (o : Option SctpEvent). PollsStreams g.S.Association.association c.events.peer.core.sctp (Ok o) c.poll.new.self) c.in-Some.is c.in-Ok.ensures; by_answer = c.in-Again.ensures })

pub events-smaller : goal.events-smaller
events-smaller g c =
    stream_turn_falls (meanings g.I.IceAgent.ice g.D.DtlsInstance.dtls g.S.Association.association g.M.MediaSession.media g.N.Ids.ids) g.met.S.Association.laws _ _
    (record { answer = Ok (Some c.in-Some.event); streams = c.poll.new.self; by_poll = subst (λ (o : Option SctpEvent). PollsStreams g.S.Association.association c.events.peer.core.sctp (Ok o) c.poll.new.self) c.in-Some.is c.in-Ok.ensures; by_answer = c.in-Again.ensures })

pub returns-in_default : goal.returns-in_default
returns-in_default g c =
    repeats_end _ _ _ _ _ c.events.invariant
    (record { answer = Ok (Some c.in-Some.event); streams = c.poll.new.self; by_poll = subst (λ (o : Option SctpEvent). PollsStreams g.S.Association.association c.events.peer.core.sctp (Ok o) c.poll.new.self) c.in-Some.is c.in-Ok.ensures; by_answer = c.take_stream_event.ensures })
    c.in_default.not-Again

pub returns-in-None : goal.returns-in-None
returns-in-None g c =
    repeats_end _ _ _ _ _ c.events.invariant
    (record { answer = Ok None; streams = c.poll.new.self; by_poll = subst (λ (o : Option SctpEvent). PollsStreams g.S.Association.association c.events.peer.core.sctp (Ok o) c.poll.new.self) c.in-None.is c.in-Ok.ensures; by_answer = (refl, refl) })
    (λ is. cc (is))

pub returns-in-Err : goal.returns-in-Err
returns-in-Err g c =
    rw (c.close_out_of_memory.ensures.told, c.close_out_of_memory.ensures.closed)
    (repeats_end _ _ _ _ _ c.events.invariant
    (record { answer = Err alloc_error; streams = c.poll.new.self; by_poll = c.in-Err.ensures; by_answer = (refl, refl) })
    (λ is. cc (is)))
