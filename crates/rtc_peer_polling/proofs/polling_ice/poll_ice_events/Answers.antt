use Rattle.rtc_peer_core.specs.Meanings.{meanings}
use Rattle.rtc_peer_polling.specs.IceStages.{PollsIceEvent}
use Rattle.rtc_peer_polling.proofs.IceTurns.{ice_turn_falls}
use Rattle.rtc_peer_transport.proofs.StageLemmas.{over_more, repeats_end}
use Rattle.rtc_peer_polling.proofs.polling_ice.poll_ice_events.Goals as goal

pub events-preserved : goal.events-preserved
events-preserved g c =
    over_more (PollsIceEvent (meanings g.I.IceAgent.ice g.D.DtlsInstance.dtls g.S.Association.association g.M.MediaSession.media g.N.Ids.ids)) _ _ _ c.events.invariant
    (record { event = c.poll_event-event.result; ice = c.poll_event-event.new.self; by_poll = c.poll_event-event.ensures; by_event = c.in-Again.ensures })

pub events-smaller : goal.events-smaller
events-smaller g c =
    ice_turn_falls (meanings g.I.IceAgent.ice g.D.DtlsInstance.dtls g.S.Association.association g.M.MediaSession.media g.N.Ids.ids) g.met.I.IceAgent.laws _ _
    (record { event = c.poll_event-event.result; ice = c.poll_event-event.new.self; by_poll = c.poll_event-event.ensures; by_event = c.in-Again.ensures })

pub returns-in_default : goal.returns-in_default
returns-in_default g c =
    repeats_end _ _ _ _ _ c.events.invariant
    (record { event = c.poll_event-event.result; ice = c.poll_event-event.new.self; by_poll = c.poll_event-event.ensures; by_event = c.take_ice_event.ensures })
    c.in_default.not-Again
