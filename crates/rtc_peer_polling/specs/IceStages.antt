-- What a poll takes from the ICE agent.
use Rattle.std.specs.Prelude.{◌≡◌, Option, Some, None}
use Rattle.rtc_parts.specs.declared.ice_event.IceEvent.{IceEvent}
use Rattle.rtc_parts.specs.declared.ice_event.IceEvent.TheVariants.{IceRestart, StateChange, DiscoveredRecv, NominatedSend}
use Rattle.rtc_peer_core.specs.Meanings.{Meanings}
use Rattle.rtc_peer_transport.specs.declared.event.Event.TheVariants.{IceConnectionStateChange}
use Rattle.rtc_peer_transport.specs.declared.met.Met.{Met}
use Rattle.rtc_peer_transport.specs.declared.met.Met.TheVariants.{Nothing, Again, Event}
use Rattle.rtc_peer_transport.specs.declared.polled_peer.PolledPeer.{PolledPeer}
use Rattle.rtc_peer_transport.specs.declared.transport.Transport.{Transport}
use Rattle.rtc_peer_transport.specs.Connection.{with_ice}
use Rattle.rtc_peer_transport.specs.RecentAddrs.{with_recent}
use Rattle.rtc_peer_transport.specs.Stages.{Stage, RepeatsStage}

-- what is met by an event: a change of state is reported, and every other event is followed by the next
abbrev pub met_of_ice_event : {E : Type 0} → IceEvent → Met E
met_of_ice_event IceRestart = Again
met_of_ice_event (StateChange state) = Event (IceConnectionStateChange state)
met_of_ice_event (DiscoveredRecv proto source) = Again
met_of_ice_event (NominatedSend proto source destination) = Again

-- what it leaves: the address of a check is remembered, and datagrams go by the pair that was nominated last
abbrev pub after_ice_event : IceEvent → Transport → Transport
after_ice_event IceRestart t = t
after_ice_event (StateChange state) t = t
after_ice_event (DiscoveredRecv proto source) t = record t { discovered = with_recent source t.discovered }
after_ice_event (NominatedSend proto source destination) t =
    record t { send_addr = Some (record { proto = proto; source = source; destination = destination }) }

-- an event that was polled is reported or kept
abbrev pub TakesIceEvent : {I D S M E N : Type 0} → Option IceEvent → Stage (PolledPeer I D S M N) E
TakesIceEvent None p r q = (r ≡ Nothing) × (q ≡ p)
TakesIceEvent (Some event) p r q = (r ≡ met_of_ice_event event) × (q ≡ record p { transport = after_ice_event event p.transport })

module _ {I D S M E X T W N : Type 0} (m : Meanings I D S M E X T W N) where
  -- one event is polled
  pub record PollsIceEvent (p : PolledPeer I D S M N) (r : Met E) (q : PolledPeer I D S M N) : Type 0 where
    pub event : Option IceEvent
    pub ice : I
    pub by_poll : m.ice.polled p.core.ice event ice
    pub by_event : TakesIceEvent event (with_ice ice p) r q

  -- events are polled up to one that is reported
  abbrev pub PollsIceEvents : Stage (PolledPeer I D S M N) E
  PollsIceEvents = RepeatsStage PollsIceEvent
