-- Events of the ICE agent that a poll takes.
use Rattle.std.proofs.Common.{◌<◌, Option, Some, None, sym, ap, subst}
use Rattle.rtc_parts.specs.declared.ice_event.IceEvent.{IceEvent}
use Rattle.rtc_parts.specs.IceLaws.{IceLaws}
use Rattle.rtc_peer_core.specs.Meanings.{Meanings}
use Rattle.rtc_peer_transport.specs.declared.met.Met.TheVariants.{Again}
use Rattle.rtc_peer_transport.specs.declared.polled_peer.PolledPeer.{PolledPeer}
use Rattle.rtc_peer_transport.specs.Connection.{with_ice}
use Rattle.rtc_peer_polling.specs.IceStages.{TakesIceEvent, PollsIceEvent}

module _ {I D S M E X T W N : Type 0} (m : Meanings I D S M E X T W N) (laws : IceLaws m.ice) where
  taken_falls : (event : Option IceEvent) (ice : I) (p q : PolledPeer I D S M N) → m.ice.polled p.core.ice event ice
      → TakesIceEvent {E = E} event (with_ice ice p) Again q → m.ice.held q.core.ice < m.ice.held p.core.ice
  taken_falls None ice p q polled taken = cc (taken.0)
  taken_falls (Some event) ice p q polled taken =
      subst (λ (i : I). m.ice.held i < m.ice.held p.core.ice)
      (sym (ap (λ (x : PolledPeer I D S M N). x.core.ice) taken.1))
      (laws.event_falls p.core.ice ice event polled)

  -- each event that is kept lowers what the agent holds
  pub ice_turn_falls : (p q : PolledPeer I D S M N) → PollsIceEvent m p Again q → m.ice.held q.core.ice < m.ice.held p.core.ice
  ice_turn_falls p q turn = taken_falls turn.event turn.ice p q turn.by_poll turn.by_event
