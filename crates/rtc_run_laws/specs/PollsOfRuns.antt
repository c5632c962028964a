-- What polls of a side reported in a run, taken up in order, each with the peer as that poll left it.
use Rattle.std.specs.Prelude.{ℕ, Bool, List, [], ◌∷◌, Option, Some}
use Rattle.rtc_wire.specs.declared.addr.Addr.{Addr}
use Rattle.rtc_peer_core.specs.Meanings.{Meanings}
use Rattle.rtc_peer_transport.specs.declared.polled_peer.PolledPeer.{PolledPeer}
use Rattle.rtc_run_history.specs.declared.kept.Kept.{Kept}
use Rattle.rtc_run_history.specs.declared.outcome.Outcome.{Outcome}
use Rattle.rtc_run_history.specs.declared.outcome.Outcome.TheVariants.{Polled}
use Rattle.rtc_run_history.specs.declared.poll_end.PollEnd.{PollEnd}
use Rattle.rtc_run_history.specs.declared.sent_packet.SentPacket.{SentPacket}
use Rattle.rtc_run_history.specs.declared.shown.Shown.{Shown}
use Rattle.rtc_run_history.specs.declared.shown.Shown.TheVariants.{Timeout, Packet, Event}
use Rattle.rtc_run_history.specs.declared.side.Side.{Side}
use Rattle.rtc_run_history.specs.declared.step.Step.{Step}
use Rattle.rtc_run_history.specs.declared.step.Step.TheVariants.{Poll, Drain}
use Rattle.rtc_run_history.specs.declared.table.Table.{Table}
use Rattle.rtc_run_history.specs.Performs.{Acts, DrainsOn, DrainsPeer, StepPollsPeer}

module _ {I D S M E X T W N : Type 0} (m : Meanings I D S M E X T W N) {A : Type 0} (take : Shown E → PolledPeer I D S M N → A → A) where
  -- by one poll, which left the peer so
  abbrev pub by_poll : List (Shown E) → PolledPeer I D S M N → A → A
  by_poll (shown ∷ []) q got = take shown q got
  by_poll outputs q got = got

  -- by polls in turn, with the peer that each of them left
  abbrev pub by_polls : (at : Side) (p : PolledPeer I D S M N) (packets : List SentPacket) (outputs : List (Shown E)) (end : PollEnd)
      (q : PolledPeer I D S M N) (packets' : List SentPacket) → DrainsOn m at p packets outputs end q packets' → A → A
  by_polls at p packets [] end q packets' h got = got
  by_polls at p packets (Timeout moment reason ∷ outputs) end q packets' h got = take (Timeout moment reason) q got
  by_polls at p packets (Packet number len ∷ outputs) end q packets' h got =
      by_polls at h.0 h.1 outputs end q packets' h.3 (take (Packet number len) h.0 got)
  by_polls at p packets (Event event ∷ outputs) end q packets' h got =
      by_polls at h.0 h.1 outputs end q packets' h.3 (take (Event event) h.0 got)

  -- by a whole drain
  abbrev pub by_drain : (at : Side) (p : PolledPeer I D S M N) (packets : List SentPacket) (outputs : List (Shown E)) (end : PollEnd)
      (q : PolledPeer I D S M N) (packets' : List SentPacket) → DrainsPeer m at p packets outputs end q packets' → A → A
  by_drain at p packets [] end q packets' h got = got
  by_drain at p packets (shown ∷ outputs) end q packets' h got = by_polls at p packets (shown ∷ outputs) end q packets' h got

  -- by a step that polls once
  abbrev pub by_poll_step : Outcome E → PolledPeer I D S M N → A → A
  by_poll_step (Polled outputs end) q got = by_poll outputs q got
  by_poll_step outcome q got = got

  -- by one that drains
  abbrev pub by_drain_step : (at : Side) (old : PolledPeer I D S M N) (packets : List SentPacket) (outcome : Outcome E)
      (table : Option Table) (new : PolledPeer I D S M N) (packets' : List SentPacket)
      → StepPollsPeer m (DrainsPeer m at old) old packets outcome table new packets' → A → A
  by_drain_step at old packets (Polled outputs end) (Some table) new packets' h got =
      by_drain at old packets outputs end new packets' h.0 got
  by_drain_step at old packets outcome table new packets' h got = got

  -- by a step of the side: what does not poll reports nothing
  abbrev pub by_step : (stun : List ℕ → Bool) (other own : Addr) (step : Step) (old : PolledPeer I D S M N) (sdps : List Kept)
      (packets : List SentPacket) (outcome : Outcome E) (table : Option Table) (new : PolledPeer I D S M N) (sdps' : List Kept)
      (packets' : List SentPacket)
      → Acts m stun other own step old sdps packets outcome table new sdps' packets' → A → A
  by_step stun other own (Poll at) old sdps packets outcome table new sdps' packets' h got = by_poll_step outcome new got
  by_step stun other own (Drain at) old sdps packets outcome table new sdps' packets' h got =
      by_drain_step at old packets outcome table new packets' h.0 got
  by_step stun other own step old sdps packets outcome table new sdps' packets' h got = got
