-- What each event that a poll reports keeps of the channels that a side announced, its polls keep, one or many.
use Rattle.std.proofs.Common.{List, [], ◌∷◌, Option, Some}
use Rattle.rtc_peer_core.specs.Meanings.{Meanings}
use Rattle.rtc_peer_transport.specs.declared.event.Event.{Event}
use Rattle.rtc_peer_transport.specs.declared.polled_peer.PolledPeer.{PolledPeer}
use Rattle.rtc_run_history.specs.declared.outcome.Outcome.{Outcome}
use Rattle.rtc_run_history.specs.declared.outcome.Outcome.TheVariants.{Polled}
use Rattle.rtc_run_history.specs.declared.poll_end.PollEnd.{PollEnd}
use Rattle.rtc_run_history.specs.declared.sent_packet.SentPacket.{SentPacket}
use Rattle.rtc_run_history.specs.declared.shown.Shown.{Shown}
use Rattle.rtc_run_history.specs.declared.shown.Shown.TheVariants as shows
use Rattle.rtc_run_history.specs.declared.side.Side.{Side}
use Rattle.rtc_run_history.specs.declared.table.Table.{Table}
use Rattle.rtc_run_history.specs.Performs.{DrainsOn, DrainsPeer, StepPollsPeer}
use Rattle.rtc_run_laws.specs.ChannelUses.{ChannelUse, uses_shown, uses_told}
use Rattle.rtc_run_laws.specs.PollsOfRuns.{by_drain, by_drain_step, by_poll, by_poll_step, by_polls}

module _ {I D S M E X T W N : Type 0} (m : Meanings I D S M E X T W N) (Q : List ChannelUse → Type 0)
    (told : (event : Event E) (q : PolledPeer I D S M N) (uses : List ChannelUse) → Q uses → Q (uses_told m event q uses)) where
  shown_on : (shown : Shown E) (q : PolledPeer I D S M N) (uses : List ChannelUse) → Q uses → Q (uses_shown m shown q uses)
  shown_on (shows.Event event) q uses h = told event q uses h
  shown_on (shows.Timeout moment reason) q uses h = h
  shown_on (shows.Packet number len) q uses h = h

  poll_on : (outputs : List (Shown E)) (q : PolledPeer I D S M N) (uses : List ChannelUse) → Q uses → Q (by_poll m (uses_shown m) outputs q uses)
  poll_on [] q uses h = h
  poll_on (shown ∷ []) q uses h = shown_on shown q uses h
  poll_on (shown ∷ next ∷ outputs) q uses h = h

  polls_on : (at : Side) (p : PolledPeer I D S M N) (packets : List SentPacket) (outputs : List (Shown E)) (end : PollEnd) (q : PolledPeer I D S M N)
      (packets' : List SentPacket) (d : DrainsOn m at p packets outputs end q packets') (uses : List ChannelUse) → Q uses
      → Q (by_polls m (uses_shown m) at p packets outputs end q packets' d uses)
  polls_on at p packets [] end q packets' d uses h = h
  polls_on at p packets (shows.Timeout moment reason ∷ outputs) end q packets' d uses h = h
  polls_on at p packets (shows.Packet number len ∷ outputs) end q packets' d uses h = polls_on at d.0 d.1 outputs end q packets' d.3 uses h
  polls_on at p packets (shows.Event event ∷ outputs) end q packets' d uses h =
      polls_on at d.0 d.1 outputs end q packets' d.3 (uses_told m event d.0 uses) (told event d.0 uses h)

  drain_on : (at : Side) (p : PolledPeer I D S M N) (packets : List SentPacket) (outputs : List (Shown E)) (end : PollEnd) (q : PolledPeer I D S M N)
      (packets' : List SentPacket) (d : DrainsPeer m at p packets outputs end q packets') (uses : List ChannelUse) → Q uses
      → Q (by_drain m (uses_shown m) at p packets outputs end q packets' d uses)
  drain_on at p packets [] end q packets' d uses h = h
  drain_on at p packets (shown ∷ outputs) end q packets' d uses h = polls_on at p packets (shown ∷ outputs) end q packets' d uses h

  pub poll_step_on : (outcome : Outcome E) (q : PolledPeer I D S M N) (uses : List ChannelUse) → Q uses
      → Q (by_poll_step m (uses_shown m) outcome q uses)
  poll_step_on (Polled outputs end) q uses h = poll_on outputs q uses h
  poll_step_on outcome q uses h = h

  pub drain_step_on : (at : Side) (old : PolledPeer I D S M N) (packets : List SentPacket) (outcome : Outcome E) (table : Option Table)
      (new : PolledPeer I D S M N) (packets' : List SentPacket) (d : StepPollsPeer m (DrainsPeer m at old) old packets outcome table new packets')
      (uses : List ChannelUse) → Q uses → Q (by_drain_step m (uses_shown m) at old packets outcome table new packets' d uses)
  drain_step_on at old packets (Polled outputs end) (Some table) new packets' d uses h = drain_on at old packets outputs end new packets' d.0 uses h
  drain_step_on at old packets outcome table new packets' d uses h = h
