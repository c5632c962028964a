-- What polls keep of a peer and of the channels that it announced, one poll after the other.
use Rattle.std.proofs.Common.{◌≡◌, ◌⊎◌, inl, inr, Bool, List, [], ◌∷◌, Option, Some, None, Result, Ok, Err, sym, subst}
use Rattle.rtc_plain_media.specs.declared.plain_media_event.PlainMediaEvent.{PlainMediaEvent}
use Rattle.rtc_parts.specs.Draws.{Draws}
use Rattle.rtc_assoc_state.proofs.PlainLaws.{plain_laws}
use Rattle.rtc_assoc_state.specs.PlainMeaning.{plain_meaning}
use Rattle.rtc_peer_core.specs.declared.phase.Phase.TheVariants.{Closed}
use Rattle.rtc_peer_core.specs.declared.rtc_error.RtcError.{RtcError}
use Rattle.rtc_peer_transport.specs.declared.output.Output.{Output}
use Rattle.rtc_peer_transport.specs.declared.output.Output.TheVariants as polled
use Rattle.rtc_peer_polling.specs.Walk.{PollsPeer}
use Rattle.rtc_peer_laws.specs.PeerActs.{PeerActs}
use Rattle.rtc_peer_laws.specs.RowsChanged.{RowsChanged}
use Rattle.rtc_run_history.specs.declared.outcome.Outcome.{Outcome}
use Rattle.rtc_run_history.specs.declared.outcome.Outcome.TheVariants.{Polled, Alloc}
use Rattle.rtc_run_history.specs.declared.poll_end.PollEnd.{PollEnd}
use Rattle.rtc_run_history.specs.declared.poll_end.PollEnd.TheVariants.{Ended, Refused as EndRefused, NoRoom}
use Rattle.rtc_run_history.specs.declared.sent_packet.SentPacket.{SentPacket}
use Rattle.rtc_run_history.specs.declared.shown.Shown.{Shown}
use Rattle.rtc_run_history.specs.declared.shown.Shown.TheVariants.{Timeout, Packet, Event}
use Rattle.rtc_run_history.specs.declared.side.Side.{Side}
use Rattle.rtc_run_history.specs.declared.table.Table.{Table}
use Rattle.rtc_run_history.specs.Performs.{DrainsOn, DrainsPeer, PollsOnce, StepPollsPeer}
use Rattle.rtc_run_laws.specs.ChannelUses.{ChannelUse, uses_shown}
use Rattle.rtc_run_laws.specs.PlainPairs.{PlainPolled, plain_over}
use Rattle.rtc_run_laws.specs.PollsOfRuns.{by_drain, by_drain_step, by_poll, by_poll_step, by_polls}
use Rattle.rtc_run_laws.specs.ToldMessages.{MessagesTold, told_shown}
use Rattle.rtc_run_laws.proofs.AnnouncedStreams.{uses_answered}
use Rattle.rtc_run_laws.proofs.BegunRows.{AreSound}
use Rattle.rtc_run_laws.proofs.OpenedRows.{changed_begun}
use Rattle.rtc_run_laws.proofs.OwnedChanges.{IsOwned}
use Rattle.rtc_run_laws.proofs.OwnedRuns.{LivesOnSide, changed_owned, lived_before}
use Rattle.rtc_run_laws.proofs.PolledSteps.{shown_stood}
use Rattle.rtc_run_laws.proofs.StandingSides.{Sent, Stood}
use Rattle.rtc_run_laws.proofs.StepRows.{StepRows, calls_rows, poll_rows}
use Rattle.rtc_run_laws.proofs.StepWalks.{drains_on_keep}
use Rattle.rtc_run_laws.proofs.StepsExchange.{plain_over_laws}

module _ {N : Type 0} (draws : Draws N) (at : Side) (b : PeerActs) (other : PlainPolled N) (sent : Sent) (c : Bool) where
  abbrev pub Lives : PlainPolled N → Type 0
  Lives p = LivesOnSide (plain_over draws) (plain_over_laws draws) c p

  -- the rows and the entries of a peer
  pub record IsGood (p : PlainPolled N) : Type 0 where
    pub sound : AreSound p.core.channels p.core.sctp
    pub owned : IsOwned c p.core.channels p.core.sctp.entries

  pub good_polled : (p : PlainPolled N) (answer : Result (Output PlainMediaEvent) RtcError) (q : PlainPolled N) → PollsPeer (plain_over draws) p answer q
      → Lives q → IsGood p → IsGood q
  good_polled p answer q h lives good = by (poll_rows (plain_over draws) (plain_over_laws draws) p answer q h).changed
    where
      by : (q.core.phase ≡ Closed) ⊎ RowsChanged plain_meaning p.core.channels p.core.sctp q.core.channels q.core.sctp → IsGood q
      by (inl closed) = absurd (lives.lives closed)
      by (inr changed) = record {
        sound = (changed_begun plain_meaning plain_laws 0 p.core.channels p.core.sctp q.core.channels q.core.sctp changed).sound good.sound;
        owned = changed_owned plain_meaning plain_laws c p.core.channels p.core.sctp q.core.channels q.core.sctp changed lives.side good.sound good.owned;
      }

  -- what each poll keeps
  abbrev pub PollsKeep : (PlainPolled N → List ChannelUse → Type 0) → Type 0
  PollsKeep J =
      (p : PlainPolled N) (answer : Result (Output PlainMediaEvent) RtcError) (q : PlainPolled N) (packets : List SentPacket) (uses : List ChannelUse)
      (told : MessagesTold)
      → PollsPeer (plain_over draws) p answer q → Lives q → IsGood p → IsGood q → Stood draws at packets b other uses sent told p → J p uses
      → J q (uses_answered (plain_over draws) answer q uses)

  module _ (J : PlainPolled N → List ChannelUse → Type 0) (keeps : PollsKeep J) where
    one : (p : PlainPolled N) (answer : Result (Output PlainMediaEvent) RtcError) (q : PlainPolled N) (packets : List SentPacket) (uses : List ChannelUse)
        (told : MessagesTold) → PollsPeer (plain_over draws) p answer q → Lives q → IsGood p → Stood draws at packets b other uses sent told p → J p uses
        → J q (uses_answered (plain_over draws) answer q uses)
    one p answer q packets uses told h lives good stood j = keeps p answer q packets uses told h lives good (good_polled p answer q h lives good) stood j

    same : (p q : PlainPolled N) (uses : List ChannelUse) → q ≡ p → J p uses → J q uses
    same p q uses is j = subst (λ (x : PlainPolled N). J x uses) (sym is) j

    once_go : (p : PlainPolled N) (packets : List SentPacket) (outputs : List (Shown PlainMediaEvent)) (end : PollEnd) (q : PlainPolled N)
        (packets' : List SentPacket) (uses : List ChannelUse) (told : MessagesTold) → PollsOnce (plain_over draws) at p packets outputs end q packets' → Lives q
        → IsGood p → Stood draws at packets b other uses sent told p → J p uses
        → J q (by_poll (plain_over draws) (uses_shown (plain_over draws)) outputs q uses)
    once_go p packets (Timeout moment reason ∷ []) Ended q packets' uses told h lives good stood j =
        one p (Ok (polled.Timeout moment)) q packets uses told h.0 lives good stood j
    once_go p packets (Packet number len ∷ []) Ended q packets' uses told h lives good stood j =
        one p (Ok (polled.Transmit h.0)) q packets uses told h.1 lives good stood j
    once_go p packets (Event event ∷ []) Ended q packets' uses told h lives good stood j =
        one p (Ok (polled.Event event)) q packets uses told h.0 lives good stood j
    once_go p packets [] (EndRefused error) q packets' uses told h lives good stood j =
        one p (Err error) q packets uses told h.0 lives good stood j
    once_go p packets outputs end q packets' uses told h lives good stood j = absurd h

    rest_lives : (p : PlainPolled N) (packets : List SentPacket) (outputs : List (Shown PlainMediaEvent)) (end : PollEnd) (q : PlainPolled N)
        (packets' : List SentPacket) → DrainsOn (plain_over draws) at p packets outputs end q packets' → Lives q → Lives p
    rest_lives p packets outputs end q packets' d lives =
        lived_before (plain_over draws) (plain_over_laws draws) c p q
        (inl
        (drains_on_keep (plain_over draws) (StepRows (plain_over draws)) (calls_rows (plain_over draws) (plain_over_laws draws)) at p packets outputs end q
        packets' d))
        lives

    drains_go : (p : PlainPolled N) (packets : List SentPacket) (outputs : List (Shown PlainMediaEvent)) (end : PollEnd) (q : PlainPolled N)
        (packets' : List SentPacket) (uses : List ChannelUse) (told : MessagesTold) (d : DrainsOn (plain_over draws) at p packets outputs end q packets')
        → Lives q → IsGood p → Stood draws at packets b other uses sent told p → J p uses
        → J q (by_polls (plain_over draws) (uses_shown (plain_over draws)) at p packets outputs end q packets' d uses)
    drains_go p packets [] Ended q packets' uses told d lives good stood j = absurd d
    drains_go p packets [] (EndRefused error) q packets' uses told d lives good stood j =
        one p (Err error) q packets uses told d.0 lives good stood j
    drains_go p packets [] NoRoom q packets' uses told d lives good stood j = same p q uses d.0 j
    drains_go p packets (Timeout moment reason ∷ []) Ended q packets' uses told d lives good stood j =
        one p (Ok (polled.Timeout moment)) q packets uses told d.0 lives good stood j
    drains_go p packets (Timeout moment reason ∷ outputs) end q packets' uses told d lives good stood j = absurd d
    drains_go p packets (Packet number len ∷ outputs) end q packets' uses told d lives good stood j =
        let between = rest_lives d.0 d.1 outputs end q packets' d.3 lives in
        drains_go d.0 d.1 outputs end q packets' uses told d.3 lives (good_polled p (Ok (polled.Transmit d.2.0)) d.0 d.2.1 between good)
        (shown_stood draws at b other sent packets (Packet number len) d.1 uses told p d.0 d.2 stood)
        (one p (Ok (polled.Transmit d.2.0)) d.0 packets uses told d.2.1 between good stood j)
    drains_go p packets (Event event ∷ outputs) end q packets' uses told d lives good stood j =
        let between = rest_lives d.0 d.1 outputs end q packets' d.3 lives in
        drains_go d.0 d.1 outputs end q packets' (uses_shown (plain_over draws) (Event event) d.0 uses)
        (told_shown (plain_over draws) (Event event) d.0 told) d.3 lives (good_polled p (Ok (polled.Event event)) d.0 d.2.0 between good)
        (shown_stood draws at b other sent packets (Event event) d.1 uses told p d.0 d.2 stood)
        (one p (Ok (polled.Event event)) d.0 packets uses told d.2.0 between good stood j)

    drawn_go : (p : PlainPolled N) (packets : List SentPacket) (outputs : List (Shown PlainMediaEvent)) (end : PollEnd) (q : PlainPolled N)
        (packets' : List SentPacket) (uses : List ChannelUse) (told : MessagesTold) (d : DrainsPeer (plain_over draws) at p packets outputs end q packets')
        → Lives q → IsGood p → Stood draws at packets b other uses sent told p → J p uses
        → J q (by_drain (plain_over draws) (uses_shown (plain_over draws)) at p packets outputs end q packets' d uses)
    drawn_go p packets [] NoRoom q packets' uses told d lives good stood j = absurd d
    drawn_go p packets [] Ended q packets' uses told d lives good stood j = drains_go p packets [] Ended q packets' uses told d lives good stood j
    drawn_go p packets [] (EndRefused error) q packets' uses told d lives good stood j =
        drains_go p packets [] (EndRefused error) q packets' uses told d lives good stood j
    drawn_go p packets (shown ∷ outputs) end q packets' uses told d lives good stood j =
        drains_go p packets (shown ∷ outputs) end q packets' uses told d lives good stood j

    pub poll_step_go : (old : PlainPolled N) (packets : List SentPacket) (outcome : Outcome PlainMediaEvent) (table : Option Table) (new : PlainPolled N)
        (packets' : List SentPacket) (uses : List ChannelUse) (told : MessagesTold)
        → StepPollsPeer (plain_over draws) (PollsOnce (plain_over draws) at old) old packets outcome table new packets' → Lives new → IsGood old
        → Stood draws at packets b other uses sent told old → J old uses
        → J new (by_poll_step (plain_over draws) (uses_shown (plain_over draws)) outcome new uses)
    poll_step_go old packets Alloc None new packets' uses told h lives good stood j = same old new uses h.0 j
    poll_step_go old packets (Polled outputs end) (Some table) new packets' uses told h lives good stood j =
        once_go old packets outputs end new packets' uses told h.0 lives good stood j
    poll_step_go old packets outcome table new packets' uses told h lives good stood j = absurd h

    pub drain_step_go : (old : PlainPolled N) (packets : List SentPacket) (outcome : Outcome PlainMediaEvent) (table : Option Table) (new : PlainPolled N)
        (packets' : List SentPacket) (uses : List ChannelUse) (told : MessagesTold)
        (h : StepPollsPeer (plain_over draws) (DrainsPeer (plain_over draws) at old) old packets outcome table new packets') → Lives new → IsGood old
        → Stood draws at packets b other uses sent told old → J old uses
        → J new (by_drain_step (plain_over draws) (uses_shown (plain_over draws)) at old packets outcome table new packets' h uses)
    drain_step_go old packets Alloc None new packets' uses told h lives good stood j = same old new uses h.0 j
    drain_step_go old packets (Polled outputs end) (Some table) new packets' uses told h lives good stood j =
        drawn_go old packets outputs end new packets' uses told h.0 lives good stood j
    drain_step_go old packets outcome table new packets' uses told h lives good stood j = absurd h
