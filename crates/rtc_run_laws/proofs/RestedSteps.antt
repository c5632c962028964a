-- Steps keep what holds of a side that rests.
use Rattle.std.proofs.Common.{◌≡◌, ◌∷◌, ℕ, Bool, true, false, true≢false, List, [], Option, Some, None, Ok, Err, inr, sym}
use Rattle.rtc_wire.specs.declared.addr.Addr.{Addr}
use Rattle.rtc_assoc_state.proofs.PlainLaws.{plain_laws}
use Rattle.rtc_plain_media.specs.declared.plain_media_event.PlainMediaEvent.{PlainMediaEvent}
use Rattle.rtc_parts.specs.Draws.{Draws}
use Rattle.rtc_peer_transport.specs.declared.output.Output.TheVariants as polled
use Rattle.rtc_peer_transport.specs.ChannelCalls.{open_stream_under}
use Rattle.rtc_peer_transport.specs.Closing.{ClosesPeer}
use Rattle.rtc_peer_laws.specs.Acts.{begun_here}
use Rattle.rtc_peer_laws.specs.PeerActs.{PeerActs}
use Rattle.rtc_run_history.specs.declared.kept.Kept.{Kept}
use Rattle.rtc_run_history.specs.declared.outcome.Outcome.{Outcome}
use Rattle.rtc_run_history.specs.declared.outcome.Outcome.TheVariants.{Polled, Alloc}
use Rattle.rtc_run_history.specs.declared.poll_end.PollEnd.{PollEnd}
use Rattle.rtc_run_history.specs.declared.poll_end.PollEnd.TheVariants.{Ended, Refused as EndRefused, NoRoom}
use Rattle.rtc_run_history.specs.declared.sent_packet.SentPacket.{SentPacket}
use Rattle.rtc_run_history.specs.declared.shown.Shown.{Shown}
use Rattle.rtc_run_history.specs.declared.shown.Shown.TheVariants.{Timeout, Packet, Event as EventShown}
use Rattle.rtc_run_history.specs.declared.side.Side.{Side}
use Rattle.rtc_run_history.specs.declared.step.Step.{Step}
use Rattle.rtc_run_history.specs.declared.step.Step.TheVariants as step
use Rattle.rtc_run_history.specs.declared.table.Table.{Table}
use Rattle.rtc_run_history.specs.Native.{is_native}
use Rattle.rtc_run_history.specs.PairState.{held_token, kept_remote_sdp}
use Rattle.rtc_run_history.specs.Performs.{Acts, DrainsOn, DrainsPeer, PollsOnce, PollsShown, StepPollsPeer}
use Rattle.rtc_run_history.specs.Sides.{side_of}
use Rattle.rtc_run_laws.specs.PlainPairs.{PlainPolled, plain_over}
use Rattle.rtc_run_laws.proofs.NegotiationActed.{answer_acts, negotiates_did, offer_acts, rollback_acts}
use Rattle.rtc_run_laws.specs.ChannelUses.{ChannelUse, uses_shown}
use Rattle.rtc_run_laws.specs.SideDrains.{SideDrainedByOutcome, SideDrainedByOutputs, SideDrainedByStep}
use Rattle.rtc_run_laws.specs.PollsOfRuns.{by_drain, by_drain_step, by_poll, by_poll_step, by_polls}
use Rattle.rtc_run_laws.specs.ToldMessages.{MessagesTold, told_shown}
use Rattle.rtc_run_laws.specs.UsesOfRuns.{uses_acted}
use Rattle.rtc_run_laws.proofs.RestedSides.{RestsSide, rests_kept, rests_rolled, rests_same}
use Rattle.rtc_run_laws.proofs.KeptNegotiation.{answer_step_keeps, negotiates_keep, offer_step_keeps, rollback_leaves}
use Rattle.rtc_run_laws.proofs.PolledSteps.{shown_stood}
use Rattle.rtc_run_laws.proofs.StandingSides.{Sent, Stood}
use Rattle.rtc_run_laws.proofs.RestedTimeouts.{exchange_sound, rests_timeout}
use Rattle.rtc_run_laws.proofs.FreshSides.{IsReady}
use Rattle.rtc_run_laws.proofs.ShutRows.{shut_same}
use Rattle.rtc_run_laws.proofs.UnestablishedRows.{unestablishes_same}
use Rattle.rtc_run_laws.proofs.StepRows.{rollback_rows}
use Rattle.rtc_run_laws.proofs.RestedCalls.{begun_empty, call_rests, calls_rests, channel_closes_rests, closed_rests, event_rests, poll_rests, writes_rests}

module _ {N : Type 0} (draws : Draws N) where
  -- ---- polls

  module _ (at : Side) (b : PeerActs) (q : PlainPolled N) (sent : Sent) where
    shown_rests : (packets : List SentPacket) (shown : Shown PlainMediaEvent) (packets' : List SentPacket) (uses : List ChannelUse) (told : MessagesTold) (p next : PlainPolled N)
        → PollsShown (plain_over draws) at p packets shown next packets' → Stood draws at packets b q uses sent told p → (earlier : Type 0)
        → (earlier → RestsSide uses p) → SideDrainedByOutputs (shown ∷ []) earlier
        → IsReady next → RestsSide (uses_shown (plain_over draws) shown next uses) next
    shown_rests packets (Timeout moment reason) packets' uses told p next h stood earlier before d ready =
        let after = shown_stood draws at b q sent packets (Timeout moment reason) packets' uses told p next h stood in
        rests_timeout draws p next moment after.acts (uses_shown (plain_over draws) (Timeout moment reason) next uses) h.0 ready after.side
        (exchange_sound at after.acts b _ _ next q after.exchange)
    shown_rests packets (Packet number len) packets' uses told p next h stood earlier before d ready =
        poll_rests draws p (Ok (polled.Transmit h.0)) next uses h.1 (before d)
    shown_rests packets (EventShown event) packets' uses told p next h stood earlier before d ready =
        event_rests draws event p next uses stood.side.written stood.side.read h.0 stood.side.told (before d)

    once_rests : (p : PlainPolled N) (packets : List SentPacket) (outputs : List (Shown PlainMediaEvent)) (end : PollEnd) (next : PlainPolled N)
        (packets' : List SentPacket) (uses : List ChannelUse) (told : MessagesTold) → PollsOnce (plain_over draws) at p packets outputs end next packets'
        → Stood draws at packets b q uses sent told p → (earlier : Type 0) → (earlier → RestsSide uses p) → SideDrainedByOutputs outputs earlier
        → IsReady next
        → RestsSide (by_poll (plain_over draws) (uses_shown (plain_over draws)) outputs next uses) next
    once_rests p packets (shown ∷ []) Ended next packets' uses told h stood earlier before d ready =
        shown_rests packets shown packets' uses told p next h stood earlier before d ready
    once_rests p packets [] (EndRefused error) next packets' uses told h stood earlier before d ready = poll_rests draws p (Err error) next uses h.0 (before d)
    once_rests p packets outputs end next packets' uses told h stood earlier before d ready = absurd h

    drains_on_rests : (p : PlainPolled N) (packets : List SentPacket) (outputs : List (Shown PlainMediaEvent)) (end : PollEnd) (next : PlainPolled N)
        (packets' : List SentPacket) (uses : List ChannelUse) (told : MessagesTold) (h : DrainsOn (plain_over draws) at p packets outputs end next packets')
        → Stood draws at packets b q uses sent told p → (earlier : Type 0) → (earlier → RestsSide uses p) → SideDrainedByOutputs outputs earlier
        → IsReady next
        → RestsSide (by_polls (plain_over draws) (uses_shown (plain_over draws)) at p packets outputs end next packets' h uses) next
    drains_on_rests p packets [] Ended next packets' uses told h stood earlier before d ready = absurd h
    drains_on_rests p packets [] (EndRefused error) next packets' uses told h stood earlier before d ready = poll_rests draws p (Err error) next uses h.0 (before d)
    drains_on_rests p packets [] NoRoom next packets' uses told h stood earlier before d ready = rests_same uses p next h.0 (before d)
    drains_on_rests p packets (Timeout moment reason ∷ []) Ended next packets' uses told h stood earlier before d ready =
        shown_rests packets (Timeout moment reason) packets' uses told p next h stood earlier before d ready
    drains_on_rests p packets (Timeout moment reason ∷ outputs) end next packets' uses told h stood earlier before d ready = absurd h
    drains_on_rests p packets (Packet number len ∷ outputs) end next packets' uses told h stood earlier before d ready =
        drains_on_rests h.0 h.1 outputs end next packets' uses told h.3
        (shown_stood draws at b q sent packets (Packet number len) h.1 uses told p h.0 h.2 stood) earlier
        (λ e. poll_rests draws p (Ok (polled.Transmit h.2.0)) h.0 uses h.2.1 (before e)) d ready
    drains_on_rests p packets (EventShown event ∷ outputs) end next packets' uses told h stood earlier before d ready =
        drains_on_rests h.0 h.1 outputs end next packets' (uses_shown (plain_over draws) (EventShown event) h.0 uses)
        (told_shown (plain_over draws) (EventShown event) h.0 told) h.3
        (shown_stood draws at b q sent packets (EventShown event) h.1 uses told p h.0 h.2 stood) earlier
        (λ e. event_rests draws event p h.0 uses stood.side.written stood.side.read h.2.0 stood.side.told (before e)) d ready

    drawn_rests : (p : PlainPolled N) (packets : List SentPacket) (outputs : List (Shown PlainMediaEvent)) (end : PollEnd) (next : PlainPolled N)
        (packets' : List SentPacket) (uses : List ChannelUse) (told : MessagesTold) (h : DrainsPeer (plain_over draws) at p packets outputs end next packets')
        → Stood draws at packets b q uses sent told p → (earlier : Type 0) → (earlier → RestsSide uses p) → SideDrainedByOutputs outputs earlier
        → IsReady next
        → RestsSide (by_drain (plain_over draws) (uses_shown (plain_over draws)) at p packets outputs end next packets' h uses) next
    drawn_rests p packets [] NoRoom next packets' uses told h stood earlier before d ready = absurd h
    drawn_rests p packets [] Ended next packets' uses told h stood earlier before d ready =
        drains_on_rests p packets [] Ended next packets' uses told h stood earlier before d ready
    drawn_rests p packets [] (EndRefused error) next packets' uses told h stood earlier before d ready =
        drains_on_rests p packets [] (EndRefused error) next packets' uses told h stood earlier before d ready
    drawn_rests p packets (shown ∷ outputs) end next packets' uses told h stood earlier before d ready =
        drains_on_rests p packets (shown ∷ outputs) end next packets' uses told h stood earlier before d ready

    poll_step_rests : (old : PlainPolled N) (packets : List SentPacket) (outcome : Outcome PlainMediaEvent) (table : Option Table) (new : PlainPolled N)
        (packets' : List SentPacket) (uses : List ChannelUse) (told : MessagesTold)
        → StepPollsPeer (plain_over draws) (PollsOnce (plain_over draws) at old) old packets outcome table new packets' → Stood draws at packets b q uses sent told old
        → (earlier : Type 0) → (earlier → RestsSide uses old) → SideDrainedByOutcome outcome earlier
        → IsReady new
        → RestsSide (by_poll_step (plain_over draws) (uses_shown (plain_over draws)) outcome new uses) new
    poll_step_rests old packets Alloc None new packets' uses told h stood earlier before d ready = rests_same uses old new h.0 (before d)
    poll_step_rests old packets (Polled outputs end) (Some table) new packets' uses told h stood earlier before d ready =
        once_rests old packets outputs end new packets' uses told h.0 stood earlier before d ready
    poll_step_rests old packets outcome table new packets' uses told h stood earlier before d ready = absurd h

    drain_step_rests : (old : PlainPolled N) (packets : List SentPacket) (outcome : Outcome PlainMediaEvent) (table : Option Table) (new : PlainPolled N)
        (packets' : List SentPacket) (uses : List ChannelUse) (told : MessagesTold)
        (h : StepPollsPeer (plain_over draws) (DrainsPeer (plain_over draws) at old) old packets outcome table new packets')
        → Stood draws at packets b q uses sent told old → (earlier : Type 0) → (earlier → RestsSide uses old) → SideDrainedByOutcome outcome earlier
        → IsReady new
        → RestsSide (by_drain_step (plain_over draws) (uses_shown (plain_over draws)) at old packets outcome table new packets' h uses) new
    drain_step_rests old packets Alloc None new packets' uses told h stood earlier before d ready = rests_same uses old new h.0 (before d)
    drain_step_rests old packets (Polled outputs end) (Some table) new packets' uses told h stood earlier before d ready =
        drawn_rests old packets outputs end new packets' uses told h.0 stood earlier before d ready
    drain_step_rests old packets outcome table new packets' uses told h stood earlier before d ready = absurd h

  -- ---- each step, an arm each

  module _ (b : PeerActs) (q : PlainPolled N) (sent : Sent) where
    pub acts_rests : (stun : List ℕ → Bool) (other own : Addr) (one : Step) (old : PlainPolled N) (sdps : List Kept) (packets : List SentPacket)
        (outcome : Outcome PlainMediaEvent) (table : Option Table) (new : PlainPolled N) (sdps' : List Kept) (packets' : List SentPacket)
        (uses : List ChannelUse) (told : MessagesTold) → is_native one ≡ true
        → (h : Acts (plain_over draws) stun other own one old sdps packets outcome table new sdps' packets')
        → Stood draws (side_of one) packets b q uses sent told old → (earlier : Type 0) → (earlier → RestsSide uses old)
        → SideDrainedByStep one outcome earlier → IsReady new
        → RestsSide (uses_acted (plain_over draws) stun other own one old sdps packets outcome table new sdps' packets' h uses) new
    acts_rests stun other own (step.Negotiate at ops apply) old sdps packets outcome table new sdps' packets' uses told go h stood earlier before d ready =
        call_rests draws begun_here _ [] [] old new uses (negotiates_did (plain_over draws) at ops apply old sdps outcome table new sdps' h.0)
        (negotiates_keep (plain_over draws) at ops apply old sdps outcome table new sdps' h.0) begun_empty (before d)
    acts_rests stun other own (step.AcceptOffer at offer) old sdps packets outcome table new sdps' packets' uses told go h stood earlier before d ready =
        call_rests draws begun_here _ [] [] old new uses
        (offer_acts (plain_over draws) at (kept_remote_sdp true sdps at offer) old sdps outcome table new sdps' h.0)
        (offer_step_keeps (plain_over draws) plain_laws at (kept_remote_sdp true sdps at offer) old sdps outcome table new sdps' h.0) begun_empty (before d)
    acts_rests stun other own (step.AcceptAnswer at token answer) old sdps packets outcome table new sdps' packets' uses told go h stood earlier before d ready =
        call_rests draws begun_here _ [] [] old new uses
        (answer_acts (plain_over draws) token (held_token sdps at token) (kept_remote_sdp false sdps at answer) old sdps outcome table new sdps' h.0)
        (answer_step_keeps (plain_over draws) plain_laws token (held_token sdps at token) (kept_remote_sdp false sdps at answer) old sdps outcome table new sdps' h.0)
        begun_empty (before d)
    acts_rests stun other own (step.Time at now) old sdps packets outcome table new sdps' packets' uses told go h stood earlier before d ready = absurd d
    acts_rests stun other own (step.Datagram at packet now) old sdps packets outcome table new sdps' packets' uses told go h stood earlier before d ready = absurd d
    acts_rests stun other own (step.Poll at) old sdps packets outcome table new sdps' packets' uses told go h stood earlier before d ready =
        poll_step_rests at b q sent old packets outcome table new packets' uses told h.0 stood earlier before d ready
    acts_rests stun other own (step.Drain at) old sdps packets outcome table new sdps' packets' uses told go h stood earlier before d ready =
        drain_step_rests at b q sent old packets outcome table new packets' uses told h.0 stood earlier before d ready
    acts_rests stun other own (step.Write at channel binary bytes) old sdps packets outcome table new sdps' packets' uses told go h stood earlier before d ready =
        writes_rests draws channel (open_stream_under channel old) binary bytes uses old outcome table new h.0 (before d)
    acts_rests stun other own (step.CloseChannel at channel) old sdps packets outcome table new sdps' packets' uses told go h stood earlier before d ready =
        channel_closes_rests draws (open_stream_under channel old) channel uses old outcome table new h.0 (before d)
    acts_rests stun other own (step.Close at) old sdps packets outcome table new sdps' packets' uses told go h stood earlier before d ready =
        calls_rests draws (ClosesPeer (plain_over draws)) uses (λ p r next closes k. closed_rests draws uses p r next closes k) old outcome table new h.0 (before d)
    acts_rests stun other own (step.Rollback at token) old sdps packets outcome table new sdps' packets' uses told go h stood earlier before d ready =
        let leaves = rollback_leaves (plain_over draws) token (held_token sdps at token) old sdps outcome table new sdps' h.0 in
        let rows = rollback_rows (plain_over draws) token (held_token sdps at token) old sdps outcome table new sdps' h.0 in
        rests_rolled old.core.channels.rows new.core.channels.rows uses new
        (rests_kept draws begun_here _ [] [] [] old new uses
        (rollback_acts (plain_over draws) token (held_token sdps at token) old sdps outcome table new sdps' h.0) begun_empty leaves.gone leaves.closed
        (inr ((λ s. shut_same s old.core.sctp new.core.sctp rows.sctp), unestablishes_same old.core.sctp new.core.sctp rows.sctp)) (before d))
    acts_rests stun other own (step.ForeignOffer at text) old sdps packets outcome table new sdps' packets' uses told go h stood earlier before d ready =
        absurd (true≢false (sym go))
    acts_rests stun other own (step.ForeignAnswer at token text) old sdps packets outcome table new sdps' packets' uses told go h stood earlier before d ready =
        absurd (true≢false (sym go))
    acts_rests stun other own (step.Raw at bytes now) old sdps packets outcome table new sdps' packets' uses told go h stood earlier before d ready =
        absurd (true≢false (sym go))
