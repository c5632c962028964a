-- A side announces no channel over a stream of the other one, but such as are negotiated out-of-band, in a generation that the other one announced a channel
-- over before this side read what opens one, whether or not it is closed meanwhile.
use Rattle.std.proofs.Common.{◌≡◌, ◌∙◌, ◌⊎◌, inl, inr, ◌++◌, ◌∷◌, ℕ, Bool, true, false, true≢false, List, [], Option, Some, None, Result, Ok, Err, sym, subst}
use Rattle.rtc_wire.specs.declared.addr.Addr.{Addr}
use Rattle.rtc_assoc_state.proofs.PlainLaws.{plain_laws}
use Rattle.rtc_assoc_state.specs.PlainMeaning.{plain_meaning}
use Rattle.rtc_parts.specs.Draws.{Draws}
use Rattle.rtc_plain_media.specs.declared.plain_media_event.PlainMediaEvent.{PlainMediaEvent}
use Rattle.rtc_sctp_laws.specs.StreamUses.{any_dcep, messages_of}
use Rattle.rtc_peer_core.specs.declared.phase.Phase.TheVariants.{Closed}
use Rattle.rtc_peer_core.specs.declared.rtc_error.RtcError.{RtcError}
use Rattle.rtc_peer_transport.specs.declared.event.Event.TheVariants.{ChannelOpen, ChannelData}
use Rattle.rtc_peer_transport.specs.declared.output.Output.{Output}
use Rattle.rtc_peer_transport.specs.declared.output.Output.TheVariants as polled
use Rattle.rtc_peer_polling.proofs.Standing.{poll_stands}
use Rattle.rtc_peer_polling.proofs.StreamStarts.{started_same}
use Rattle.rtc_peer_polling.specs.Kept.{KeepsParts}
use Rattle.rtc_peer_polling.specs.Walk.{PollsPeer}
use Rattle.rtc_peer_laws.specs.PeerActs.{PeerActs}
use Rattle.rtc_peer_laws.specs.RowsChanged.{RowsChanged}
use Rattle.rtc_run_history.specs.declared.kept.Kept.{Kept}
use Rattle.rtc_run_history.specs.declared.outcome.Outcome.{Outcome}
use Rattle.rtc_run_history.specs.declared.outcome.Outcome.TheVariants.{Alloc, Polled, Wrote}
use Rattle.rtc_run_history.specs.declared.poll_end.PollEnd.{PollEnd}
use Rattle.rtc_run_history.specs.declared.poll_end.PollEnd.TheVariants.{Ended, Refused as EndRefused}
use Rattle.rtc_run_history.specs.declared.sent_packet.SentPacket.{SentPacket}
use Rattle.rtc_run_history.specs.declared.shown.Shown.{Shown}
use Rattle.rtc_run_history.specs.declared.shown.Shown.TheVariants.{Timeout, Packet, Event}
use Rattle.rtc_run_history.specs.declared.side.Side.{Side}
use Rattle.rtc_run_history.specs.declared.step.Step.{Step}
use Rattle.rtc_run_history.specs.declared.step.Step.TheVariants.{Drain, Poll, Rollback, Write}
use Rattle.rtc_run_history.specs.declared.table.Table.{Table}
use Rattle.rtc_run_history.specs.Performs.{Acts, DrainsOn, DrainsPeer, PollsOnce, StepPollsPeer}
use Rattle.rtc_run_history.specs.Sides.{side_of}
use Rattle.rtc_run_laws.specs.ChannelUses.{ChannelUse, announced_use, uses_shown}
use Rattle.rtc_run_laws.specs.OwnOpenings.{IsOfSide}
use Rattle.rtc_run_laws.specs.PlainPairs.{PlainPolled, plain_over}
use Rattle.rtc_run_laws.specs.PollsOfRuns.{by_drain, by_drain_step, by_poll, by_poll_step, by_polls}
use Rattle.rtc_run_laws.specs.ToldMessages.{MessagesTold, told_shown}
use Rattle.rtc_run_laws.specs.UsesOfRuns.{uses_acted, uses_written}
use Rattle.rtc_run_laws.proofs.AnnouncedStreams.{HasUseOver, IsUseOver, uses_answered}
use Rattle.rtc_run_laws.proofs.ClosedUses.{closed_or_open}
use Rattle.rtc_run_laws.proofs.OwnedRows.{HasOwner}
use Rattle.rtc_run_laws.proofs.PolledSteps.{shown_stood}
use Rattle.rtc_run_laws.proofs.PolledUses.{IsGood, Lives, good_polled}
use Rattle.rtc_run_laws.proofs.RowLemmas.{closed_stays}
use Rattle.rtc_run_laws.proofs.ReadOpenings.{NotFull, full_before, reads_written, use_read}
use Rattle.rtc_run_laws.proofs.SideChanges.{changed_side}
use Rattle.rtc_run_laws.proofs.StandingSides.{Sent, SideStood, Stood}
use Rattle.rtc_run_laws.proofs.StepRows.{StepRows, calls_rows, poll_rows}
use Rattle.rtc_run_laws.proofs.StepWalks.{drains_on_keep}
use Rattle.rtc_run_laws.proofs.StepsExchange.{plain_over_laws}
use Rattle.rtc_run_laws.proofs.UseLists.{AllUses, all_got, all_more, all_rolled, all_sent}
use Rattle.rtc_run_laws.proofs.UnsettledRows.{owner_unsettled}
use Rattle.rtc_run_laws.proofs.SureNumbers.{row_over}
use Rattle.rtc_run_laws.proofs.OpeningFacts.{facts, numbered, over_is}

module _ (s g : ℕ) where
  -- a channel is not one that was opened in-band over the generation, and not negotiated out-of-band
  abbrev pub IsNoneOver : ChannelUse → Type 0
  IsNoneOver x = IsUseOver s (Some g) x → x.negotiated ≡ false → ⊥

  abbrev pub AreNoneOver : List ChannelUse → Type 0
  AreNoneOver uses = AllUses IsNoneOver uses

  pub none_over : (uses : List ChannelUse) → (HasUseOver s (Some g) uses → ⊥) → AreNoneOver uses
  none_over [] h = tt
  none_over (x ∷ uses) h = ((λ over unsettled. h (inl over)), none_over uses (λ k. h (inr k)))

  none_written : (channel : ℕ) (binary : Bool) (bytes : List ℕ) (outcome : Outcome PlainMediaEvent) (uses : List ChannelUse) → AreNoneOver uses
      → AreNoneOver (uses_written channel binary bytes outcome uses)
  none_written channel binary bytes (Wrote true) uses h =
      all_sent IsNoneOver IsNoneOver channel (binary, bytes) uses (λ x e k. k) (λ x e k. k) h
  none_written channel binary bytes outcome uses h = h

module _ {N : Type 0} (draws : Draws N) (s g : ℕ) where
  module _ (at : Side) (b : PeerActs) (other : PlainPolled N) (sent : Sent) (c : Bool) where
    -- what polls keep of a side that is not closed
    pub record GoesOn (p : PlainPolled N) : Type 0 where
      pub lives : Lives draws at b other sent c p
      pub good : IsGood draws at b other sent c p

    abbrev pub GoesOrEnded : PlainPolled N → Type 0
    GoesOrEnded p = (p.core.phase ≡ Closed) ⊎ GoesOn p

    module _ (foreign : IsOfSide c s → ⊥) (vs : List ChannelUse) (bad : HasUseOver s (Some g) vs) (rest : SideStood draws b vs other) where
      -- ---- one poll

      module _ (p : PlainPolled N) (id : ℕ) (label : List ℕ) (q : PlainPolled N) (packets : List SentPacket) (uses : List ChannelUse) (told : MessagesTold)
          (h : PollsPeer (plain_over draws) p (Ok (polled.Event (ChannelOpen id label))) q) (free : NotFull draws s p)
          (stood : Stood draws at packets b other uses sent told p) (goes : GoesOn p) where
        dcep : any_dcep (messages_of s g stood.side.written) ≡ true
        dcep = reads_written draws s g at packets b other uses vs sent told p stood rest (use_read draws s g b vs other rest bad)

        announced : IsNoneOver s g (announced_use (plain_over draws) id q)
        announced over unsettled =
            by (facts draws s g at b other sent c p id label q packets uses told h goes.lives goes.good stood free over)
          where
            by : (HasOwner c s p.core.channels.rows × HasOwner c s q.core.channels.rows)
                ⊎ (any_dcep (messages_of s g stood.side.written) ≡ false) → ⊥
            by (inl owner) =
                foreign
                (owner_unsettled c id s q.core.channels.rows
                (numbered draws s g at b other sent c p id label q packets uses told h goes.lives goes.good stood free).2 owner.1
                (row_over id s q.core.channels.rows
                (over_is draws s g at b other sent c p id label q packets uses told h goes.lives goes.good stood free over))
                unsettled)
            by (inr none) = true≢false (sym dcep ∙ none)

        fresh_none : AreNoneOver s g uses → AreNoneOver s g (uses ++ announced_use (plain_over draws) id q ∷ [])
        fresh_none none = all_more (IsNoneOver s g) uses (announced_use (plain_over draws) id q) none announced

      polled_none : (p : PlainPolled N) (answer : Result (Output PlainMediaEvent) RtcError) (q : PlainPolled N) (packets : List SentPacket)
          (uses : List ChannelUse) (told : MessagesTold) → PollsPeer (plain_over draws) p answer q → NotFull draws s p
          → Stood draws at packets b other uses sent told p → GoesOrEnded p → AreNoneOver s g uses → AreNoneOver s g (uses_answered (plain_over draws) answer q uses)
      polled_none p answer q packets uses told h free stood (inl closed) none =
          subst (λ (a : Result (Output PlainMediaEvent) RtcError). AreNoneOver s g (uses_answered (plain_over draws) a q uses))
          (sym (closed_stays (plain_over draws) p answer q closed h).0) none
      polled_none p answer q packets uses told h free stood (inr goes) none = by answer h
        where
          by : (answer : Result (Output PlainMediaEvent) RtcError) → PollsPeer (plain_over draws) p answer q
              → AreNoneOver s g (uses_answered (plain_over draws) answer q uses)
          by (Ok (polled.Event (ChannelOpen id label))) h = fresh_none p id label q packets uses told h free stood goes none
          by (Ok (polled.Event (ChannelData message))) h =
              all_got (IsNoneOver s g) (IsNoneOver s g) message.id (message.binary, message.bytes) uses (λ x e k. k) (λ x e k. k) none
          by (Ok (polled.Event event)) h = none
          by (Ok (polled.Transmit transmit)) h = none
          by (Ok (polled.Timeout moment)) h = none
          by (Err error) h = none

      -- the side of the association stays
      side_on : (p : PlainPolled N) (answer : Result (Output PlainMediaEvent) RtcError) (q : PlainPolled N) → PollsPeer (plain_over draws) p answer q
          → Lives draws at b other sent c p → (q.core.phase ≡ Closed → ⊥) → Lives draws at b other sent c q
      side_on p answer q h lives live = record { lives = live; side = λ started. by started (poll_rows (plain_over draws) (plain_over_laws draws) p answer q h).changed }
        where
          parts : KeepsParts (plain_over draws) p q
          parts =
              poll_stands (plain_over draws) (plain_over_laws draws).ice (plain_over_laws draws).media (plain_over_laws draws).association p answer q h

          before : plain_meaning.started q.core.sctp.association ≡ true → plain_meaning.started p.core.sctp.association ≡ true
          before started = sym (started_same plain_meaning p.core.sctp q.core.sctp parts.5) ∙ started

          by : plain_meaning.started q.core.sctp.association ≡ true
              → (q.core.phase ≡ Closed) ⊎ RowsChanged plain_meaning p.core.channels p.core.sctp q.core.channels q.core.sctp → q.core.sctp.client ≡ c
          by started (inl closed) = absurd (live closed)
          by started (inr changed) =
              (changed_side plain_meaning plain_laws p.core.channels p.core.sctp q.core.channels q.core.sctp changed).side (before started)
              ∙ lives.side (before started)

      polled_goes : (p : PlainPolled N) (answer : Result (Output PlainMediaEvent) RtcError) (q : PlainPolled N) → PollsPeer (plain_over draws) p answer q
          → GoesOrEnded p → GoesOrEnded q
      polled_goes p answer q h (inl closed) = inl (closed_stays (plain_over draws) p answer q closed h).1
      polled_goes p answer q h (inr goes) = by (closed_or_open q.core.phase)
        where
          by : (q.core.phase ≡ Closed) ⊎ (q.core.phase ≡ Closed → ⊥) → GoesOrEnded q
          by (inl closed) = inl closed
          by (inr live) =
              let lives = side_on p answer q h goes.lives live in
              inr (record { lives = lives; good = good_polled draws at b other sent c p answer q h lives goes.good })

      -- ---- one poll after the other

      once_none : (p : PlainPolled N) (packets : List SentPacket) (outputs : List (Shown PlainMediaEvent)) (end : PollEnd) (q : PlainPolled N)
          (packets' : List SentPacket) (uses : List ChannelUse) (told : MessagesTold) → PollsOnce (plain_over draws) at p packets outputs end q packets'
          → NotFull draws s p → Stood draws at packets b other uses sent told p → GoesOrEnded p → AreNoneOver s g uses
          → AreNoneOver s g (by_poll (plain_over draws) (uses_shown (plain_over draws)) outputs q uses)
      once_none p packets (Timeout moment reason ∷ []) Ended q packets' uses told h free stood goes none = none
      once_none p packets (Packet number len ∷ []) Ended q packets' uses told h free stood goes none = none
      once_none p packets (Event event ∷ []) Ended q packets' uses told h free stood goes none =
          polled_none p (Ok (polled.Event event)) q packets uses told h.0 free stood goes none
      once_none p packets [] (EndRefused error) q packets' uses told h free stood goes none = none
      once_none p packets outputs end q packets' uses told h free stood goes none = absurd h

      left_free : (p : PlainPolled N) (packets : List SentPacket) (outputs : List (Shown PlainMediaEvent)) (end : PollEnd) (q : PlainPolled N)
          (packets' : List SentPacket) → DrainsOn (plain_over draws) at p packets outputs end q packets' → NotFull draws s q → NotFull draws s p
      left_free p packets outputs end q packets' d free =
          full_before draws s p q
          (drains_on_keep (plain_over draws) (StepRows (plain_over draws)) (calls_rows (plain_over draws) (plain_over_laws draws)) at p packets outputs end q
          packets' d).given
          free

      drains_none : (p : PlainPolled N) (packets : List SentPacket) (outputs : List (Shown PlainMediaEvent)) (end : PollEnd) (q : PlainPolled N)
          (packets' : List SentPacket) (uses : List ChannelUse) (told : MessagesTold)
          (d : DrainsOn (plain_over draws) at p packets outputs end q packets') → NotFull draws s q → Stood draws at packets b other uses sent told p
          → GoesOrEnded p → AreNoneOver s g uses → AreNoneOver s g (by_polls (plain_over draws) (uses_shown (plain_over draws)) at p packets outputs end q packets' d uses)
      drains_none p packets [] end q packets' uses told d free stood goes none = none
      drains_none p packets (Timeout moment reason ∷ outputs) end q packets' uses told d free stood goes none = none
      drains_none p packets (Packet number len ∷ outputs) end q packets' uses told d free stood goes none =
          drains_none d.0 d.1 outputs end q packets' uses told d.3 free
          (shown_stood draws at b other sent packets (Packet number len) d.1 uses told p d.0 d.2 stood)
          (polled_goes p (Ok (polled.Transmit d.2.0)) d.0 d.2.1 goes) none
      drains_none p packets (Event event ∷ outputs) end q packets' uses told d free stood goes none =
          drains_none d.0 d.1 outputs end q packets' (uses_shown (plain_over draws) (Event event) d.0 uses)
          (told_shown (plain_over draws) (Event event) d.0 told) d.3 free
          (shown_stood draws at b other sent packets (Event event) d.1 uses told p d.0 d.2 stood)
          (polled_goes p (Ok (polled.Event event)) d.0 d.2.0 goes)
          (polled_none p (Ok (polled.Event event)) d.0 packets uses told d.2.0
          (left_free p packets (Event event ∷ outputs) end q packets' d free) stood goes none)

      drawn_none : (p : PlainPolled N) (packets : List SentPacket) (outputs : List (Shown PlainMediaEvent)) (end : PollEnd) (q : PlainPolled N)
          (packets' : List SentPacket) (uses : List ChannelUse) (told : MessagesTold)
          (d : DrainsPeer (plain_over draws) at p packets outputs end q packets') → NotFull draws s q → Stood draws at packets b other uses sent told p
          → GoesOrEnded p → AreNoneOver s g uses → AreNoneOver s g (by_drain (plain_over draws) (uses_shown (plain_over draws)) at p packets outputs end q packets' d uses)
      drawn_none p packets [] end q packets' uses told d free stood goes none = none
      drawn_none p packets (shown ∷ outputs) end q packets' uses told d free stood goes none =
          drains_none p packets (shown ∷ outputs) end q packets' uses told d free stood goes none

      pub poll_none : (old : PlainPolled N) (packets : List SentPacket) (outcome : Outcome PlainMediaEvent) (table : Option Table) (new : PlainPolled N)
          (packets' : List SentPacket) (uses : List ChannelUse) (told : MessagesTold)
          → StepPollsPeer (plain_over draws) (PollsOnce (plain_over draws) at old) old packets outcome table new packets' → NotFull draws s old
          → Stood draws at packets b other uses sent told old → GoesOrEnded old → AreNoneOver s g uses
          → AreNoneOver s g (by_poll_step (plain_over draws) (uses_shown (plain_over draws)) outcome new uses)
      poll_none old packets Alloc None new packets' uses told h free stood goes none = none
      poll_none old packets (Polled outputs end) (Some table) new packets' uses told h free stood goes none =
          once_none old packets outputs end new packets' uses told h.0 free stood goes none
      poll_none old packets outcome table new packets' uses told h free stood goes none = absurd h

      pub drain_none : (old : PlainPolled N) (packets : List SentPacket) (outcome : Outcome PlainMediaEvent) (table : Option Table) (new : PlainPolled N)
          (packets' : List SentPacket) (uses : List ChannelUse) (told : MessagesTold)
          (h : StepPollsPeer (plain_over draws) (DrainsPeer (plain_over draws) at old) old packets outcome table new packets') → NotFull draws s new
          → Stood draws at packets b other uses sent told old → GoesOrEnded old → AreNoneOver s g uses
          → AreNoneOver s g (by_drain_step (plain_over draws) (uses_shown (plain_over draws)) at old packets outcome table new packets' h uses)
      drain_none old packets Alloc None new packets' uses told h free stood goes none = none
      drain_none old packets (Polled outputs end) (Some table) new packets' uses told h free stood goes none =
          drawn_none old packets outputs end new packets' uses told h.0 free stood goes none
      drain_none old packets outcome table new packets' uses told h free stood goes none = absurd h

  -- ---- steps

  pub acts_none : (b : PeerActs) (other : PlainPolled N) (sent : Sent) (c : Bool) → (IsOfSide c s → ⊥) → (vs : List ChannelUse) → HasUseOver s (Some g) vs
      → SideStood draws b vs other
      → (stun : List ℕ → Bool) (far own : Addr) (step : Step) (old : PlainPolled N) (sdps : List Kept) (packets : List SentPacket)
      (outcome : Outcome PlainMediaEvent) (table : Option Table) (new : PlainPolled N) (sdps' : List Kept) (packets' : List SentPacket)
      (h : Acts (plain_over draws) stun far own step old sdps packets outcome table new sdps' packets') (uses : List ChannelUse) (told : MessagesTold)
      → NotFull draws s old → NotFull draws s new → Stood draws (side_of step) packets b other uses sent told old
      → GoesOrEnded (side_of step) b other sent c old → AreNoneOver s g uses
      → AreNoneOver s g (uses_acted (plain_over draws) stun far own step old sdps packets outcome table new sdps' packets' h uses)
  acts_none b other sent c foreign vs bad rest stun far own (Write at channel binary bytes) old sdps packets outcome table new sdps' packets' h uses told free left stood goes none =
      none_written s g channel binary bytes outcome uses none
  acts_none b other sent c foreign vs bad rest stun far own (Rollback at token) old sdps packets outcome table new sdps' packets' h uses told free left stood goes none =
      all_rolled (IsNoneOver s g) (IsNoneOver s g) old.core.channels.rows new.core.channels.rows uses (λ x e k. k) (λ x e k. k) none
  acts_none b other sent c foreign vs bad rest stun far own (Poll at) old sdps packets outcome table new sdps' packets' h uses told free left stood goes none =
      poll_none at b other sent c foreign vs bad rest old packets outcome table new packets' uses told h.0 free stood goes none
  acts_none b other sent c foreign vs bad rest stun far own (Drain at) old sdps packets outcome table new sdps' packets' h uses told free left stood goes none =
      drain_none at b other sent c foreign vs bad rest old packets outcome table new packets' uses told h.0 left stood goes none
  acts_none b other sent c foreign vs bad rest stun far own step old sdps packets outcome table new sdps' packets' h uses told free left stood goes none =
      none
