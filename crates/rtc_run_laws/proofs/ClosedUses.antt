-- A step that closes a peer rolls no channel back, and over a peer that is closed nothing is sent: so what was sent over a channel that its side announced
-- stays all that the side ever sent to the generation, also if a rollback removes it then.
use Rattle.std.proofs.Common.{◌≡◌, ◌∙◌, ◌⊎◌, inl, inr, ℕ, Bool, true, false, List, [], ◌∷◌, Option, Some, None, Ok, refl, sym}
use Rattle.rtc_wire.specs.declared.addr.Addr.{Addr}
use Rattle.rtc_parts.specs.Among.{Member}
use Rattle.rtc_parts.specs.Draws.{Draws}
use Rattle.rtc_plain_media.specs.declared.plain_media_event.PlainMediaEvent.{PlainMediaEvent}
use Rattle.rtc_peer_core.specs.declared.phase.Phase.{Phase}
use Rattle.rtc_peer_core.specs.declared.phase.Phase.TheVariants.{Alive, Closing, Closed}
use Rattle.rtc_peer_transport.specs.ChannelCalls.{open_stream_under}
use Rattle.rtc_peer_transport.specs.declared.event.Event.{Event}
use Rattle.rtc_peer_transport.specs.declared.event.Event.TheVariants.{ChannelData, ChannelOpen}
use Rattle.rtc_peer_transport.specs.declared.output.Output.TheVariants as outputs
use Rattle.rtc_run_history.specs.CallReplies.{StepWrites}
use Rattle.rtc_run_history.specs.declared.kept.Kept.{Kept}
use Rattle.rtc_run_history.specs.declared.outcome.Outcome.{Outcome}
use Rattle.rtc_run_history.specs.declared.outcome.Outcome.TheVariants.{Alloc, NoSuch, Wrote}
use Rattle.rtc_run_history.specs.declared.sent_packet.SentPacket.{SentPacket}
use Rattle.rtc_run_history.specs.declared.step.Step.{Step}
use Rattle.rtc_run_history.specs.declared.step.Step.TheVariants.{Drain, Poll, Rollback, Write}
use Rattle.rtc_run_history.specs.declared.table.Table.{Table}
use Rattle.rtc_run_history.specs.PairState.{held_token}
use Rattle.rtc_run_history.specs.Performs.{Acts}
use Rattle.rtc_run_laws.specs.ChannelUses.{ChannelUse, announced_use, uses_told}
use Rattle.rtc_run_laws.specs.OwnOpenings.{IsOfSide}
use Rattle.rtc_run_laws.specs.PlainPairs.{PlainPolled, plain_over}
use Rattle.rtc_run_laws.specs.SentMessages.{sent_acted, sent_by_write}
use Rattle.rtc_run_laws.specs.UsesOfRuns.{uses_acted, uses_written}
use Rattle.rtc_run_laws.proofs.AnnouncedStreams.{HasUseOver, over_answered, over_rolled, over_sent}
use Rattle.rtc_run_laws.proofs.OpenStreams.{open_free}
use Rattle.rtc_run_laws.proofs.StepRows.{RowsCancelled, rollback_rows}
use Rattle.rtc_run_laws.proofs.UseLists.{AllUses, all_got, all_more, all_rolled, all_sent}
use Rattle.rtc_run_laws.proofs.UseWalks.{drain_step_on, poll_step_on}

pub closed_or_open : (phase : Phase) → (phase ≡ Closed) ⊎ (phase ≡ Closed → ⊥)
closed_or_open Alive = inr (λ e. let clash : Alive ≡ Closed = e in cc)
closed_or_open Closing = inr (λ e. let clash : Closing ≡ Closed = e in cc)
closed_or_open Closed = inl refl

-- A channel that was announced over a generation was not rolled back, if the stream is of this side or the channel is not negotiated out-of-band.
abbrev pub IsUnrolled : (s g : ℕ) (c : Bool) → ChannelUse → Type 0
IsUnrolled s g c x =
    x.in_band ≡ true → x.stream ≡ Some s → x.generation ≡ g → IsOfSide c s ⊎ (x.negotiated ≡ false) → x.rolled_back ≡ false

-- or this is what was sent over it
abbrev pub IsWhole : (s g : ℕ) (c : Bool) (sent : List (Bool × List ℕ)) → ChannelUse → Type 0
IsWhole s g c sent x =
    x.in_band ≡ true
    → x.stream ≡ Some s
    → x.generation ≡ g
    → IsOfSide c s ⊎ (x.negotiated ≡ false)
    → (x.rolled_back ≡ false) ⊎ (sent ≡ x.sent)

-- this is what was sent over it
abbrev pub WasSent : (s g : ℕ) (c : Bool) (sent : List (Bool × List ℕ)) → ChannelUse → Type 0
WasSent s g c sent x = x.in_band ≡ true → x.stream ≡ Some s → x.generation ≡ g → IsOfSide c s ⊎ (x.negotiated ≡ false) → sent ≡ x.sent

pub members_kept : (P Q : ChannelUse → Type 0) (uses : List ChannelUse) → ((x : ChannelUse) → Member x uses → P x → Q x) → AllUses P uses → AllUses Q uses
members_kept P Q [] keeps h = tt
members_kept P Q (x ∷ uses) keeps h = (keeps x (inl refl) h.0, members_kept P Q uses (λ y there. keeps y (inr there)) h.1)

some_none : (t : ℕ) → Some t ≡ None → ⊥
some_none t h = cc

pub written_over : (s : ℕ) (own : Option ℕ) (channel : ℕ) (binary : Bool) (bytes : List ℕ) (outcome : Outcome PlainMediaEvent) (uses : List ChannelUse)
    → HasUseOver s own uses → HasUseOver s own (uses_written channel binary bytes outcome uses)
written_over s own channel binary bytes (Wrote true) uses h = over_sent s own channel (binary, bytes) uses h
written_over s own channel binary bytes outcome uses h = h

module _ {N : Type 0} (draws : Draws N) (s g : ℕ) (c : Bool) where
  -- ---- a step that closes the peer

  unrolled_told : (event : Event PlainMediaEvent) (q : PlainPolled N) (uses : List ChannelUse) → AllUses (IsUnrolled s g c) uses
      → AllUses (IsUnrolled s g c) (uses_told (plain_over draws) event q uses)
  unrolled_told (ChannelOpen id label) q uses h =
      all_more (IsUnrolled s g c) uses (announced_use (plain_over draws) id q) h (λ band of own kind. refl)
  unrolled_told (ChannelData message) q uses h =
      all_got (IsUnrolled s g c) (IsUnrolled s g c) message.id (message.binary, message.bytes) uses (λ x e k. k) (λ x e k. k) h
  unrolled_told event q uses h = h

  written_unrolled : (channel : ℕ) (binary : Bool) (bytes : List ℕ) (outcome : Outcome PlainMediaEvent) (uses : List ChannelUse)
      → AllUses (IsUnrolled s g c) uses → AllUses (IsUnrolled s g c) (uses_written channel binary bytes outcome uses)
  written_unrolled channel binary bytes (Wrote true) uses h =
      all_sent (IsUnrolled s g c) (IsUnrolled s g c) channel (binary, bytes) uses (λ x e k. k) (λ x e k. k) h
  written_unrolled channel binary bytes outcome uses h = h

  pub closing_uses : (stun : List ℕ → Bool) (far own : Addr) (step : Step) (old : PlainPolled N) (sdps : List Kept) (packets : List SentPacket)
      (outcome : Outcome PlainMediaEvent) (table : Option Table) (new : PlainPolled N) (sdps' : List Kept) (packets' : List SentPacket)
      (h : Acts (plain_over draws) stun far own step old sdps packets outcome table new sdps' packets') → (old.core.phase ≡ Closed → ⊥)
      → new.core.phase ≡ Closed → (uses : List ChannelUse) → AllUses (IsUnrolled s g c) uses
      → AllUses (IsUnrolled s g c) (uses_acted (plain_over draws) stun far own step old sdps packets outcome table new sdps' packets' h uses)
  closing_uses stun far own (Write at channel binary bytes) old sdps packets outcome table new sdps' packets' h lives closed uses k =
      written_unrolled channel binary bytes outcome uses k
  closing_uses stun far own (Rollback at token) old sdps packets outcome table new sdps' packets' h lives closed uses k =
      let cancels : RowsCancelled (plain_over draws) old new =
      rollback_rows (plain_over draws) token (held_token sdps at token) old sdps outcome table new sdps' h.0 in
      absurd (lives (sym cancels.phase ∙ closed))
  closing_uses stun far own (Poll at) old sdps packets outcome table new sdps' packets' h lives closed uses k =
      poll_step_on (plain_over draws) (AllUses (IsUnrolled s g c)) unrolled_told outcome new uses k
  closing_uses stun far own (Drain at) old sdps packets outcome table new sdps' packets' h lives closed uses k =
      drain_step_on (plain_over draws) (AllUses (IsUnrolled s g c)) unrolled_told at old packets outcome table new packets' h.0 uses k
  closing_uses stun far own step old sdps packets outcome table new sdps' packets' h lives closed uses k = k

  -- ---- a peer that is closed

  whole_told : (sent : List (Bool × List ℕ)) (event : Event PlainMediaEvent) (q : PlainPolled N) (uses : List ChannelUse)
      → AllUses (IsWhole s g c sent) uses → AllUses (IsWhole s g c sent) (uses_told (plain_over draws) event q uses)
  whole_told sent (ChannelOpen id label) q uses h =
      all_more (IsWhole s g c sent) uses (announced_use (plain_over draws) id q) h (λ band of own kind. inl refl)
  whole_told sent (ChannelData message) q uses h =
      all_got (IsWhole s g c sent) (IsWhole s g c sent) message.id (message.binary, message.bytes) uses (λ x e k. k) (λ x e k. k) h
  whole_told sent event q uses h = h

  closed_none : (channel : ℕ) (old : PlainPolled N) → old.core.phase ≡ Closed → open_stream_under channel old ≡ None
  closed_none channel old closed = by (open_stream_under channel old) refl
    where
      by : (o : Option ℕ) → open_stream_under channel old ≡ o → o ≡ None
      by None e = refl
      by (Some t) e = absurd (open_free channel t old e closed)

  none_written : (o : Option ℕ) → o ≡ None → (channel : ℕ) (binary : Bool) (bytes : List ℕ) (old : PlainPolled N) (outcome : Outcome PlainMediaEvent)
      (table : Option Table) (new : PlainPolled N) → StepWrites (plain_over draws) o binary bytes old outcome table new → (uses : List ChannelUse)
      (sent : List (Bool × List ℕ)) → AllUses (IsWhole s g c sent) uses
      → AllUses (IsWhole s g c (sent_by_write (plain_over draws) o binary bytes outcome old s g sent)) (uses_written channel binary bytes outcome uses)
  none_written None e channel binary bytes old Alloc None new h uses sent k = k
  none_written None e channel binary bytes old NoSuch (Some table) new h uses sent k = k
  none_written None e channel binary bytes old outcome table new h uses sent k = absurd h
  none_written (Some t) e channel binary bytes old outcome table new h uses sent k = absurd (some_none t e)

  pub closed_uses : (stun : List ℕ → Bool) (far own : Addr) (step : Step) (old : PlainPolled N) (sdps : List Kept) (packets : List SentPacket)
      (outcome : Outcome PlainMediaEvent) (table : Option Table) (new : PlainPolled N) (sdps' : List Kept) (packets' : List SentPacket)
      (h : Acts (plain_over draws) stun far own step old sdps packets outcome table new sdps' packets') → old.core.phase ≡ Closed
      → (uses : List ChannelUse) (sent : List (Bool × List ℕ))
      → ((x : ChannelUse) → Member x uses → x.in_band ≡ true → x.rolled_back ≡ false → x.stream ≡ Some s → x.generation ≡ g → sent ≡ x.sent)
      → AllUses (IsWhole s g c sent) uses
      → AllUses (IsWhole s g c (sent_acted (plain_over draws) step outcome old s g sent))
      (uses_acted (plain_over draws) stun far own step old sdps packets outcome table new sdps' packets' h uses)
  closed_uses stun far own (Write at channel binary bytes) old sdps packets outcome table new sdps' packets' h closed uses sent whole k =
      none_written (open_stream_under channel old) (closed_none channel old closed) channel binary bytes old outcome table new h.0 uses sent k
  closed_uses stun far own (Rollback at token) old sdps packets outcome table new sdps' packets' h closed uses sent whole k =
      all_rolled (WasSent s g c sent) (IsWhole s g c sent) old.core.channels.rows new.core.channels.rows uses
      (λ x lost was. λ band of own kind. inr (was band of own kind)) (λ x left was. λ band of own kind. inr (was band of own kind))
      (members_kept (IsWhole s g c sent) (WasSent s g c sent) uses (λ x mine is. λ band of own kind. by x mine band of own (is band of own kind)) k)
    where
      by : (x : ChannelUse) → Member x uses → x.in_band ≡ true → x.stream ≡ Some s → x.generation ≡ g → (x.rolled_back ≡ false) ⊎ (sent ≡ x.sent)
          → sent ≡ x.sent
      by x mine band of own (inl unrolled) = whole x mine band unrolled of own
      by x mine band of own (inr is) = is
  closed_uses stun far own (Poll at) old sdps packets outcome table new sdps' packets' h closed uses sent whole k =
      poll_step_on (plain_over draws) (AllUses (IsWhole s g c sent)) (whole_told sent) outcome new uses k
  closed_uses stun far own (Drain at) old sdps packets outcome table new sdps' packets' h closed uses sent whole k =
      drain_step_on (plain_over draws) (AllUses (IsWhole s g c sent)) (whole_told sent) at old packets outcome table new packets' h.0 uses k
  closed_uses stun far own step old sdps packets outcome table new sdps' packets' h closed uses sent whole k = k

  -- ---- any peer: what was announced stays so

  over_told : (event : Event PlainMediaEvent) (q : PlainPolled N) (uses : List ChannelUse) → HasUseOver s (Some g) uses
      → HasUseOver s (Some g) (uses_told (plain_over draws) event q uses)
  over_told event q uses h = over_answered (plain_over draws) (Ok (outputs.Event event)) q uses s (Some g) h

  pub over_acted : (stun : List ℕ → Bool) (far own : Addr) (step : Step) (old : PlainPolled N) (sdps : List Kept) (packets : List SentPacket)
      (outcome : Outcome PlainMediaEvent) (table : Option Table) (new : PlainPolled N) (sdps' : List Kept) (packets' : List SentPacket)
      (h : Acts (plain_over draws) stun far own step old sdps packets outcome table new sdps' packets') (uses : List ChannelUse)
      → HasUseOver s (Some g) uses
      → HasUseOver s (Some g) (uses_acted (plain_over draws) stun far own step old sdps packets outcome table new sdps' packets' h uses)
  over_acted stun far own (Write at channel binary bytes) old sdps packets outcome table new sdps' packets' h uses k =
      written_over s (Some g) channel binary bytes outcome uses k
  over_acted stun far own (Rollback at token) old sdps packets outcome table new sdps' packets' h uses k =
      over_rolled s (Some g) old.core.channels.rows new.core.channels.rows uses k
  over_acted stun far own (Poll at) old sdps packets outcome table new sdps' packets' h uses k =
      poll_step_on (plain_over draws) (HasUseOver s (Some g)) over_told outcome new uses k
  over_acted stun far own (Drain at) old sdps packets outcome table new sdps' packets' h uses k =
      drain_step_on (plain_over draws) (HasUseOver s (Some g)) over_told at old packets outcome table new packets' h.0 uses k
  over_acted stun far own step old sdps packets outcome table new sdps' packets' h uses k = k
