-- Steps of a side keep it that no channel is rolled back which it announced and that is not negotiated out-of-band, or that the side of a stream alone
-- announced one over a generation.
use Rattle.std.proofs.Common.{◌≡◌, ◌∙◌, ◌⊎◌, inl, inr, ◌<◌, ◌++◌, ◌∷◌, not, ◌&&◌, ℕ, Bool, true, false, true≢false, List, [], Option, Some, refl, sym, ap, subst, arith}
use Rattle.rtc_wire.specs.declared.addr.Addr.{Addr}
use Rattle.rtc_parts.specs.Draws.{Draws}
use Rattle.rtc_plain_media.specs.declared.plain_media_event.PlainMediaEvent.{PlainMediaEvent}
use Rattle.rtc_assoc_state.specs.PlainMeaning.{plain_meaning}
use Rattle.rtc_channels.specs.Channels.{AreBelow, Channels, has_channel}
use Rattle.rtc_peer_core.specs.declared.phase.Phase.TheVariants.{Closed}
use Rattle.rtc_peer_laws.specs.PeerActs.{PeerActs}
use Rattle.rtc_peer_laws.specs.RowsChanged.{RowsChanged}
use Rattle.rtc_run_history.specs.declared.kept.Kept.{Kept}
use Rattle.rtc_run_history.specs.declared.outcome.Outcome.{Outcome}
use Rattle.rtc_run_history.specs.declared.outcome.Outcome.TheVariants.{Wrote}
use Rattle.rtc_run_history.specs.declared.sent_packet.SentPacket.{SentPacket}
use Rattle.rtc_run_history.specs.declared.side.Side.{Side}
use Rattle.rtc_run_history.specs.declared.step.Step.{Step}
use Rattle.rtc_run_history.specs.declared.step.Step.TheVariants.{Poll, Drain, Write, Rollback}
use Rattle.rtc_run_history.specs.declared.table.Table.{Table}
use Rattle.rtc_run_history.specs.Native.{is_native}
use Rattle.rtc_run_history.specs.PairState.{held_token}
use Rattle.rtc_run_history.specs.Performs.{Acts}
use Rattle.rtc_run_history.specs.Sides.{same_side, side_of}
use Rattle.rtc_run_laws.specs.ChannelUses.{ChannelUse, loses_channel}
use Rattle.rtc_run_laws.specs.OwnOpenings.{IsOfSide}
use Rattle.rtc_run_laws.specs.PlainPairs.{PlainPolled, plain_over}
use Rattle.rtc_run_laws.specs.ToldMessages.{MessagesTold}
use Rattle.rtc_run_laws.specs.UsesOfRuns.{uses_acted, uses_written}
use Rattle.rtc_run_laws.proofs.AnnouncedStreams.{HasUseOver, over_rolled}
use Rattle.rtc_run_laws.proofs.ClosedUses.{written_over}
use Rattle.rtc_run_laws.proofs.LostChannels.{lost_so, rollback_cancels}
use Rattle.rtc_run_laws.proofs.NumberedTokens.{AreKeptSo, AreKeptWith, held_so, kept_with_map}
use Rattle.rtc_run_laws.proofs.NoneAnnounced.{AreNoneOver}
use Rattle.rtc_run_laws.proofs.OwnNegotiation.{IsAdded}
use Rattle.rtc_run_laws.proofs.OwnTokens.{acts_tokens}
use Rattle.rtc_run_laws.proofs.OwnerPolls.{IsSafe, OwnerKeeps, owner_polled}
use Rattle.rtc_run_laws.proofs.PolledUses.{IsGood, Lives, drain_step_go, poll_step_go}
use Rattle.rtc_run_laws.proofs.ReadOpenings.{NotFull}
use Rattle.rtc_run_laws.proofs.StandingSides.{Sent, SideStood, Stood}
use Rattle.rtc_run_laws.proofs.StepRows.{RowsCancelled, StepChanges, changes_given, rollback_rows}
use Rattle.rtc_run_laws.proofs.StepsExchange.{plain_over_laws}
use Rattle.rtc_run_laws.proofs.SureNumbers.{IsSureNumber, cancelled_sure, changed_sure, sure_stays}
use Rattle.rtc_run_laws.proofs.UseLists.{AllUses, all_kept, all_rolled, all_sent}

both_parts : (a b : Bool) → (a && b) ≡ true → (a ≡ true) × (b ≡ true)
both_parts true b h = (refl, h)
both_parts false b h = absurd (true≢false (sym h))

not_true : (b : Bool) → not b ≡ true → b ≡ false
not_true true h = absurd (true≢false (sym h))
not_true false h = refl

written_all : (P Q : ChannelUse → Type 0) (channel : ℕ) (binary : Bool) (bytes : List ℕ) (outcome : Outcome PlainMediaEvent) (uses : List ChannelUse)
    → ((x : ChannelUse) → P x → Q x) → ((x : ChannelUse) → Q x → Q (record x { sent = x.sent ++ (binary, bytes) ∷ [] })) → AllUses P uses
    → AllUses Q (uses_written channel binary bytes outcome uses)
written_all P Q channel binary bytes (Wrote true) uses f k h =
    all_sent P Q channel (binary, bytes) uses (λ x e p. k x (f x p)) (λ x e p. f x p) h
written_all P Q channel binary bytes outcome uses f k h = all_kept P Q uses f h

module _ {N : Type 0} (draws : Draws N) (s g : ℕ) (b : PeerActs) (other : PlainPolled N) (sent : Sent) (c : Bool) where
  abbrev pub Held : (at : Side) (sdps : List Kept) (p : PlainPolled N) (uses vs : List ChannelUse) → Type 0
  Held at sdps p uses vs =
      AllUses (IsSafe draws s g at b other sent c sdps p) uses ⊎ (IsOfSide c s × HasUseOver s (Some g) uses × AreNoneOver s g vs)

  pub sure_step : (n : ℕ) (p q : PlainPolled N) → StepChanges (plain_over draws) p q → (q.core.phase ≡ Closed → ⊥) → IsSureNumber n p.core.channels
      → IsSureNumber n q.core.channels
  sure_step n p q (inr h) lives sure =
      subst (λ (x : Channels). IsSureNumber n x) (sym h.cancelled) (cancelled_sure n h.channels p.core.channels sure)
  sure_step n p q (inl h) lives sure = by h.changed
    where
      by : (q.core.phase ≡ Closed) ⊎ RowsChanged plain_meaning p.core.channels p.core.sctp q.core.channels q.core.sctp → IsSureNumber n q.core.channels
      by (inl closed) = absurd (lives closed)
      by (inr changed) = changed_sure n plain_meaning p.core.channels p.core.sctp q.core.channels q.core.sctp changed sure

  module _ (stun : List ℕ → Bool) (far own : Addr) (step : Step) (old : PlainPolled N) (sdps : List Kept) (packets : List SentPacket)
      (outcome : Outcome PlainMediaEvent) (table : Option Table) (new : PlainPolled N) (sdps' : List Kept) (packets' : List SentPacket)
      (go : is_native step ≡ true)
      (h : Acts (plain_over draws) stun far own step old sdps packets outcome table new sdps' packets') where
    -- of either side: tokens that are new have other numbers
    pub apart_step : (at : Side) (n : ℕ) → (same_side (side_of step) at ≡ true → n < old.core.channels.given)
        → (same_side (side_of step) at ≡ true → AreBelow old.core.channels.given old.core.channels.rows) → AreKeptSo at (λ k. k ≡ n → ⊥) sdps → AreKeptSo at (λ k. k ≡ n → ⊥) sdps'
    apart_step at n low below k =
        acts_tokens (plain_over draws) (plain_over_laws draws) c at (λ i config. i ≡ n → ⊥) stun far own step old sdps packets outcome table new sdps' packets' go
        h (λ e i config is up same. let less = low e in omega (arith, less, up, same)) below k

    module _ (lives : Lives draws (side_of step) b other sent c new) (good : IsGood draws (side_of step) b other sent c old) (uses : List ChannelUse)
        (told : MessagesTold) (stood : Stood draws (side_of step) packets b other uses sent told old)
        (tokens : AreKeptWith (side_of step) (IsAdded (plain_over draws) c old.core) sdps) (vs : List ChannelUse) (rest : SideStood draws b vs other)
        (free : NotFull draws s new) (rows : StepChanges (plain_over draws) old new) where
      safe_step : (x : ChannelUse) → IsSafe draws s g (side_of step) b other sent c sdps old x → IsSafe draws s g (side_of step) b other sent c sdps' new x
      safe_step x safe = λ in_band stream generation kind. ((safe in_band stream generation kind).0, by (safe in_band stream generation kind).1)
        where
          by : IsSureNumber x.channel old.core.channels
              ⊎ ((x.channel < old.core.channels.given) × AreKeptSo (side_of step) (λ k. k ≡ x.channel → ⊥) sdps)
              → IsSureNumber x.channel new.core.channels
              ⊎ ((x.channel < new.core.channels.given) × AreKeptSo (side_of step) (λ k. k ≡ x.channel → ⊥) sdps')
          by (inl sure) = inl (sure_step x.channel old new rows lives.lives sure)
          by (inr apart) =
              let up = changes_given (plain_over draws) old new rows in
              let low = apart.0 in
              inr (
                omega (arith, low, up),
                apart_step (side_of step) x.channel (λ e. low) (λ e. stood.side.told.numbers.1) apart.1,
              )

      safe_all : AllUses (IsSafe draws s g (side_of step) b other sent c sdps old) uses → AllUses (IsSafe draws s g (side_of step) b other sent c sdps' new) uses
      safe_all k = all_kept (IsSafe draws s g (side_of step) b other sent c sdps old) (IsSafe draws s g (side_of step) b other sent c sdps' new) uses safe_step k

  owner_polls : (at : Side) (old : PlainPolled N) (sdps : List Kept) (new : PlainPolled N) (sdps' : List Kept) (uses uses' vs : List ChannelUse)
      → sdps' ≡ sdps → AreKeptWith at (IsAdded (plain_over draws) c old.core) sdps → (rest : SideStood draws b vs other) → NotFull draws s new
      → ((tokens : AreKeptSo at (λ k. k < old.core.channels.given) sdps)
      → OwnerKeeps draws s g at b other sent c sdps old.core.channels.given tokens vs rest old uses
      → OwnerKeeps draws s g at b other sent c sdps old.core.channels.given tokens vs rest new uses')
      → Held at sdps old uses vs → Held at sdps' new uses' vs
  owner_polls at old sdps new sdps' uses uses' vs is tokens rest free step held =
      subst (λ (l : List Kept). Held at l new uses' vs) (sym is)
      (step
      (kept_with_map at (IsAdded (plain_over draws) c old.core) (λ n config. n < old.core.channels.given) sdps (λ n config k. k.below) tokens)
      (λ f. (omega arith, tokens, held)) free).2

  pub owner_acted : (stun : List ℕ → Bool) (far own : Addr) (step : Step) (old : PlainPolled N) (sdps : List Kept) (packets : List SentPacket)
      (outcome : Outcome PlainMediaEvent) (table : Option Table) (new : PlainPolled N) (sdps' : List Kept) (packets' : List SentPacket)
      (go : is_native step ≡ true)
      (h : Acts (plain_over draws) stun far own step old sdps packets outcome table new sdps' packets')
      → Lives draws (side_of step) b other sent c new → IsGood draws (side_of step) b other sent c old → (uses : List ChannelUse)
      (told : MessagesTold) → Stood draws (side_of step) packets b other uses sent told old
      → AreKeptWith (side_of step) (IsAdded (plain_over draws) c old.core) sdps → (vs : List ChannelUse) → SideStood draws b vs other
      → NotFull draws s new → StepChanges (plain_over draws) old new → Held (side_of step) sdps old uses vs
      → Held (side_of step) sdps' new (uses_acted (plain_over draws) stun far own step old sdps packets outcome table new sdps' packets' h uses) vs
  owner_acted stun far own (Poll at) old sdps packets outcome table new sdps' packets' go h lives good uses told stood tokens vs rest free rows held =
      owner_polls at old sdps new sdps' uses _ vs h.1 tokens rest free
      (λ below k.
      poll_step_go draws at b other sent c (OwnerKeeps draws s g at b other sent c sdps old.core.channels.given below vs rest)
      (owner_polled draws s g at b other sent c sdps old.core.channels.given below vs rest) old packets outcome table new packets' uses told h.0 lives good
      stood k)
      held
  owner_acted stun far own (Drain at) old sdps packets outcome table new sdps' packets' go h lives good uses told stood tokens vs rest free rows held =
      owner_polls at old sdps new sdps' uses _ vs h.1 tokens rest free
      (λ below k.
      drain_step_go draws at b other sent c (OwnerKeeps draws s g at b other sent c sdps old.core.channels.given below vs rest)
      (owner_polled draws s g at b other sent c sdps old.core.channels.given below vs rest) old packets outcome table new packets' uses told h.0 lives good
      stood k)
      held
  owner_acted stun far own (Write at channel binary bytes) old sdps packets outcome table new sdps' packets' go h lives good uses told stood tokens vs rest free rows (inl safe) =
      inl
      (written_all (IsSafe draws s g at b other sent c sdps old) (IsSafe draws s g at b other sent c sdps' new) channel binary bytes outcome uses
      (safe_step stun far own (Write at channel binary bytes) old sdps packets outcome table new sdps' packets' go h lives good uses told stood tokens vs
      rest free rows)
      (λ x k. k) safe)
  owner_acted stun far own (Write at channel binary bytes) old sdps packets outcome table new sdps' packets' go h lives good uses told stood tokens vs rest free rows (inr bad) =
      inr (bad.0, written_over s (Some g) channel binary bytes outcome uses bad.1, bad.2)
  owner_acted stun far own (Rollback at token) old sdps packets outcome table new sdps' packets' go h lives good uses told stood tokens vs rest free rows (inr bad) =
      inr (bad.0, over_rolled s (Some g) old.core.channels.rows new.core.channels.rows uses bad.1, bad.2)
  owner_acted stun far own (Rollback at token) old sdps packets outcome table new sdps' packets' go h lives good uses told stood tokens vs rest free rows (inl safe) =
      inl
      (all_rolled (IsSafe draws s g at b other sent c sdps old) (IsSafe draws s g at b other sent c sdps' new) old.core.channels.rows new.core.channels.rows
      uses (λ x lost k. λ in_band stream generation kind. absurd (lose x lost (k in_band stream generation kind).1))
      (λ x left k.
      safe_step stun far own (Rollback at token) old sdps packets outcome table new sdps' packets' go h lives good uses told stood tokens vs rest free
      rows x k)
      safe)
    where
      cancels : RowsCancelled (plain_over draws) old new
      cancels = rollback_rows (plain_over draws) token (held_token sdps at token) old sdps outcome table new sdps' h.0

      lose : (x : ChannelUse) → loses_channel x.channel old.core.channels.rows new.core.channels.rows ≡ true
          → IsSureNumber x.channel old.core.channels
          ⊎ ((x.channel < old.core.channels.given) × AreKeptSo at (λ k. k ≡ x.channel → ⊥) sdps) → ⊥
      lose x lost (inl sure) =
          let two = both_parts (has_channel x.channel old.core.channels.rows) (not (has_channel x.channel new.core.channels.rows)) lost in
          true≢false
          (sym (sure_stays x.channel cancels.channels old.core.channels sure two.0)
          ∙ ap (λ (y : Channels). has_channel x.channel y.rows) (sym cancels.cancelled)
          ∙ not_true (has_channel x.channel new.core.channels.rows) two.1)
      lose x lost (inr apart) =
          lost_so (plain_over draws) (λ k. k ≡ x.channel → ⊥) x.channel old new
          (rollback_cancels (plain_over draws) (λ k. k ≡ x.channel → ⊥) token (held_token sdps at token) old sdps outcome table new sdps' h.0
          (held_so at (λ k. k ≡ x.channel → ⊥) sdps token apart.1))
          lost refl
  owner_acted stun far own step old sdps packets outcome table new sdps' packets' go h lives good uses told stood tokens vs rest free rows (inl safe) =
      inl
      (safe_all stun far own step old sdps packets outcome table new sdps' packets' go h lives good uses told stood tokens vs rest free rows safe)
  owner_acted stun far own step old sdps packets outcome table new sdps' packets' go h lives good uses told stood tokens vs rest free rows (inr bad) =
      inr bad
