-- In a run the channels that a token of a side adds are settled as they were added, and none has a stream of the other side unless it was settled for it by
-- other means than messages.
use Rattle.std.proofs.Common.{◌≡◌, ◌≤◌, arith, ◌∙◌, ◌⊎◌, inl, inr, ◌&&◌, not, ℕ, Bool, true, false, true≢false, List, [], ◌∷◌, Option, Some, None, refl, sym, ap, subst}
use Rattle.rtc_wire.specs.declared.addr.Addr.{Addr}
use Rattle.rtc_wire.specs.declared.channel_config.ChannelConfig.{ChannelConfig}
use Rattle.rtc_channels.specs.Channels.{AreBelow, Channels}
use Rattle.rtc_change.specs.PendingOffer.{PendingOffer}
use Rattle.rtc_peer_core.specs.declared.phase.Phase.TheVariants.{Closed}
use Rattle.rtc_peer_core.specs.Meanings.{Meanings, PartsLaws}
use Rattle.rtc_peer_transport.specs.declared.polled_peer.PolledPeer.{PolledPeer}
use Rattle.rtc_peer_laws.specs.RowsChanged.{RowsChanged}
use Rattle.rtc_run_history.specs.declared.kept.Kept.{Kept}
use Rattle.rtc_run_history.specs.declared.op.Op.{Op}
use Rattle.rtc_run_history.specs.declared.outcome.Outcome.{Outcome}
use Rattle.rtc_run_history.specs.declared.outcome.Outcome.TheVariants.{Negotiated, Answered, Finished, Done, Refused, NoSuch, Alloc}
use Rattle.rtc_run_history.specs.declared.sent_packet.SentPacket.{SentPacket}
use Rattle.rtc_run_history.specs.declared.side.Side.{Side}
use Rattle.rtc_run_history.specs.declared.side.Side.TheVariants.{Left, Right}
use Rattle.rtc_run_history.specs.declared.step.Step.{Step}
use Rattle.rtc_run_history.specs.declared.step.Step.TheVariants.{Negotiate, AcceptOffer, AcceptAnswer, Time, Datagram, Poll, Drain}
use Rattle.rtc_run_history.specs.declared.step.Step.TheVariants.{Write, CloseChannel, Close, Rollback, ForeignOffer, ForeignAnswer, Raw}
use Rattle.rtc_run_history.specs.declared.table.Table.{Table}
use Rattle.rtc_run_history.specs.Memory.{answers_lack}
use Rattle.rtc_run_history.specs.Native.{are_native, is_native}
use Rattle.rtc_run_history.specs.PairState.{PairState, addr_at, held_token, kept_remote_sdp, rtc_at}
use Rattle.rtc_run_history.specs.Past.{Entry, steps_of}
use Rattle.rtc_run_history.specs.Performs.{Acts, Negotiates, StepAcceptsAnswer, StepAcceptsOffer, StepRollsBack, kept_answer, lent}
use Rattle.rtc_run_history.specs.Runs.{Reached}
use Rattle.rtc_run_history.specs.Sides.{other_side, same_side, side_of}
use Rattle.rtc_run_history.specs.Signalled.{Signalled, NotMade, Unreadable, Readable}
use Rattle.rtc_run_laws.proofs.ConfirmedRuns.{SideSound, last_rows, run_sound}
use Rattle.rtc_run_laws.proofs.NativeSteps.{native_entry}
use Rattle.rtc_run_laws.proofs.NumberedTokens.{AreKeptWith, kept_more, kept_with_map, numbers_both, numbers_map, spent_so}
use Rattle.rtc_run_laws.proofs.OwnNegotiation.{IsAdded, makes_numbers, makes_tokens, ops_go}
use Rattle.rtc_run_laws.proofs.OwnNumbers.{IsAddedNumber, cancelled_added, changed_added}
use Rattle.rtc_run_laws.proofs.OwnedRuns.{LivesOnSide, lived_before}
use Rattle.rtc_run_laws.proofs.StepRows.{StepChanges}

module _ {I D S M E X T W N : Type 0} (m : Meanings I D S M E X T W N) (laws : PartsLaws m) (c : Bool) where
  -- ---- a number stays of this side

  pub step_number : (n : ℕ) (config : ChannelConfig) (p q : PolledPeer I D S M N) → StepChanges m p q → LivesOnSide m laws c q
      → IsAdded m c p.core n config → IsAdded m c q.core n config
  step_number n config p q (inr h) after own =
      subst (λ (x : Channels). IsAddedNumber c n config x) (sym h.cancelled) (cancelled_added c n config h.channels p.core.channels own)
  step_number n config p q (inl h) after own = by h.changed
    where
      by : (q.core.phase ≡ Closed) ⊎ RowsChanged m.association p.core.channels p.core.sctp q.core.channels q.core.sctp → IsAdded m c q.core n config
      by (inl closed) = absurd (after.lives closed)
      by (inr changed) =
          changed_added c n config m.association laws.association p.core.channels p.core.sctp q.core.channels q.core.sctp changed after.side own

  -- ---- the tokens that a step leaves to a side

  module _ (x : Side) (P : ℕ → ChannelConfig → Type 0) where
    same : (sdps sdps' : List Kept) → sdps' ≡ sdps → AreKeptWith x P sdps → AreKeptWith x P sdps'
    same sdps sdps' is h = subst (λ (l : List Kept). AreKeptWith x P l) (sym is) h

    negotiates_tokens : (at : Side) (ops : List Op) (apply : Bool) (old : PolledPeer I D S M N) (sdps : List Kept) (outcome : Outcome E)
        (table : Option Table) (new : PolledPeer I D S M N) (sdps' : List Kept)
        → Negotiates m at ops apply old.core sdps outcome table new.core sdps'
        → (same_side at x ≡ true → (n : ℕ) (config : ChannelConfig) → IsAdded m c new.core n config → old.core.channels.given ≤ n → P n config)
        → (same_side at x ≡ true → AreBelow old.core.channels.given old.core.channels.rows) → AreKeptWith x P sdps → AreKeptWith x P sdps'
    negotiates_tokens at ops apply old sdps Alloc None new sdps' h so below k = same sdps sdps' h.sdps_kept k
    negotiates_tokens at ops apply old sdps (Negotiated answers made) (Some table) new sdps' h so below k =
        let went = ops_go m c (lent old.core) ops answers h.0 h.1 in
        makes_tokens m c (apply && not (answers_lack answers)) at h.0 sdps made new.core sdps' h.2 x P
        (λ e.
        numbers_map (λ n config. IsAdded m c h.0 n config × (old.core.channels.given ≤ n)) P h.0.staged
        (λ n config both.
        so e n config (makes_numbers m c (apply && not (answers_lack answers)) at h.0 sdps made new.core sdps' h.2 n config both.0) both.1)
        (numbers_both (IsAdded m c h.0) (λ n config. old.core.channels.given ≤ n) h.0.staged (went.staged (below e) tt)
        (went.least old.core.channels.given (omega arith) tt)))
        k
    negotiates_tokens at ops apply old sdps outcome table new sdps' h so below k = absurd h

    offer_tokens : (at : Side) (offer : Signalled) (old : PolledPeer I D S M N) (sdps : List Kept) (outcome : Outcome E) (table : Option Table)
        (new : PolledPeer I D S M N) (sdps' : List Kept) → StepAcceptsOffer m at offer old.core sdps outcome table new.core sdps'
        → AreKeptWith x P sdps → AreKeptWith x P sdps'
    offer_tokens at NotMade old sdps Alloc None new sdps' h k = same sdps sdps' h.sdps_kept k
    offer_tokens at (Unreadable line) old sdps Alloc None new sdps' h k = same sdps sdps' h.sdps_kept k
    offer_tokens at (Readable sdp) old sdps Alloc None new sdps' h k = same sdps sdps' h.sdps_kept k
    offer_tokens at NotMade old sdps NoSuch (Some table) new sdps' h k = same sdps sdps' h.0.sdps_kept k
    offer_tokens at (Unreadable line) old sdps (Refused error) (Some table) new sdps' h k = same sdps sdps' h.1.sdps_kept k
    offer_tokens at (Readable sdp) old sdps (Answered n) (Some table) new sdps' h k =
        subst (λ (l : List Kept). AreKeptWith x P l) (sym h.2) (kept_more x P sdps (kept_answer at h.0) k (λ e. tt))
    offer_tokens at (Readable sdp) old sdps (Refused error) (Some table) new sdps' h k = same sdps sdps' h.1 k
    offer_tokens at offer old sdps outcome table new sdps' h k = absurd h

    answer_tokens : (t : ℕ) (token : Option PendingOffer) (answer : Signalled) (old : PolledPeer I D S M N) (sdps : List Kept) (outcome : Outcome E)
        (table : Option Table) (new : PolledPeer I D S M N) (sdps' : List Kept)
        → StepAcceptsAnswer m t token answer old.core sdps outcome table new.core sdps' → AreKeptWith x P sdps → AreKeptWith x P sdps'
    answer_tokens t None NotMade old sdps Alloc None new sdps' h k = same sdps sdps' h.sdps_kept k
    answer_tokens t None (Unreadable line) old sdps Alloc None new sdps' h k = same sdps sdps' h.sdps_kept k
    answer_tokens t None (Readable sdp) old sdps Alloc None new sdps' h k = same sdps sdps' h.sdps_kept k
    answer_tokens t (Some token) NotMade old sdps Alloc None new sdps' h k = same sdps sdps' h.sdps_kept k
    answer_tokens t (Some token) (Unreadable line) old sdps Alloc None new sdps' h k = same sdps sdps' h.sdps_kept k
    answer_tokens t (Some token) (Readable sdp) old sdps Alloc None new sdps' h k = same sdps sdps' h.sdps_kept k
    answer_tokens t None NotMade old sdps NoSuch (Some table) new sdps' h k = same sdps sdps' h.0.sdps_kept k
    answer_tokens t None (Unreadable line) old sdps NoSuch (Some table) new sdps' h k = same sdps sdps' h.0.sdps_kept k
    answer_tokens t None (Readable sdp) old sdps NoSuch (Some table) new sdps' h k = same sdps sdps' h.0.sdps_kept k
    answer_tokens t (Some token) NotMade old sdps NoSuch (Some table) new sdps' h k = same sdps sdps' h.0.sdps_kept k
    answer_tokens t (Some token) (Unreadable line) old sdps (Refused error) (Some table) new sdps' h k = same sdps sdps' h.1.sdps_kept k
    answer_tokens t (Some token) (Readable sdp) old sdps Finished (Some table) new sdps' h k =
        subst (λ (l : List Kept). AreKeptWith x P l) (sym h.1) (spent_so x P t sdps k)
    answer_tokens t (Some token) (Readable sdp) old sdps (Refused error) (Some table) new sdps' h k =
        subst (λ (l : List Kept). AreKeptWith x P l) (sym h.1) (spent_so x P t sdps k)
    answer_tokens t token answer old sdps outcome table new sdps' h k = absurd h

    rolled_tokens : (t : ℕ) (token : Option PendingOffer) (old : PolledPeer I D S M N) (sdps : List Kept) (outcome : Outcome E) (table : Option Table)
        (new : PolledPeer I D S M N) (sdps' : List Kept) → StepRollsBack m t token old.core sdps outcome table new.core sdps' → AreKeptWith x P sdps
        → AreKeptWith x P sdps'
    rolled_tokens t None old sdps Alloc None new sdps' h k = same sdps sdps' h.sdps_kept k
    rolled_tokens t (Some token) old sdps Alloc None new sdps' h k = same sdps sdps' h.sdps_kept k
    rolled_tokens t None old sdps NoSuch (Some table) new sdps' h k = same sdps sdps' h.0.sdps_kept k
    rolled_tokens t (Some token) old sdps Done (Some table) new sdps' h k =
        subst (λ (l : List Kept). AreKeptWith x P l) (sym h.1) (spent_so x P t sdps k)
    rolled_tokens t (Some token) old sdps (Refused error) (Some table) new sdps' h k =
        subst (λ (l : List Kept). AreKeptWith x P l) (sym h.1) (spent_so x P t sdps k)
    rolled_tokens t token old sdps outcome table new sdps' h k = absurd h

    pub acts_tokens : (stun : List ℕ → Bool) (other own : Addr) (step : Step) (old : PolledPeer I D S M N) (sdps : List Kept) (packets : List SentPacket)
        (outcome : Outcome E) (table : Option Table) (new : PolledPeer I D S M N) (sdps' : List Kept) (packets' : List SentPacket) → is_native step ≡ true
        → Acts m stun other own step old sdps packets outcome table new sdps' packets'
        → (same_side (side_of step) x ≡ true → (n : ℕ) (config : ChannelConfig) → IsAdded m c new.core n config → old.core.channels.given ≤ n → P n config)
        → (same_side (side_of step) x ≡ true → AreBelow old.core.channels.given old.core.channels.rows) → AreKeptWith x P sdps → AreKeptWith x P sdps'
    acts_tokens stun other own (Negotiate at ops apply) old sdps packets outcome table new sdps' packets' go h so below k =
        negotiates_tokens at ops apply old sdps outcome table new sdps' h.0 so below k
    acts_tokens stun other own (AcceptOffer at offer) old sdps packets outcome table new sdps' packets' go h so below k =
        offer_tokens at (kept_remote_sdp true sdps at offer) old sdps outcome table new sdps' h.0 k
    acts_tokens stun other own (AcceptAnswer at token answer) old sdps packets outcome table new sdps' packets' go h so below k =
        answer_tokens token (held_token sdps at token) (kept_remote_sdp false sdps at answer) old sdps outcome table new sdps' h.0 k
    acts_tokens stun other own (Time at now) old sdps packets outcome table new sdps' packets' go h so below k = same sdps sdps' h.1 k
    acts_tokens stun other own (Datagram at packet now) old sdps packets outcome table new sdps' packets' go h so below k = same sdps sdps' h.1 k
    acts_tokens stun other own (Poll at) old sdps packets outcome table new sdps' packets' go h so below k = same sdps sdps' h.1 k
    acts_tokens stun other own (Drain at) old sdps packets outcome table new sdps' packets' go h so below k = same sdps sdps' h.1 k
    acts_tokens stun other own (Write at channel binary bytes) old sdps packets outcome table new sdps' packets' go h so below k =
        same sdps sdps' h.1 k
    acts_tokens stun other own (CloseChannel at channel) old sdps packets outcome table new sdps' packets' go h so below k = same sdps sdps' h.1 k
    acts_tokens stun other own (Close at) old sdps packets outcome table new sdps' packets' go h so below k = same sdps sdps' h.1 k
    acts_tokens stun other own (Rollback at token) old sdps packets outcome table new sdps' packets' go h so below k =
        rolled_tokens token (held_token sdps at token) old sdps outcome table new sdps' h.0 k
    acts_tokens stun other own (ForeignOffer at text) old sdps packets outcome table new sdps' packets' go h so below k = absurd (true≢false (sym go))
    acts_tokens stun other own (ForeignAnswer at token text) old sdps packets outcome table new sdps' packets' go h so below k =
        absurd (true≢false (sym go))
    acts_tokens stun other own (Raw at bytes now) old sdps packets outcome table new sdps' packets' go h so below k = absurd (true≢false (sym go))

  -- ---- runs

  sides_meet : (at x : Side) → same_side at x ≡ true → at ≡ x
  sides_meet Left Left e = refl
  sides_meet Left Right e = absurd (true≢false (sym e))
  sides_meet Right Left e = absurd (true≢false (sym e))
  sides_meet Right Right e = refl

  below_of : (p : PolledPeer I D S M N) → (p.core.phase ≡ Closed → ⊥) → SideSound m laws p → AreBelow p.core.channels.given p.core.channels.rows
  below_of p lives (inl closed) = absurd (lives closed)
  below_of p lives (inr sound) = sound.numbers.1

  pub run_tokens : (stun : List ℕ → Bool) (start : PairState I D S M N) (past : List (Entry E)) (pair : PairState I D S M N)
      → are_native (steps_of past) ≡ true → Reached m stun start past pair
      → ((at : Side) → SideSound m laws (rtc_at at start)) → start.sdps ≡ [] → (at : Side) → LivesOnSide m laws c (rtc_at at pair)
      → AreKeptWith at (IsAdded m c (rtc_at at pair).core) pair.sdps
  run_tokens stun start [] pair go ran sound none at lives =
      subst (λ (l : List Kept). AreKeptWith at (IsAdded m c (rtc_at at pair).core) l) (sym (ap (λ (y : PairState I D S M N). y.sdps) ran ∙ none)) tt
  run_tokens stun start (entry ∷ past) pair go ran sound none at lives =
      let native = native_entry entry past go in
      let rows = last_rows m laws stun start entry past pair go ran at in
      let before = lived_before m laws c (rtc_at at ran.0) (rtc_at at pair) rows lives in
      acts_tokens at (IsAdded m c (rtc_at at pair).core) stun (addr_at (other_side (side_of entry.step)) ran.0) (addr_at (side_of entry.step) ran.0)
      entry.step (rtc_at (side_of entry.step) ran.0) ran.0.sdps ran.0.packets entry.outcome entry.table (rtc_at (side_of entry.step) pair) pair.sdps
      pair.packets native.1 ran.2.performs.acts
      (λ e n config own up. subst (λ (y : Side). IsAdded m c (rtc_at y pair).core n config) (sides_meet (side_of entry.step) at e) own)
      (λ e.
      subst (λ (y : Side). AreBelow (rtc_at y ran.0).core.channels.given (rtc_at y ran.0).core.channels.rows) (sym (sides_meet (side_of entry.step) at e))
      (below_of (rtc_at at ran.0) before.lives (run_sound m laws stun start past ran.0 native.0 ran.1 sound at)))
      (kept_with_map at (IsAdded m c (rtc_at at ran.0).core) (IsAdded m c (rtc_at at pair).core) ran.0.sdps
      (λ n config own. step_number n config (rtc_at at ran.0) (rtc_at at pair) rows lives own)
      (run_tokens stun start past ran.0 native.0 ran.1 sound none at before))
