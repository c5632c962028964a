-- The calls of a peer beside polls keep the use of each stream, and live channels.
use Rattle.std.proofs.Common.{◌≡◌, ◌⊎◌, inl, inr, ◌++◌, ℕ, Bool, true, false, List, [], append-nil, Option, Some, None, Result, Ok, Err, refl, sym, ap, subst, ◌∙◌}
use Rattle.std.specs.declared.alloc.AllocError.{AllocError}
use Rattle.rtc_parts.specs.AssociationMeaning.{AssociationMeaning}
use Rattle.rtc_parts.specs.AssociationLaws.{AssociationLaws}
use Rattle.rtc_sctp_laws.specs.StreamUses.{IsLive}
use Rattle.rtc_sctp_laws.proofs.LiveCalls.{writes_own}
use Rattle.rtc_sctp_laws.proofs.RunningPolls.{stay_same}
use Rattle.rtc_sctp_entries.specs.Entries.{entry_place}
use Rattle.rtc_sctp_values.specs.declared.sctp_error.SctpError.{SctpError}
use Rattle.rtc_sctp.specs.Streams.{SctpStreams}
use Rattle.rtc_sctp.specs.Calls.{WritesStream, WrittenIf, can_write, is_current, is_open_stream}
use Rattle.rtc_sctp_laws.specs.StreamActs.{written_message}
use Rattle.rtc_sctp_laws.proofs.AsideActs.{writes_aside}
use Rattle.rtc_sctp_laws.proofs.CallActs.{writes_did}
use Rattle.rtc_sctp_laws.specs.StreamMessages.{StreamMessage}
use Rattle.rtc_channels.specs.Channels.{Channels}
use Rattle.rtc_channels.specs.Openings.{ClosesChannel}
use Rattle.rtc_peer_core.specs.declared.phase.Phase.{Phase}
use Rattle.rtc_peer_core.specs.declared.phase.Phase.TheVariants.{Alive, Closing, Closed}
use Rattle.rtc_peer_core.specs.declared.rtc_error.RtcError.{RtcError}
use Rattle.rtc_peer_core.specs.Meanings.{Meanings}
use Rattle.rtc_peer_transport.specs.declared.polled_peer.PolledPeer.{PolledPeer}
use Rattle.rtc_peer_transport.specs.ChannelCalls.{ClosesDataChannel, SetsChannelThreshold, SetsThresholdIf, WritesChannel, WritesIf, stream_under, write_taken}
use Rattle.rtc_peer_transport.specs.Closing.{ClosesPeer, ClosesPeerFrom}
use Rattle.rtc_peer_transport.specs.Stages.{Call, InTurn, Failed, Passed}
use Rattle.rtc_peer_polling.specs.StreamStages.{channel_over}
use Rattle.rtc_peer_laws.specs.Acts.{message_of_write}
use Rattle.rtc_peer_laws.specs.RowsChanged.{OnlyActs, RowsChange, RowsChanged, ThresholdSet, StreamClosed, begun_as}
use Rattle.rtc_peer_laws.proofs.ChangedRows.{changed_on, moved_ungiven, one_changed, only_called, rows_same, rows_stay}
use Rattle.rtc_peer_laws.specs.ChannelStreams.{AreNumberedChannels, IsGone, IsUsedStream}
use Rattle.rtc_peer_laws.specs.PeerActs.{nothing_came}
use Rattle.rtc_peer_laws.proofs.ActedClosing.{beside, close_acts}
use Rattle.rtc_peer_laws.proofs.StreamsJoin.{given_on, same_given}
use Rattle.rtc_peer_laws.proofs.ClosedRows.{close_only, close_rows}
use Rattle.rtc_peer_laws.specs.KeptChannels.{CallKeepsStreams}
use Rattle.rtc_peer_laws.proofs.KeptCalls.{StreamsKept, kept_same, kept_acts, kept_write, kept_threshold_if, kept_close, ChannelsKept}

-- a closed peer stays closed
abbrev pub StaysClosed : {I D S M N : Type 0} → PolledPeer I D S M N → PolledPeer I D S M N → Type 0
StaysClosed p q = p.core.phase ≡ Closed → q.core.phase ≡ Closed

-- streams and channels stay
abbrev pub KeepsBoth : {I D S M N : Type 0} → PolledPeer I D S M N → PolledPeer I D S M N → Type 0
KeepsBoth p q = (q.core.sctp ≡ p.core.sctp) × (q.core.channels ≡ p.core.channels) × StaysClosed p q

abbrev pub KeepsRows : {I D S M N : Type 0} → PolledPeer I D S M N → PolledPeer I D S M N → Type 0
KeepsRows p q = (q.core.channels ≡ p.core.channels) × StaysClosed p q

-- what a write took
written_is : (stream generation : ℕ) (binary : Bool) (bytes : List ℕ) (answer : Result ℕ SctpError)
    → written_message stream generation binary bytes answer ≡ message_of_write stream generation binary bytes (write_taken answer)
written_is stream generation binary bytes (Ok count) = refl
written_is stream generation binary bytes (Err error) = refl

-- a write leaves the entries, and how the association was begun
pub written_same : {S : Type 0} (m : AssociationMeaning S) (can current : Bool) (id : ℕ) (binary : Bool) (bytes : List ℕ) (p : SctpStreams S)
    (r : Result ℕ SctpError) (q : SctpStreams S) → WrittenIf m can current id binary bytes p r q → (q.entries ≡ p.entries) × (begun_as q ≡ begun_as p)
written_same m false current id binary bytes p r q h = (ap (λ x. x.entries) h.1, ap begun_as h.1)
written_same m true false id binary bytes p r q h = (ap (λ x. x.entries) h.1, ap begun_as h.1)
written_same m true true id binary bytes p r q h = (ap (λ x. x.entries) h.3, ap begun_as h.3)

module _ {I D S M E X T W N : Type 0} (m : Meanings I D S M E X T W N) where
  -- the peer is closed, or the changes of channels and entries are these
  abbrev pub ChangesRows : PolledPeer I D S M N → PolledPeer I D S M N → Type 0
  ChangesRows p q = (q.core.phase ≡ Closed) ⊎ RowsChanged m.association p.core.channels p.core.sctp q.core.channels q.core.sctp

  -- acts alone, and channels stay
  pub changes_none : (p q : PolledPeer I D S M N) → q.core.channels ≡ p.core.channels → OnlyActs m.association p.core.sctp q.core.sctp
      → ChangesRows p q
  changes_none p q is only = inr (rows_stay m.association p.core.channels p.core.sctp q.core.channels q.core.sctp is only)

  pub changes_one : (p q : PolledPeer I D S M N) → RowsChange m.association p.core.channels p.core.sctp q.core.channels q.core.sctp → ChangesRows p q
  changes_one p q h = inr (one_changed m.association p.core.channels p.core.sctp q.core.channels q.core.sctp h)

  pub over_streams : (p q : PolledPeer I D S M N) (wrote : List StreamMessage) → StreamsKept m.association p.core.sctp wrote q.core.sctp
      → q.core.channels ≡ p.core.channels → (p.core.phase ≡ Closed → q.core.phase ≡ Closed) → ChangesRows p q → CallKeepsStreams m p wrote q
  over_streams p q wrote h is closed changed = record {
    uses = h.uses;
    lives = λ c s g numbered k. (ap (λ (x : Channels). channel_over s x) is ∙ k.0, h.lives s g k.1);
    numbers = λ k. subst (λ (x : Channels). AreNumberedChannels x) (sym is) k;
    gone = λ c k. subst (λ (x : Channels). IsGone c x) (sym is) k;
    closed = closed;
    running = h.running;
    given = same_given p.core.channels.given q.core.channels.given (ap (λ (x : Channels). x.given) is);
    fresh = h.fresh;
    holds = h.holds;
    changed = changed;
  }

  pub over_channels : (p q : PolledPeer I D S M N) → ChannelsKept m.association p.core.channels p.core.sctp q.core.channels q.core.sctp
      → (p.core.phase ≡ Closed → q.core.phase ≡ Closed) → ChangesRows p q → CallKeepsStreams m p [] q
  over_channels p q h closed changed = record {
    uses = h.streams.uses;
    lives = λ c s g numbered k. (h.over s c numbered k.0, h.streams.lives s g k.1);
    numbers = h.numbers;
    gone = h.gone;
    closed = closed;
    running = h.streams.running;
    given = h.given;
    fresh = h.streams.fresh;
    holds = h.streams.holds;
    changed = changed;
  }

  pub by_rows : (p q : PolledPeer I D S M N) (wrote : List StreamMessage) → StreamsKept m.association p.core.sctp wrote q.core.sctp → KeepsRows p q
      → (q.core.channels ≡ p.core.channels → ChangesRows p q) → CallKeepsStreams m p wrote q
  by_rows p q wrote h k changes = over_streams p q wrote h k.0 k.1 (changes k.0)

  pub same_kept : (p q : PolledPeer I D S M N) → KeepsBoth p q → CallKeepsStreams m p [] q
  same_kept p q h =
      over_streams p q [] (kept_same m.association p.core.sctp q.core.sctp h.0) h.1 h.2
      (inr (rows_same m.association p.core.channels p.core.sctp q.core.channels q.core.sctp h.1 h.0))

  changes_on : (p b q : PolledPeer I D S M N) → (b.core.phase ≡ Closed → q.core.phase ≡ Closed) → ChangesRows p b → ChangesRows b q → ChangesRows p q
  changes_on p b q closed (inl k) after = inl (closed k)
  changes_on p b q closed (inr first) (inl k) = inl k
  changes_on p b q closed (inr first) (inr after) =
      inr
      (changed_on m.association p.core.channels p.core.sctp b.core.channels b.core.sctp q.core.channels q.core.sctp first after)

  pub calls_on : (p b q : PolledPeer I D S M N) → CallKeepsStreams m p [] b → CallKeepsStreams m b [] q → CallKeepsStreams m p [] q
  calls_on p b q x y = record {
    uses = λ v s ws hs k.
        subst (λ (l : List StreamMessage). IsUsedStream m s l hs q) (append-nil (ws ++ [])) (y.uses v s (ws ++ []) hs (x.uses v s ws hs k));
    lives = λ c s g numbered k. y.lives c s g (x.numbers numbered) (x.lives c s g numbered k);
    numbers = λ k. y.numbers (x.numbers k);
    gone = λ c k. y.gone c (x.gone c k);
    closed = λ k. y.closed (x.closed k);
    running = λ k. y.running (x.running k);
    given = given_on p.core.channels.given b.core.channels.given q.core.channels.given x.given y.given;
    fresh = λ s o k. x.fresh s o (y.fresh s o k);
    holds = λ s k. y.holds s (x.holds s k);
    changed = changes_on p b q y.closed x.changed y.changed;
  }

  -- a call keeps them, whatever it answers
  abbrev pub CallKeeps : Call (PolledPeer I D S M N) → Type 0
  CallKeeps call = (p : PolledPeer I D S M N) (r : Result (Unit {0}) RtcError) (q : PolledPeer I D S M N) → call p r q → CallKeepsStreams m p [] q

  pub turn_keeps : (first rest : Call (PolledPeer I D S M N)) → CallKeeps first → CallKeeps rest → CallKeeps (InTurn first rest)
  turn_keeps first rest one other p r q (Failed error is h) = one p (Err error) q h
  turn_keeps first rest one other p r q (Passed between h k) = calls_on p between q (one p (Ok tt) between h) (other between r q k)

  -- what a part alone was told
  pub kept_by : (p n q : PolledPeer I D S M N) → q ≡ n → KeepsBoth p n → CallKeepsStreams m p [] q
  kept_by p n q is h = same_kept p q (beside KeepsBoth p n q is h)

  threshold_changes : (is_open : Bool) (stream n : ℕ) (p q : PolledPeer I D S M N) → q.core.channels ≡ p.core.channels
      → SetsThresholdIf S is_open stream n p.core.sctp q.core.sctp → ChangesRows p q
  threshold_changes true stream n p q is h = changes_one p q (ThresholdSet n (entry_place stream p.core.sctp.entries) h is)
  threshold_changes false stream n p q is h = inr (rows_same m.association p.core.channels p.core.sctp q.core.channels q.core.sctp is h)

  pub threshold_keeps : (stream n : ℕ) (p q : PolledPeer I D S M N) → SetsChannelThreshold stream n p q → CallKeepsStreams m p [] q
  threshold_keeps stream n p q h =
      by_rows p q [] (kept_threshold_if m.association (is_open_stream stream p.core.sctp) stream n p.core.sctp q.core.sctp h.0)
      (beside KeepsRows p _ q h.1 (refl, λ k. k)) (λ is. threshold_changes (is_open_stream stream p.core.sctp) stream n p q is h.0)

  -- a message that a live stream took is of its generation
  own_by : (full : Bool) (stream : ℕ) (binary : Bool) (bytes : List ℕ) (p q : PolledPeer I D S M N) (g : ℕ)
      → WritesIf m full stream binary bytes p (Ok true) q → IsLive stream g p.core.sctp.entries
      → m.association.generation p.core.sctp.association stream ≡ g
  own_by true stream binary bytes p q g h live = absurd (let e = h.0 in cc)
  own_by false stream binary bytes p q g h live = by h.0 h.1 h.2
    where
      by : (answer : Result ℕ SctpError) → WritesStream m.association stream binary bytes p.core.sctp answer q.core.sctp
          → Ok true ≡ write_taken answer → m.association.generation p.core.sctp.association stream ≡ g
      by (Ok count) wrote e = writes_own m.association stream binary bytes p.core.sctp count q.core.sctp g wrote live
      by (Err error) wrote e = absurd (let f = e in cc)

  pub channel_writes_own : (stream : ℕ) (binary : Bool) (bytes : List ℕ) (p q : PolledPeer I D S M N) (g : ℕ)
      → WritesChannel m stream binary bytes p (Ok true) q → IsLive stream g p.core.sctp.entries
      → m.association.generation p.core.sctp.association stream ≡ g
  channel_writes_own stream binary bytes p q g h live = own_by _ stream binary bytes p q g h live

  close_changes : (stream : Option ℕ) (p : PolledPeer I D S M N) (r : Result (Unit {0}) AllocError) (q : PolledPeer I D S M N)
      → q.core.channels ≡ p.core.channels → ClosesChannel m.association stream p.core.sctp r q.core.sctp → ChangesRows p q
  close_changes None p r q is h = inr (rows_same m.association p.core.channels p.core.sctp q.core.channels q.core.sctp is h.1)
  close_changes (Some stream) p r q is h = changes_one p q (StreamClosed stream r h is)

  pub channel_close_keeps : AssociationLaws m.association → (id : ℕ) (p : PolledPeer I D S M N) (r : Result (Unit {0}) AllocError) (q : PolledPeer I D S M N)
      → ClosesDataChannel m id p r q → CallKeepsStreams m p [] q
  channel_close_keeps w id p r q h =
      by_rows p q [] (kept_close m.association w (stream_under id p.core.channels) p.core.sctp r q.core.sctp h.0) (beside KeepsRows p _ q h.1 (refl, λ k. k))
      (λ is. close_changes (stream_under id p.core.channels) p r q is h.0)

  module _ (laws : AssociationLaws m.association) where
    write_keeps : (full : Bool) (stream : ℕ) (binary : Bool) (bytes : List ℕ) (p : PolledPeer I D S M N) (r : Result Bool RtcError)
        (q : PolledPeer I D S M N) → WritesIf m full stream binary bytes p r q
        → CallKeepsStreams m p (message_of_write stream (m.association.generation p.core.sctp.association stream) binary bytes r) q
    write_keeps true stream binary bytes p r q h =
        subst (λ (x : Result Bool RtcError).
        CallKeepsStreams m p (message_of_write stream (m.association.generation p.core.sctp.association stream) binary bytes x) q) (sym h.0)
        (kept_by p p q h.1 (refl, refl, λ k. k))
    write_keeps false stream binary bytes p r q h =
        subst (λ (l : List StreamMessage). CallKeepsStreams m p l q)
        (written_is stream (m.association.generation p.core.sctp.association stream) binary bytes h.0
        ∙ ap (message_of_write stream (m.association.generation p.core.sctp.association stream) binary bytes) (sym h.2))
        (by_rows p q (written_message stream (m.association.generation p.core.sctp.association stream) binary bytes h.0)
        (kept_write m.association laws stream binary bytes p.core.sctp h.0 q.core.sctp h.1) (beside KeepsRows p _ q h.3 (refl, λ k. k))
        (λ is.
        let same = written_same m.association (can_write m.association stream p.core.sctp) (is_current m.association stream p.core.sctp) stream binary
        bytes p.core.sctp h.0 q.core.sctp h.1 in
        let did = writes_aside m.association stream binary bytes p.core.sctp h.0 q.core.sctp h.1 in
        let moved =
        moved_ungiven m.association [] _ p.core.sctp q.core.sctp refl (writes_did m.association stream binary bytes p.core.sctp h.0 q.core.sctp h.1) in
        changes_none p q is (only_called m.association p.core.sctp q.core.sctp did moved same.0 same.1)))

    pub channel_write_keeps : (stream : ℕ) (binary : Bool) (bytes : List ℕ) (p : PolledPeer I D S M N) (r : Result Bool RtcError)
        (q : PolledPeer I D S M N) → WritesChannel m stream binary bytes p r q
        → CallKeepsStreams m p (message_of_write stream (m.association.generation p.core.sctp.association stream) binary bytes r) q
    channel_write_keeps stream binary bytes p r q h = write_keeps _ stream binary bytes p r q h

    -- closing acts on the association, and leaves entries and channels
    close_stays : (phase : Phase) (p : PolledPeer I D S M N) (r : Result (Unit {0}) RtcError) (q : PolledPeer I D S M N)
        → ClosesPeerFrom m phase p r q → phase ≡ p.core.phase → StaysClosed p q
    close_stays Alive p r q h e k = absurd (let f = e ∙ k in cc)
    close_stays Closing p r q h e k = absurd (let f = e ∙ k in cc)
    close_stays Closed p r q h e k = ap (λ (x : PolledPeer I D S M N). x.core.phase) h.1 ∙ k

    pub close_keeps : CallKeeps (ClosesPeer m)
    close_keeps p r q h =
        let did = close_acts m nothing_came [] laws p r q h in
        let kept = close_rows m p r q h in
        over_streams p q [] (kept_acts m.association laws p.core.sctp q.core.sctp did.acts.association did.went.association kept.2 (λ k. stay_same p.core.sctp q.core.sctp kept.3 k.1)) kept.1
        (close_stays p.core.phase p r q h refl) (changes_none p q kept.1 (close_only m laws p r q h))
