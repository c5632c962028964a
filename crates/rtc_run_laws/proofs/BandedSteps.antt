-- Where a step settles no channel for one stream by other means than messages none is so behind it, nor an entry, if none was before and the peer is not
-- closed.
use Rattle.std.proofs.Common.{◌≡◌, ◌∙◌, ◌⊎◌, inl, inr, ◌&&◌, not, ℕ, Bool, true, false, true≢false, List, Option, Some, None, Result, Ok, Err, refl, sym, ap, subst}
use Rattle.rtc_wire.specs.declared.addr.Addr.{Addr}
use Rattle.rtc_sctp_entries.specs.declared.stream_entry.StreamEntry.{StreamEntry}
use Rattle.rtc_channels.specs.Channels.{Channels, all_confirmed}
use Rattle.rtc_change.specs.PendingOffer.{PendingOffer}
use Rattle.rtc_sctp.specs.Streams.{SctpStreams}
use Rattle.rtc_peer_core.specs.declared.phase.Phase.TheVariants.{Closed}
use Rattle.rtc_peer_core.specs.declared.rtc_error.RtcError.{RtcError}
use Rattle.rtc_peer_core.specs.declared.rtc_error.RtcError.TheVariants.{Alloc as PeerAlloc}
use Rattle.rtc_peer_core.specs.Calls.{fitting_channels}
use Rattle.rtc_peer_core.specs.Meanings.{Meanings, PartsLaws}
use Rattle.rtc_peer_transport.specs.declared.input.Input.TheVariants as given
use Rattle.rtc_peer_transport.specs.declared.output.Output.{Output}
use Rattle.rtc_peer_transport.specs.declared.polled_peer.PolledPeer.{PolledPeer}
use Rattle.rtc_peer_transport.specs.ChannelCalls.{open_stream_under}
use Rattle.rtc_peer_transport.specs.Closing.{ClosesPeer}
use Rattle.rtc_peer_polling.specs.Inputs.{HandlesInput}
use Rattle.rtc_peer_polling.specs.Walk.{PollsPeer}
use Rattle.rtc_peer_polling.proofs.Lacking.{poll_lacks}
use Rattle.rtc_peer_laws.specs.ChannelStreams.{AreNumberedChannels, UnlessLacking}
use Rattle.rtc_peer_laws.proofs.CancelledChannels.{cancelled_numbers}
use Rattle.rtc_peer_laws.proofs.ConfirmedChannels.{all_confirmed_numbers}
use Rattle.rtc_peer_laws.specs.RowsChanged.{RowsPolled}
use Rattle.rtc_peer_laws.proofs.ActedPolls.{poll_acts}
use Rattle.rtc_peer_core.specs.declared.peer.Peer.{Peer}
use Rattle.rtc_peer_laws.proofs.ClosedRows.{close_rows}
use Rattle.rtc_peer_laws.proofs.KeptPeers.{close_keeps}
use Rattle.rtc_run_history.specs.declared.kept.Kept.{Kept}
use Rattle.rtc_run_history.specs.declared.op.Op.{Op}
use Rattle.rtc_run_history.specs.declared.outcome.Outcome.{Outcome}
use Rattle.rtc_run_history.specs.declared.outcome.Outcome.TheVariants.{Negotiated, Answered, Finished, Refused, NoSuch, Alloc}
use Rattle.rtc_run_history.specs.declared.sent_packet.SentPacket.{SentPacket}
use Rattle.rtc_run_history.specs.declared.side.Side.{Side}
use Rattle.rtc_run_history.specs.declared.step.Step.{Step}
use Rattle.rtc_run_history.specs.declared.step.Step.TheVariants.{Negotiate, AcceptOffer, AcceptAnswer, Time, Datagram, Poll, Drain}
use Rattle.rtc_run_history.specs.declared.step.Step.TheVariants.{Write, CloseChannel, Close, Rollback, ForeignOffer, ForeignAnswer, Raw}
use Rattle.rtc_run_history.specs.declared.table.Table.{Table}
use Rattle.rtc_run_history.specs.Memory.{answers_lack}
use Rattle.rtc_run_history.specs.Native.{is_native}
use Rattle.rtc_run_history.specs.PairState.{held_token, kept_remote_sdp, remote_packet}
use Rattle.rtc_run_history.specs.Performs.{Acts, Negotiates, StepAcceptsAnswer, StepAcceptsOffer, lent}
use Rattle.rtc_run_history.specs.Sides.{side_of}
use Rattle.rtc_run_history.specs.Signalled.{Signalled, NotMade, Unreadable, Readable}
use Rattle.rtc_run_laws.proofs.StreamSteps.{AreInBandOpsOf, IsInBandStepOf}
use Rattle.rtc_run_laws.proofs.BandedRows.{AreBandedRows, cancelled_banded, confirmed_banded}
use Rattle.rtc_run_laws.proofs.BandedMoments.{IsBanded, polled_banded}
use Rattle.rtc_run_laws.proofs.BandedInputs.{KeepsBand, SideBanded, band_stays, input_band, shut_band, write_band}
use Rattle.rtc_run_laws.proofs.NumberedTokens.{AreChangesWith, AreKeptWith, IsTokenWith, fitting_with, held_with}
use Rattle.rtc_run_laws.proofs.OwnNegotiation.{IsAdded}
use Rattle.rtc_run_laws.proofs.BandedNegotiation.{GoesBanded, ops_made}
use Rattle.rtc_run_laws.proofs.BandedAcceptances.{AnswerLeft, answer_left, offer_left}
use Rattle.rtc_run_laws.proofs.KeptNegotiation.{answer_step_keeps, offer_step_keeps}
use Rattle.rtc_run_laws.proofs.RowLemmas.{closed_stays}
use Rattle.rtc_run_laws.proofs.StandingEntries.{AreBanded}
use Rattle.rtc_run_laws.proofs.StepRows.{RowsCancelled, rollback_rows}
use Rattle.rtc_run_laws.proofs.StepWalks.{AnyInput, CallsKeep, calls_keep, close_keep, datagram_keep, drain_keep, poll_keep, write_keep}

module _ (the : ℕ) {I D S M E X T W N : Type 0} (m : Meanings I D S M E X T W N) (laws : PartsLaws m) where
  -- ---- calls beside those of negotiation

  answer_band : (p : PolledPeer I D S M N) (answer : Result (Output E) RtcError) (q : PolledPeer I D S M N) → PollsPeer m p answer q
      → UnlessLacking answer (RowsPolled m.association p.core.channels p.core.sctp q.core.channels q.core.sctp)
      → IsBanded the p.core.channels p.core.sctp.entries → SideBanded the m q
  answer_band p (Ok output) q h changed k =
      inr (polled_banded the m.association laws.association p.core.channels p.core.sctp q.core.channels q.core.sctp changed k)
  answer_band p (Err PeerAlloc) q h changed k = inl (poll_lacks m p q h)
  answer_band p (Err error) q h changed k =
      inr (polled_banded the m.association laws.association p.core.channels p.core.sctp q.core.channels q.core.sctp changed k)

  pub poll_band : (p : PolledPeer I D S M N) (answer : Result (Output E) RtcError) (q : PolledPeer I D S M N) → PollsPeer m p answer q → KeepsBand the m p q
  poll_band p answer q h (inl e) = inl (closed_stays m p answer q e h).1
  poll_band p answer q h (inr k) = answer_band p answer q h (poll_acts m laws p answer q h).streams.changed k

  same_band : (p q : PolledPeer I D S M N) → q ≡ p → KeepsBand the m p q
  same_band p q is = λ k. subst (λ (x : PolledPeer I D S M N). SideBanded the m x) (sym is) k

  calls_band : CallsKeep m AnyInput (KeepsBand the m)
  calls_band = record {
    beside = record {
      none = same_band;
      inputs = λ input any p r q h. input_band the m input p r q h;
      writes = λ stream binary bytes p r q h. write_band the m stream binary bytes p r q h;
      shuts = λ id p r q h. shut_band the m id p r q h;
    };
    on = λ p b q h k x. k (h x);
    polls = poll_band;
  }

  close_band : (p : PolledPeer I D S M N) (r : Result (Unit {0}) RtcError) (q : PolledPeer I D S M N) → ClosesPeer m p r q → KeepsBand the m p q
  close_band p r q h =
      let kept = close_rows m p r q h in
      band_stays the m p q kept.1 kept.2 (close_keeps m laws.association p r q h).closed

  module _ (c : Bool) where
    -- ---- the side that acts

    stays_band : (old new : PolledPeer I D S M N) → new.core ≡ old.core → KeepsBand the m old new
    stays_band old new same =
        band_stays the m old new (ap (λ (x : Peer I D S M N). x.channels) same) (ap (λ (x : Peer I D S M N). x.sctp.entries) same)
        (λ e. ap (λ (x : Peer I D S M N). x.phase) same ∙ e)

    negotiates_band : (at : Side) (ops : List Op) (apply : Bool) (old : PolledPeer I D S M N) (sdps : List Kept) (outcome : Outcome E)
        (table : Option Table) (new : PolledPeer I D S M N) (sdps' : List Kept) → AreInBandOpsOf the ops
        → Negotiates m at ops apply old.core sdps outcome table new.core sdps' → KeepsBand the m old new
    negotiates_band at ops apply old sdps Alloc None new sdps' band h = stays_band old new h.peer
    negotiates_band at ops apply old sdps (Negotiated answers made) (Some table) new sdps' band h =
        by (ops_made the m c (apply && not (answers_lack answers)) at ops answers (lent old.core) h.0 sdps made new.core sdps' band refl h.1 h.2)
      where
        by : GoesBanded the m c (Unit {0}) (lent old.core) new.core → KeepsBand the m old new
        by did (inl e) = inl (did.closed e)
        by did (inr k) = inr (record {
          rows = (did.rows tt (k.rows, k.numbers)).0;
          entries = subst (λ (l : List StreamEntry). AreBanded the l) (sym did.entries) k.entries;
          numbers = (did.rows tt (k.rows, k.numbers)).1;
        })
    negotiates_band at ops apply old sdps outcome table new sdps' band h = absurd h

    offer_band : (at : Side) (offer : Signalled) (old : PolledPeer I D S M N) (sdps : List Kept) (outcome : Outcome E) (table : Option Table)
        (new : PolledPeer I D S M N) (sdps' : List Kept) → StepAcceptsOffer m at offer old.core sdps outcome table new.core sdps'
        → (old.core.phase ≡ Closed → new.core.phase ≡ Closed) → KeepsBand the m old new
    offer_band at NotMade old sdps Alloc None new sdps' h closed = stays_band old new h.peer
    offer_band at (Unreadable line) old sdps Alloc None new sdps' h closed = stays_band old new h.peer
    offer_band at (Readable sdp) old sdps Alloc None new sdps' h closed = stays_band old new h.peer
    offer_band at NotMade old sdps NoSuch (Some table) new sdps' h closed = stays_band old new h.0.peer
    offer_band at (Unreadable line) old sdps (Refused error) (Some table) new sdps' h closed = stays_band old new h.1.peer
    offer_band at (Readable sdp) old sdps (Answered k) (Some table) new sdps' h closed =
        let left = offer_left m laws.association (lent old.core) sdp (Ok h.0) new.core h.1 in band_stays the m old new left.1 left.0 closed
    offer_band at (Readable sdp) old sdps (Refused error) (Some table) new sdps' h closed =
        let left = offer_left m laws.association (lent old.core) sdp (Err error) new.core h.0 in band_stays the m old new left.1 left.0 closed
    offer_band at offer old sdps outcome table new sdps' h closed = absurd h

    followed : (token : PendingOffer) (old new : PolledPeer I D S M N) → AnswerLeft m laws.association (lent old.core) token new.core
        → (old.core.phase ≡ Closed → new.core.phase ≡ Closed) → AreChangesWith (IsAdded m c old.core) token.changes → KeepsBand the m old new
    followed token old new h closed added (inl e) = inl (closed e)
    followed token old new h closed added (inr k) = inr (record {
      rows = (by h.channels).0;
      entries = subst (λ (l : List StreamEntry). AreBanded the l) (sym h.entries) k.entries;
      numbers = (by h.channels).1;
    })
      where
        by : (new.core.channels ≡ old.core.channels) ⊎ (new.core.channels ≡ all_confirmed (fitting_channels token.changes) old.core.channels)
            → AreBandedRows the new.core.channels.rows × AreNumberedChannels new.core.channels
        by (inl is) = subst (λ (held : Channels). AreBandedRows the held.rows × AreNumberedChannels held) (sym is) (k.rows, k.numbers)
        by (inr is) =
            subst (λ (held : Channels). AreBandedRows the held.rows × AreNumberedChannels held) (sym is) (
              confirmed_banded the c (fitting_channels token.changes) old.core.channels (fitting_with (IsAdded m c old.core) token.changes added) k.rows,
              all_confirmed_numbers (fitting_channels token.changes) old.core.channels k.numbers,
            )

    token_band : (t : ℕ) (token : Option PendingOffer) (answer : Signalled) (old : PolledPeer I D S M N) (sdps : List Kept) (outcome : Outcome E)
        (table : Option Table) (new : PolledPeer I D S M N) (sdps' : List Kept)
        → StepAcceptsAnswer m t token answer old.core sdps outcome table new.core sdps' → (old.core.phase ≡ Closed → new.core.phase ≡ Closed)
        → IsTokenWith (IsAdded m c old.core) token → KeepsBand the m old new
    token_band t None NotMade old sdps Alloc None new sdps' h closed held = stays_band old new h.peer
    token_band t None (Unreadable line) old sdps Alloc None new sdps' h closed held = stays_band old new h.peer
    token_band t None (Readable sdp) old sdps Alloc None new sdps' h closed held = stays_band old new h.peer
    token_band t (Some token) NotMade old sdps Alloc None new sdps' h closed held = stays_band old new h.peer
    token_band t (Some token) (Unreadable line) old sdps Alloc None new sdps' h closed held = stays_band old new h.peer
    token_band t (Some token) (Readable sdp) old sdps Alloc None new sdps' h closed held = stays_band old new h.peer
    token_band t None NotMade old sdps NoSuch (Some table) new sdps' h closed held = stays_band old new h.0.peer
    token_band t None (Unreadable line) old sdps NoSuch (Some table) new sdps' h closed held = stays_band old new h.0.peer
    token_band t None (Readable sdp) old sdps NoSuch (Some table) new sdps' h closed held = stays_band old new h.0.peer
    token_band t (Some token) NotMade old sdps NoSuch (Some table) new sdps' h closed held = stays_band old new h.0.peer
    token_band t (Some token) (Unreadable line) old sdps (Refused error) (Some table) new sdps' h closed held = stays_band old new h.1.peer
    token_band t (Some token) (Readable sdp) old sdps Finished (Some table) new sdps' h closed held =
        followed token old new (answer_left m laws.association (lent old.core) token sdp (Ok tt) new.core h.0) closed held
    token_band t (Some token) (Readable sdp) old sdps (Refused error) (Some table) new sdps' h closed held =
        followed token old new (answer_left m laws.association (lent old.core) token sdp (Err error) new.core h.0) closed held
    token_band t token answer old sdps outcome table new sdps' h closed held = absurd h

    cancels_band : (p q : PolledPeer I D S M N) → RowsCancelled m p q → KeepsBand the m p q
    cancels_band p q h (inl closed) = inl (h.phase ∙ closed)
    cancels_band p q h (inr k) = inr (record {
      rows = subst (λ (held : Channels). AreBandedRows the held.rows) (sym h.cancelled) (cancelled_banded the h.channels p.core.channels k.rows);
      entries = subst (λ (x : SctpStreams S). AreBanded the x.entries) (sym h.sctp) k.entries;
      numbers = subst (λ (held : Channels). AreNumberedChannels held) (sym h.cancelled) (cancelled_numbers h.channels p.core.channels k.numbers);
    })

    pub acts_band : (stun : List ℕ → Bool) (other own : Addr) (step : Step) (old : PolledPeer I D S M N) (sdps : List Kept) (packets : List SentPacket)
        (outcome : Outcome E) (table : Option Table) (new : PolledPeer I D S M N) (sdps' : List Kept) (packets' : List SentPacket) → is_native step ≡ true
        → IsInBandStepOf the step → AreKeptWith (side_of step) (IsAdded m c old.core) sdps → Acts m stun other own step old sdps packets outcome table new sdps' packets'
        → KeepsBand the m old new
    acts_band stun other own (Negotiate at ops apply) old sdps packets outcome table new sdps' packets' go band held h =
        negotiates_band at ops apply old sdps outcome table new sdps' band h.0
    acts_band stun other own (AcceptOffer at offer) old sdps packets outcome table new sdps' packets' go band held h =
        offer_band at (kept_remote_sdp true sdps at offer) old sdps outcome table new sdps' h.0
        (offer_step_keeps m laws.association at (kept_remote_sdp true sdps at offer) old sdps outcome table new sdps' h.0).closed
    acts_band stun other own (AcceptAnswer at token answer) old sdps packets outcome table new sdps' packets' go band held h =
        token_band token (held_token sdps at token) (kept_remote_sdp false sdps at answer) old sdps outcome table new sdps' h.0
        (answer_step_keeps m laws.association token (held_token sdps at token) (kept_remote_sdp false sdps at answer) old sdps outcome table new sdps'
        h.0).closed
        (held_with at (IsAdded m c old.core) sdps token held)
    acts_band stun other own (Rollback at token) old sdps packets outcome table new sdps' packets' go band held h =
        cancels_band old new (rollback_rows m token (held_token sdps at token) old sdps outcome table new sdps' h.0)
    acts_band stun other own (Time at now) old sdps packets outcome table new sdps' packets' go band held h =
        (calls_keep m (KeepsBand the m) calls_band.beside (HandlesInput m (given.Timeout now)) (λ p r q x. input_band the m (given.Timeout now) p r q x) old outcome table
        new h.0)
    acts_band stun other own (Datagram at packet now) old sdps packets outcome table new sdps' packets' go band held h =
        (datagram_keep m (KeepsBand the m) calls_band.beside stun (remote_packet packets at packet) now (λ datagram. tt) old outcome table new h.0)
    acts_band stun other own (Poll at) old sdps packets outcome table new sdps' packets' go band held h =
        (poll_keep m (KeepsBand the m) calls_band at old packets outcome table new packets' h.0)
    acts_band stun other own (Drain at) old sdps packets outcome table new sdps' packets' go band held h =
        (drain_keep m (KeepsBand the m) calls_band at old packets outcome table new packets' h.0)
    acts_band stun other own (Write at channel binary bytes) old sdps packets outcome table new sdps' packets' go band held h =
        (write_keep m (KeepsBand the m) calls_band.beside (open_stream_under channel old) binary bytes old outcome table new h.0)
    acts_band stun other own (CloseChannel at channel) old sdps packets outcome table new sdps' packets' go band held h =
        (close_keep m (KeepsBand the m) calls_band.beside (open_stream_under channel old) channel old outcome table new h.0)
    acts_band stun other own (Close at) old sdps packets outcome table new sdps' packets' go band held h =
        (calls_keep m (KeepsBand the m) calls_band.beside (ClosesPeer m) close_band old outcome table new h.0)
    acts_band stun other own (ForeignOffer at text) old sdps packets outcome table new sdps' packets' go band held h = absurd (true≢false (sym go))
    acts_band stun other own (ForeignAnswer at token text) old sdps packets outcome table new sdps' packets' go band held h = absurd (true≢false (sym go))
    acts_band stun other own (Raw at bytes now) old sdps packets outcome table new sdps' packets' go band held h = absurd (true≢false (sym go))
