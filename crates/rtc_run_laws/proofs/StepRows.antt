-- What each step of a side changes of its channels and of the entries of their streams.
use Rattle.std.proofs.Common.{◌≡◌, ◌⊎◌, ◌≤◌, inl, inr, ℕ, Bool, true, false, true≢false, List, [], Option, Some, None, Result, Ok, Err, ◌∙◌, sym, ap, subst, arith}
use Rattle.rtc_wire.specs.declared.addr.Addr.{Addr}
use Rattle.rtc_wire.specs.declared.channel_config.ChannelConfig.{ChannelConfig}
use Rattle.rtc_sctp_laws.specs.StreamMessages.{StreamMessage}
use Rattle.rtc_change.specs.PendingOffer.{PendingOffer, new_channels}
use Rattle.rtc_channels.specs.Channels.{Channels}
use Rattle.rtc_channels.specs.Holds.{all_cancelled}
use Rattle.rtc_peer_core.specs.declared.peer.Peer.{Peer}
use Rattle.rtc_peer_core.specs.declared.phase.Phase.TheVariants.{Closed}
use Rattle.rtc_peer_core.specs.declared.rtc_error.RtcError.{RtcError}
use Rattle.rtc_peer_core.specs.declared.rtc_error.RtcError.TheVariants.{RemoteSdp, Sdp as SdpRefused, Dtls, Sctp, Net, Media as MediaFailed, ChangesOutOfOrder, BadChannel, Alloc as PeerAlloc, Glare}
use Rattle.rtc_peer_core.specs.Meanings.{Meanings, PartsLaws}
use Rattle.rtc_peer_core.specs.RollingBack.{RollsBack}
use Rattle.rtc_peer_transport.specs.declared.input.Input.TheVariants as given
use Rattle.rtc_peer_transport.specs.declared.output.Output.{Output}
use Rattle.rtc_peer_transport.specs.declared.polled_peer.PolledPeer.{PolledPeer}
use Rattle.rtc_peer_transport.specs.ChannelCalls.{open_stream_under}
use Rattle.rtc_peer_transport.specs.Closing.{ClosesPeer}
use Rattle.rtc_peer_polling.specs.Inputs.{HandlesInput}
use Rattle.rtc_peer_polling.specs.Walk.{PollsPeer}
use Rattle.rtc_peer_polling.proofs.Lacking.{poll_lacks}
use Rattle.rtc_peer_laws.specs.ChannelStreams.{UnlessLacking}
use Rattle.rtc_peer_laws.specs.RowsChanged.{RowsChanged, RowsPolled}
use Rattle.rtc_peer_laws.proofs.ActedPolls.{poll_acts}
use Rattle.rtc_peer_laws.proofs.CancelledChannels.{cancelled_given}
use Rattle.rtc_peer_laws.proofs.ChangedRows.{changed_on, none_changed}
use Rattle.rtc_peer_laws.proofs.PolledRows.{polled_changes}
use Rattle.rtc_peer_laws.proofs.StreamsJoin.{given_on}
use Rattle.rtc_peer_laws.specs.KeptChannels.{CallKeepsStreams}
use Rattle.rtc_peer_laws.proofs.KeptInputs.{input_keeps}
use Rattle.rtc_peer_laws.proofs.KeptPeers.{channel_close_keeps, channel_write_keeps, close_keeps}
use Rattle.rtc_run_history.specs.declared.kept.Kept.{Kept}
use Rattle.rtc_run_history.specs.declared.outcome.Outcome.{Outcome}
use Rattle.rtc_run_history.specs.declared.outcome.Outcome.TheVariants.{Done, Refused, NoSuch, Alloc}
use Rattle.rtc_run_history.specs.declared.sent_packet.SentPacket.{SentPacket}
use Rattle.rtc_run_history.specs.declared.side.Side.{Side}
use Rattle.rtc_run_history.specs.declared.side.Side.TheVariants.{Left, Right}
use Rattle.rtc_run_history.specs.declared.step.Step.{Step}
use Rattle.rtc_run_history.specs.declared.step.Step.TheVariants.{Negotiate, AcceptOffer, AcceptAnswer, Time, Datagram, Poll, Drain}
use Rattle.rtc_run_history.specs.declared.step.Step.TheVariants.{Write, CloseChannel, Close, Rollback, ForeignOffer, ForeignAnswer, Raw}
use Rattle.rtc_run_history.specs.declared.table.Table.{Table}
use Rattle.rtc_run_history.specs.Native.{is_native}
use Rattle.rtc_run_history.specs.PairState.{PairState, rtc_at, held_token, kept_remote_sdp, remote_packet}
use Rattle.rtc_run_history.specs.Performs.{Acts, StepRollsBack, lent}
use Rattle.rtc_run_history.specs.Sides.{other_side}
use Rattle.rtc_run_laws.proofs.KeptNegotiation.{answer_step_keeps, negotiates_keep, offer_step_keeps}
use Rattle.rtc_run_laws.proofs.RowLemmas.{closed_stays}
use Rattle.rtc_run_laws.proofs.StepWalks.{AnyInput, CallsKeep, calls_keep, close_keep, datagram_keep, drain_keep, poll_keep, write_keep}

module _ {I D S M E X T W N : Type 0} (m : Meanings I D S M E X T W N) where
  -- the changes of a peer that is not closed; a closed one stays so, and no number that a channel was given is taken back
  pub record StepRows (p q : PolledPeer I D S M N) : Type 0 where
    pub closed : p.core.phase ≡ Closed → q.core.phase ≡ Closed
    pub given : p.core.channels.given ≤ q.core.channels.given
    pub changed : (q.core.phase ≡ Closed) ⊎ RowsChanged m.association p.core.channels p.core.sctp q.core.channels q.core.sctp

  pub rows_none : (p q : PolledPeer I D S M N) → q ≡ p → StepRows p q
  rows_none p q is =
      subst (λ (x : PolledPeer I D S M N). StepRows p x) (sym is)
      (record { closed = λ k. k; given = omega arith; changed = inr (none_changed m.association p.core.channels p.core.sctp) })

  rows_on : (p b q : PolledPeer I D S M N) → StepRows p b → StepRows b q → StepRows p q
  rows_on p b q h k = record {
    closed = λ e. k.closed (h.closed e);
    given = given_on p.core.channels.given b.core.channels.given q.core.channels.given h.given k.given;
    changed = by h.changed k.changed;
  }
    where
      by : (b.core.phase ≡ Closed) ⊎ RowsChanged m.association p.core.channels p.core.sctp b.core.channels b.core.sctp
          → (q.core.phase ≡ Closed) ⊎ RowsChanged m.association b.core.channels b.core.sctp q.core.channels q.core.sctp
          → (q.core.phase ≡ Closed) ⊎ RowsChanged m.association p.core.channels p.core.sctp q.core.channels q.core.sctp
      by (inl e) after = inl (k.closed e)
      by (inr first) (inl e) = inl e
      by (inr first) (inr after) =
          inr (changed_on m.association p.core.channels p.core.sctp b.core.channels b.core.sctp q.core.channels q.core.sctp first after)

  call_rows : (p q : PolledPeer I D S M N) (wrote : List StreamMessage) → CallKeepsStreams m p wrote q → StepRows p q
  call_rows p q wrote keeps = record { closed = keeps.closed; given = keeps.given; changed = keeps.changed }

  -- ---- rollbacks

  -- channels go, and their association and phase are unchanged
  pub record RowsCancelled (p q : PolledPeer I D S M N) : Type 0 where
    pub channels : List (ℕ × ChannelConfig)
    pub cancelled : q.core.channels ≡ all_cancelled channels p.core.channels
    pub sctp : q.core.sctp ≡ p.core.sctp
    pub phase : q.core.phase ≡ p.core.phase

  abbrev pub StepChanges : (p q : PolledPeer I D S M N) → Type 0
  StepChanges p q = StepRows p q ⊎ RowsCancelled p q

  pub changes_closed : (p q : PolledPeer I D S M N) → StepChanges p q → p.core.phase ≡ Closed → q.core.phase ≡ Closed
  changes_closed p q (inl h) e = h.closed e
  changes_closed p q (inr h) e = h.phase ∙ e

  -- no number that a channel was given is taken back
  pub changes_given : (p q : PolledPeer I D S M N) → StepChanges p q → p.core.channels.given ≤ q.core.channels.given
  changes_given p q (inl h) = h.given
  changes_given p q (inr h) = omega (arith, ap (λ (x : Channels). x.given) h.cancelled ∙ cancelled_given h.channels p.core.channels)

  same_rows : (old new : PolledPeer I D S M N) → new.core ≡ old.core → RowsCancelled old new
  same_rows old new is = record {
    channels = [];
    cancelled = ap (λ (x : Peer I D S M N). x.channels) is;
    sctp = ap (λ (x : Peer I D S M N). x.sctp) is;
    phase = ap (λ (x : Peer I D S M N). x.phase) is;
  }

  rolled_rows : (old new : PolledPeer I D S M N) (token : PendingOffer) (r : Result (Unit {0}) RtcError) → RollsBack (lent old.core) token r new.core
      → RowsCancelled old new
  rolled_rows old new token (Ok done) h = record {
    channels = new_channels token.changes;
    cancelled = ap (λ (x : Peer I D S M N). x.channels) h.1;
    sctp = ap (λ (x : Peer I D S M N). x.sctp) h.1;
    phase = ap (λ (x : Peer I D S M N). x.phase) h.1;
  }
  rolled_rows old new token (Err ChangesOutOfOrder) h = record {
    channels = [];
    cancelled = ap (λ (x : Peer I D S M N). x.channels) h.1;
    sctp = ap (λ (x : Peer I D S M N). x.sctp) h.1;
    phase = ap (λ (x : Peer I D S M N). x.phase) h.1;
  }
  rolled_rows old new token (Err (RemoteSdp why)) h = absurd h
  rolled_rows old new token (Err (SdpRefused error)) h = absurd h
  rolled_rows old new token (Err (Dtls error)) h = absurd h
  rolled_rows old new token (Err (Sctp error)) h = absurd h
  rolled_rows old new token (Err (Net cause)) h = absurd h
  rolled_rows old new token (Err (MediaFailed cause)) h = absurd h
  rolled_rows old new token (Err BadChannel) h = absurd h
  rolled_rows old new token (Err PeerAlloc) h = absurd h
  rolled_rows old new token (Err Glare) h = absurd h

  pub rollback_rows : (t : ℕ) (token : Option PendingOffer) (old : PolledPeer I D S M N) (sdps : List Kept) (outcome : Outcome E)
      (table : Option Table) (new : PolledPeer I D S M N) (sdps' : List Kept) → StepRollsBack m t token old.core sdps outcome table new.core sdps'
      → RowsCancelled old new
  rollback_rows t None old sdps Alloc None new sdps' h = same_rows old new h.peer
  rollback_rows t (Some token) old sdps Alloc None new sdps' h = same_rows old new h.peer
  rollback_rows t None old sdps NoSuch (Some table) new sdps' h = same_rows old new h.0.peer
  rollback_rows t (Some token) old sdps Done (Some table) new sdps' h = rolled_rows old new token (Ok tt) h.0
  rollback_rows t (Some token) old sdps (Refused error) (Some table) new sdps' h = rolled_rows old new token (Err error) h.0
  rollback_rows t token old sdps outcome table new sdps' h = absurd h

  module _ (laws : PartsLaws m) where
    -- polls
    answer_rows : (p : PolledPeer I D S M N) (answer : Result (Output E) RtcError) (q : PolledPeer I D S M N) → PollsPeer m p answer q
        → UnlessLacking answer (RowsPolled m.association p.core.channels p.core.sctp q.core.channels q.core.sctp)
        → (q.core.phase ≡ Closed) ⊎ RowsChanged m.association p.core.channels p.core.sctp q.core.channels q.core.sctp
    answer_rows p (Ok output) q h changed =
        inr (polled_changes m.association p.core.channels p.core.sctp q.core.channels q.core.sctp changed)
    answer_rows p (Err PeerAlloc) q h changed = inl (poll_lacks m p q h)
    answer_rows p (Err error) q h changed =
        inr (polled_changes m.association p.core.channels p.core.sctp q.core.channels q.core.sctp changed)

    pub poll_rows : (p : PolledPeer I D S M N) (answer : Result (Output E) RtcError) (q : PolledPeer I D S M N) → PollsPeer m p answer q → StepRows p q
    poll_rows p answer q h = record {
      closed = λ e. (closed_stays m p answer q e h).1;
      given = (poll_acts m laws p answer q h).streams.given;
      changed = answer_rows p answer q h (poll_acts m laws p answer q h).streams.changed;
    }

    -- what each call keeps that is none of negotiation
    pub calls_rows : CallsKeep m AnyInput StepRows
    calls_rows = record {
      beside = record {
        none = λ p q is. rows_none p q is;
        inputs = λ input any p r q h. call_rows p q [] (input_keeps m laws.association input p r q h);
        writes = λ stream binary bytes p r q h. call_rows p q _ (channel_write_keeps m laws.association stream binary bytes p r q h);
        shuts = λ id p r q h. call_rows p q [] (channel_close_keeps m laws.association id p r q h);
      };
      on = λ p b q h k. rows_on p b q h k;
      polls = λ p answer q h. poll_rows p answer q h;
    }

    -- each step, an arm each
    pub acts_rows : (stun : List ℕ → Bool) (other own : Addr) (step : Step) (old : PolledPeer I D S M N) (sdps : List Kept) (packets : List SentPacket)
        (outcome : Outcome E) (table : Option Table) (new : PolledPeer I D S M N) (sdps' : List Kept) (packets' : List SentPacket)
        → is_native step ≡ true → Acts m stun other own step old sdps packets outcome table new sdps' packets' → StepChanges old new
    acts_rows stun other own (Negotiate at ops apply) old sdps packets outcome table new sdps' packets' native h =
        inl
        (call_rows old new [] (negotiates_keep m at ops apply old sdps outcome table new sdps' h.0))
    acts_rows stun other own (AcceptOffer at offer) old sdps packets outcome table new sdps' packets' native h =
        inl
        (call_rows old new []
        (offer_step_keeps m laws.association at (kept_remote_sdp true sdps at offer) old sdps outcome table new sdps' h.0))
    acts_rows stun other own (AcceptAnswer at token answer) old sdps packets outcome table new sdps' packets' native h =
        inl
        (call_rows old new []
        (answer_step_keeps m laws.association token (held_token sdps at token) (kept_remote_sdp false sdps at answer) old sdps outcome table new
        sdps' h.0))
    acts_rows stun other own (Time at now) old sdps packets outcome table new sdps' packets' native h =
        inl
        (calls_keep m StepRows calls_rows.beside (HandlesInput m (given.Timeout now))
        (λ p r q k. call_rows p q [] (input_keeps m laws.association (given.Timeout now) p r q k)) old outcome table new h.0)
    acts_rows stun other own (Datagram at packet now) old sdps packets outcome table new sdps' packets' native h =
        inl
        (datagram_keep m StepRows calls_rows.beside stun (remote_packet packets at packet) now (λ datagram. tt) old outcome table new h.0)
    acts_rows stun other own (Poll at) old sdps packets outcome table new sdps' packets' native h =
        inl
        (poll_keep m StepRows calls_rows at old packets outcome table new packets' h.0)
    acts_rows stun other own (Drain at) old sdps packets outcome table new sdps' packets' native h =
        inl
        (drain_keep m StepRows calls_rows at old packets outcome table new packets' h.0)
    acts_rows stun other own (Write at channel binary bytes) old sdps packets outcome table new sdps' packets' native h =
        inl
        (write_keep m StepRows calls_rows.beside (open_stream_under channel old) binary bytes old outcome table new h.0)
    acts_rows stun other own (CloseChannel at channel) old sdps packets outcome table new sdps' packets' native h =
        inl
        (close_keep m StepRows calls_rows.beside (open_stream_under channel old) channel old outcome table new h.0)
    acts_rows stun other own (Close at) old sdps packets outcome table new sdps' packets' native h =
        inl
        (calls_keep m StepRows calls_rows.beside (ClosesPeer m) (λ p r q k. call_rows p q [] (close_keeps m laws.association p r q k)) old outcome table new h.0)
    acts_rows stun other own (Rollback at token) old sdps packets outcome table new sdps' packets' native h =
        inr (rollback_rows token (held_token sdps at token) old sdps outcome table new sdps' h.0)
    acts_rows stun other own (ForeignOffer at text) old sdps packets outcome table new sdps' packets' native h = absurd (true≢false (sym native))
    acts_rows stun other own (ForeignAnswer at token text) old sdps packets outcome table new sdps' packets' native h = absurd (true≢false (sym native))
    acts_rows stun other own (Raw at bytes now) old sdps packets outcome table new sdps' packets' native h = absurd (true≢false (sym native))

  -- the side that acts, and the other one
  pub rows_at : (at x : Side) (between pair : PairState I D S M N) → StepChanges (rtc_at at between) (rtc_at at pair)
      → rtc_at (other_side at) pair ≡ rtc_at (other_side at) between → StepChanges (rtc_at x between) (rtc_at x pair)
  rows_at Left Left between pair h same = h
  rows_at Left Right between pair h same = inl (rows_none (rtc_at Right between) (rtc_at Right pair) same)
  rows_at Right Left between pair h same = inl (rows_none (rtc_at Left between) (rtc_at Left pair) same)
  rows_at Right Right between pair h same = h
