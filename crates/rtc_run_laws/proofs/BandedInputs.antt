-- Inputs, writes and closes of a peer of which no channel, and no entry, was settled for one stream by other means than messages, unless it is
-- closed.
use Rattle.std.proofs.Common.{◌≡◌, ◌∙◌, ◌⊎◌, inl, inr, ℕ, Bool, true, false, List, Option, Some, None, Result, Ok, Err, refl, sym, ap, subst}
use Rattle.std.specs.declared.alloc.AllocError.{AllocError}
use Rattle.rtc_wire.specs.declared.datagram_recv.DatagramRecv.{DatagramRecv}
use Rattle.rtc_wire.specs.declared.datagram_recv.DatagramRecv.TheVariants as datagrams
use Rattle.rtc_wire.specs.declared.receive.Receive.{Receive}
use Rattle.rtc_ready.specs.Signals.{both}
use Rattle.rtc_sctp.specs.Calls.{can_write, is_current}
use Rattle.rtc_sctp.specs.Streams.{SctpStreams}
use Rattle.rtc_channels.specs.Openings.{ClosesChannel, is_progress_due}
use Rattle.rtc_peer_core.specs.declared.phase.Phase.{Phase}
use Rattle.rtc_peer_core.specs.declared.phase.Phase.TheVariants.{Alive, Closing, Closed}
use Rattle.rtc_peer_core.specs.declared.rtc_error.RtcError.{RtcError}
use Rattle.rtc_peer_core.specs.declared.rtc_error.RtcError.TheVariants.{Alloc, Dtls, Media}
use Rattle.rtc_peer_core.specs.Meanings.{Meanings}
use Rattle.rtc_peer_transport.specs.declared.input.Input.{Input}
use Rattle.rtc_peer_transport.specs.declared.input.Input.TheVariants.{Timeout, Receive as Datagram}
use Rattle.rtc_peer_transport.specs.declared.polled_peer.PolledPeer.{PolledPeer}
use Rattle.rtc_peer_transport.specs.ChannelCalls.{ClosesDataChannel, WritesChannel, WritesIf, stream_under}
use Rattle.rtc_peer_transport.specs.Statistics.{TimesStatistics}
use Rattle.rtc_peer_transport.proofs.StatisticsTurns.{StatisticsTimed, statistics_timed}
use Rattle.rtc_peer_polling.specs.Inputs.{TimesIce, TimesStreams, TimesChannels, TimesMedia, GivesTime, TakesTimeIf, HandlesInputBy, HandlesInputIn, HandlesInput, with_moment}
use Rattle.rtc_peer_polling.specs.Inputs.{HearsStun, HearsDtls, HearsMedia, HearsKind, Hears, Heard, PartFailed}
use Rattle.rtc_peer_transport.specs.Stages.{Call, InTurn, Failed, Passed}
use Rattle.rtc_peer_laws.proofs.KeptPeers.{written_same}
use Rattle.rtc_run_laws.proofs.BandedMoments.{same_rows, IsBanded, banded_same, moment_banded, timeout_banded}
use Rattle.rtc_run_laws.proofs.StandingCalls.{closes_kept}

module _ (the : ℕ) {I D S M E X T W N : Type 0} (m : Meanings I D S M E X T W N) where
  -- unless the peer is closed
  abbrev pub SideBanded : PolledPeer I D S M N → Type 0
  SideBanded p = (p.core.phase ≡ Closed) ⊎ IsBanded the p.core.channels p.core.sctp.entries

  abbrev pub KeepsBand : PolledPeer I D S M N → PolledPeer I D S M N → Type 0
  KeepsBand p q = SideBanded p → SideBanded q

  -- channels and entries stay, and a closed peer stays so
  pub band_stays : (p q : PolledPeer I D S M N) → q.core.channels ≡ p.core.channels → q.core.sctp.entries ≡ p.core.sctp.entries
      → (p.core.phase ≡ Closed → q.core.phase ≡ Closed) → KeepsBand p q
  band_stays p q channels entries closed (inl e) = inl (closed e)
  band_stays p q channels entries closed (inr k) =
      inr
      (banded_same the p.core.channels q.core.channels p.core.sctp.entries q.core.sctp.entries
      (same_rows the p.core.channels q.core.channels channels) entries k)

  -- what a part alone was told
  band_by : (p n q : PolledPeer I D S M N) → q ≡ n → n.core.channels ≡ p.core.channels → n.core.sctp.entries ≡ p.core.sctp.entries
      → (p.core.phase ≡ Closed → n.core.phase ≡ Closed) → KeepsBand p q
  band_by p n q is channels entries closed =
      subst (λ (x : PolledPeer I D S M N). KeepsBand p x) (sym is) (band_stays p n channels entries closed)

  -- or it is closed
  band_shut : (p n q : PolledPeer I D S M N) → q ≡ n → n.core.phase ≡ Closed → KeepsBand p q
  band_shut p n q is closed h = inl (ap (λ (x : PolledPeer I D S M N). x.core.phase) is ∙ closed)

  abbrev pub CallKeepsBand : Call (PolledPeer I D S M N) → Type 0
  CallKeepsBand call = (p : PolledPeer I D S M N) (r : Result (Unit {0}) RtcError) (q : PolledPeer I D S M N) → call p r q → KeepsBand p q

  turn_band : (first rest : Call (PolledPeer I D S M N)) → CallKeepsBand first → CallKeepsBand rest → CallKeepsBand (InTurn first rest)
  turn_band first rest one other p r q (Failed error is h) = one p (Err error) q h
  turn_band first rest one other p r q (Passed between h k) = λ x. other between r q k (one p (Ok tt) between h x)

  -- ---- moments

  ice_band : (now : ℕ) → CallKeepsBand (TimesIce m now)
  unfolding TimesIce
  ice_band now p (Ok done) q h = band_by p _ q h.1 refl refl (λ k. k)
  ice_band now p (Err Alloc) q h = band_shut p _ q h.1 refl
  ice_band now p (Err _) q h = absurd h

  streams_band : (now : ℕ) → CallKeepsBand (TimesStreams m now)
  unfolding TimesStreams
  streams_band now p (Ok done) q h = by
    where
      channels : q.core.channels ≡ p.core.channels
      channels = ap (λ (x : PolledPeer I D S M N). x.core.channels) h.1

      by : KeepsBand p q
      by (inl e) = inl (ap (λ (x : PolledPeer I D S M N). x.core.phase) h.1 ∙ e)
      by (inr k) =
          inr (timeout_banded the m.association now p.core.channels q.core.channels p.core.sctp both (Ok tt) q.core.sctp h.0.0 h.0.1 channels k)
  streams_band now p (Err Alloc) q h = band_shut p _ q h.1 refl
  streams_band now p (Err _) q h = absurd h

  channels_band : CallKeepsBand (TimesChannels m)
  unfolding TimesChannels
  channels_band p (Ok done) q h = by
    where
      by : KeepsBand p q
      by (inl e) = inl (ap (λ (x : PolledPeer I D S M N). x.core.phase) h.1 ∙ e)
      by (inr k) =
          inr
          (moment_banded the m.association (is_progress_due m.association p.core.channels p.core.sctp) p.core.channels p.core.sctp both q.core.channels
          q.core.sctp h.0.0 h.0.1 k)
  channels_band p (Err Alloc) q h = band_shut p _ q h.1 refl
  channels_band p (Err _) q h = absurd h

  media_band : (now : ℕ) → CallKeepsBand (TimesMedia m now)
  unfolding TimesMedia
  media_band now p (Ok done) q h = band_by p _ q h.1 refl refl (λ k. k)
  media_band now p (Err (Media cause)) q h = band_by p _ q h.2 refl refl (λ k. k)
  media_band now p (Err Alloc) q h = band_shut p _ q h.1 refl
  media_band now p (Err _) q h = absurd h

  statistics_band : (now : ℕ) → CallKeepsBand (TimesStatistics m now)
  statistics_band now p r q h = by (statistics_timed m now p r q h)
    where
      by : StatisticsTimed m now p r q → KeepsBand p q
      by timed =
          band_stays p q (ap (λ (x : PolledPeer I D S M N). x.core.channels) timed.kept) (ap (λ (x : PolledPeer I D S M N). x.core.sctp.entries) timed.kept)
          (λ closed. ends closed timed.ends)
        where
          ends : p.core.phase ≡ Closed → ((r ≡ Ok tt) × (q.core.phase ≡ p.core.phase)) ⊎ ((r ≡ Err Alloc) × (q.core.phase ≡ Closed))
              → q.core.phase ≡ Closed
          ends closed (inl same) = same.1 ∙ closed
          ends closed (inr shut) = shut.1

  gives_band : (now : ℕ) → CallKeepsBand (GivesTime m now)
  gives_band now p r q h = λ x.
      turn_band (TimesIce m now) _ (ice_band now)
      (turn_band (TimesStreams m now) _ (streams_band now)
      (turn_band (TimesChannels m) _ channels_band (turn_band (TimesMedia m now) (TimesStatistics m now) (media_band now) (statistics_band now))))
      (with_moment now p) r q h
      (band_stays p (with_moment now p) refl refl (λ k. k) x)

  time_band : (earlier : Bool) (now : ℕ) → CallKeepsBand (TakesTimeIf m earlier now)
  time_band true now p r q h = band_by p p q h.1 refl refl (λ k. k)
  time_band false now p r q h = gives_band now p r q h

  -- ---- datagrams

  stun_band : (now : ℕ) (datagram : Receive) (bytes : List ℕ) → CallKeepsBand (HearsStun m now datagram bytes)
  unfolding HearsStun
  stun_band now datagram bytes p (Ok done) q h = band_by p _ q h.1 refl refl (λ k. k)
  stun_band now datagram bytes p (Err Alloc) q h = band_shut p _ q h.1 refl
  stun_band now datagram bytes p (Err _) q h = absurd h

  dtls_band : (bytes : List ℕ) → CallKeepsBand (HearsDtls m bytes)
  unfolding HearsDtls
  dtls_band bytes p (Ok done) q h = band_by p _ q h.1 refl refl (λ k. k)
  dtls_band bytes p (Err (Dtls cause)) q h = band_by p _ q h.2 refl refl (λ k. k)
  dtls_band bytes p (Err Alloc) q h = band_shut p _ q h.1 refl
  dtls_band bytes p (Err _) q h = absurd h

  packet_band : (given : M → Result (Unit {0}) AllocError → M → Type 0) (bytes : List ℕ) → CallKeepsBand (HearsMedia m given bytes)
  unfolding HearsMedia
  packet_band given bytes p (Ok done) q h = band_by p _ q h.1 refl refl (λ k. k)
  packet_band given bytes p (Err Alloc) q h = band_shut p _ q h.1 refl
  packet_band given bytes p (Err _) q h = absurd h

  kind_band : (now : ℕ) (datagram : Receive) (contents : DatagramRecv) → CallKeepsBand (HearsKind m now datagram contents)
  kind_band now datagram (datagrams.Stun view) p r q h = stun_band now datagram view.bytes.now p r q h
  kind_band now datagram (datagrams.Dtls bytes) p r q h = dtls_band bytes.now p r q h
  kind_band now datagram (datagrams.Rtp bytes) p r q h = packet_band (λ a s b. m.media.rtp_given a now bytes.now s b) bytes.now p r q h
  kind_band now datagram (datagrams.Rtcp bytes) p r q h = packet_band (λ a s b. m.media.rtcp_given a now bytes.now s b) bytes.now p r q h

  hears_band : (now : ℕ) (datagram : Receive) → CallKeepsBand (Hears m now datagram)
  hears_band now datagram p r q (Heard between heard time) = λ x.
      time_band _ now between r q time (kind_band now datagram datagram.contents p (Ok tt) between heard x)
  hears_band now datagram p r q (PartFailed error is heard) = kind_band now datagram datagram.contents p (Err error) q heard

  input_by : (input : Input) → CallKeepsBand (HandlesInputBy m input)
  input_by (Timeout now) p r q h = time_band _ now p r q h
  input_by (Datagram now datagram) p r q h = hears_band now datagram p r q h

  input_in : (phase : Phase) (input : Input) → CallKeepsBand (HandlesInputIn m phase input)
  input_in Alive input p r q h = input_by input p r q h
  input_in Closing input p r q h = input_by input p r q h
  input_in Closed input p r q h = band_by p p q h.1 refl refl (λ k. k)

  pub input_band : (input : Input) → CallKeepsBand (HandlesInput m input)
  input_band input p r q h = input_in p.core.phase input p r q h

  -- ---- writes, and closes of channels

  write_by : (full : Bool) (stream : ℕ) (binary : Bool) (bytes : List ℕ) (p : PolledPeer I D S M N) (r : Result Bool RtcError)
      (q : PolledPeer I D S M N) → WritesIf m full stream binary bytes p r q → KeepsBand p q
  write_by true stream binary bytes p r q h = band_by p p q h.1 refl refl (λ k. k)
  write_by false stream binary bytes p r q h =
      band_stays p q (ap (λ (x : PolledPeer I D S M N). x.core.channels) h.3)
      (written_same m.association (can_write m.association stream p.core.sctp) (is_current m.association stream p.core.sctp) stream binary bytes
      p.core.sctp h.0 q.core.sctp h.1).0
      (λ k. ap (λ (x : PolledPeer I D S M N). x.core.phase) h.3 ∙ k)

  pub write_band : (stream : ℕ) (binary : Bool) (bytes : List ℕ) (p : PolledPeer I D S M N) (r : Result Bool RtcError) (q : PolledPeer I D S M N)
      → WritesChannel m stream binary bytes p r q → KeepsBand p q
  write_band stream binary bytes p r q h = write_by _ stream binary bytes p r q h

  pub shut_band : (id : ℕ) (p : PolledPeer I D S M N) (r : Result (Unit {0}) AllocError) (q : PolledPeer I D S M N) → ClosesDataChannel m id p r q
      → KeepsBand p q
  shut_band id p r q h = by (stream_under id p.core.channels) h.0
    where
      channels : q.core.channels ≡ p.core.channels
      channels = ap (λ (x : PolledPeer I D S M N). x.core.channels) h.1

      phase : p.core.phase ≡ Closed → q.core.phase ≡ Closed
      phase e = ap (λ (x : PolledPeer I D S M N). x.core.phase) h.1 ∙ e

      by : (stream : Option ℕ) → ClosesChannel m.association stream p.core.sctp r q.core.sctp → KeepsBand p q
      by None closes k = band_stays p q channels (ap (λ (x : SctpStreams S). x.entries) closes.1) phase k
      by (Some stream) closes (inl e) = inl (phase e)
      by (Some stream) closes (inr k) =
          inr
          (record {
            rows = stays.rows;
            entries = (closes_kept m.association stream p.core.sctp r q.core.sctp closes).banded the k.entries;
            numbers = stays.numbers;
          })
        where
          stays : IsBanded the q.core.channels p.core.sctp.entries
          stays =
              banded_same the p.core.channels q.core.channels p.core.sctp.entries p.core.sctp.entries
              (same_rows the p.core.channels q.core.channels channels) refl k
