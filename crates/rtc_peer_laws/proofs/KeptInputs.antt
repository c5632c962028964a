-- The inputs of a peer keep the use of each stream, and live channels.
use Rattle.std.proofs.Common.{◌≡◌, ◌⊎◌, inl, inr, ◌&&◌, ℕ, Bool, true, false, List, [], Result, Ok, Err, refl, ap, subst, ◌∙◌}
use Rattle.std.specs.Prelude.{alloc_error}
use Rattle.std.specs.declared.alloc.AllocError.{AllocError}
use Rattle.rtc_wire.specs.declared.datagram_recv.DatagramRecv.{DatagramRecv}
use Rattle.rtc_wire.specs.declared.datagram_recv.DatagramRecv.TheVariants as datagrams
use Rattle.rtc_wire.specs.declared.receive.Receive.{Receive}
use Rattle.rtc_parts.specs.AssociationLaws.{AssociationLaws}
use Rattle.rtc_ready.specs.Signals.{both}
use Rattle.rtc_channels.specs.Channels.{Channels}
use Rattle.rtc_channels.specs.Openings.{MeetsMoment, is_progress_due}
use Rattle.rtc_peer_core.specs.declared.phase.Phase.{Phase}
use Rattle.rtc_peer_core.specs.declared.phase.Phase.TheVariants.{Alive, Closing, Closed}
use Rattle.rtc_peer_core.specs.declared.rtc_error.RtcError.{RtcError}
use Rattle.rtc_peer_core.specs.declared.rtc_error.RtcError.TheVariants.{Alloc, Dtls, Media}
use Rattle.rtc_peer_core.specs.Meanings.{Meanings}
use Rattle.rtc_peer_transport.specs.declared.input.Input.{Input}
use Rattle.rtc_peer_transport.specs.declared.input.Input.TheVariants.{Timeout, Receive as Datagram}
use Rattle.rtc_peer_transport.specs.declared.polled_peer.PolledPeer.{PolledPeer}
use Rattle.rtc_peer_transport.specs.Statistics.{TimesStatistics}
use Rattle.rtc_peer_transport.proofs.StatisticsTurns.{StatisticsTimed, statistics_timed}
use Rattle.rtc_peer_polling.specs.Inputs.{TimesIce, TimesStreams, TimesChannels, TimesMedia, GivesTime, TakesTimeIf, HandlesInputBy, HandlesInputIn, HandlesInput, with_moment, StreamsTimed, ChannelsTimed}
use Rattle.rtc_peer_polling.specs.Inputs.{HearsStun, HearsDtls, HearsMedia, HearsKind, Hears, Heard, PartFailed}
use Rattle.rtc_peer_transport.specs.Stages.{Call, InTurn, Failed, Passed}
use Rattle.rtc_peer_laws.specs.RowsChanged.{Timed, Progressed}
use Rattle.rtc_peer_laws.proofs.ActedClosing.{beside}
use Rattle.rtc_peer_laws.specs.KeptChannels.{CallKeepsStreams}
use Rattle.rtc_peer_laws.proofs.KeptCalls.{kept_timeout, ChannelsKept, channels_on, moment_kept, same_channels}
use Rattle.rtc_peer_laws.proofs.KeptPeers.{CallKeeps, KeepsRows, StaysClosed, by_rows, calls_on, changes_one, kept_by, over_channels, same_kept, turn_keeps}

-- what is due for channels is so over an association that was started
due_started : (a b : Bool) → (a && b) ≡ true → a ≡ true
due_started true b h = refl
due_started false b h = h

module _ {I D S M E X T W N : Type 0} (m : Meanings I D S M E X T W N) where
  ice_keeps : (now : ℕ) → CallKeeps m (TimesIce m now)
  unfolding TimesIce
  ice_keeps now p (Ok done) q h = kept_by m p _ q h.1 (refl, refl, λ k. k)
  ice_keeps now p (Err Alloc) q h = kept_by m p _ q h.1 (refl, refl, λ k. refl)
  ice_keeps now p (Err _) q h = absurd h

  streams_keep : AssociationLaws m.association → (now : ℕ) → CallKeeps m (TimesStreams m now)
  unfolding TimesStreams
  streams_keep w now p (Ok done) q h =
      by_rows m p q [] (kept_timeout m.association w now p.core.sctp both (Ok tt) q.core.sctp h.0.0 h.0.1) (beside KeepsRows p _ q h.1 (refl, λ k. k))
      (λ is. changes_one m p q (Timed now both h.0.0 (Ok tt) h.0.1 is))
  streams_keep w now p (Err Alloc) q h =
      by_rows m p q [] (kept_timeout m.association w now p.core.sctp both (Err alloc_error) q.core.sctp h.0.0 h.0.1) (beside KeepsRows p _ q h.1 (refl, λ k. refl))
      (λ is. inl (ap (λ (x : PolledPeer I D S M N). x.core.phase) h.1))
  streams_keep w now p (Err _) q h = absurd h

  -- channels are handed a moment behind the streams
  timed_rows : (now : ℕ) (p b : PolledPeer I D S M N) → TimesStreams m now p (Ok tt) b → b.core.channels ≡ p.core.channels
  unfolding TimesStreams
  timed_rows now p b h = ap (λ (x : PolledPeer I D S M N). x.core.channels) h.1

  timed_streams : (now : ℕ) (p b : PolledPeer I D S M N) → TimesStreams m now p (Ok tt) b → StreamsTimed m.association now p.core.sctp (Ok tt) b.core.sctp
  unfolding TimesStreams
  timed_streams now p b h = h.0

  channels_kept : AssociationLaws m.association → (now : ℕ) (p b q : PolledPeer I D S M N) (r : Result (Unit {0}) AllocError)
      → TimesStreams m now p (Ok tt) b → ChannelsTimed m.association b.core.channels b.core.sctp r q.core.channels q.core.sctp
      → ChannelsKept m.association p.core.channels p.core.sctp q.core.channels q.core.sctp
  channels_kept w now p b q r h k =
      let timed = timed_streams now p b h in
      channels_on m.association p.core.channels p.core.sctp b.core.channels b.core.sctp q.core.channels q.core.sctp
      (same_channels m.association p.core.channels p.core.sctp b.core.channels b.core.sctp (timed_rows now p b h)
      (kept_timeout m.association w now p.core.sctp both (Ok tt) b.core.sctp timed.0 timed.1))
      (moment_kept m.association w (is_progress_due m.association b.core.channels b.core.sctp) b.core.channels b.core.sctp both r q.core.channels
      q.core.sctp k.0 k.1)

  channels_keep : AssociationLaws m.association → (now : ℕ) (p b : PolledPeer I D S M N) (r : Result (Unit {0}) RtcError) (q : PolledPeer I D S M N)
      → TimesStreams m now p (Ok tt) b → (p.core.phase ≡ Closed → b.core.phase ≡ Closed) → TimesChannels m b r q → CallKeepsStreams m p [] q
  unfolding TimesChannels
  channels_keep w now p b (Ok done) q h closed k =
      let timed = timed_streams now p b h in
      let due = is_progress_due m.association b.core.channels b.core.sctp in
      over_channels m p q (channels_kept w now p b q (Ok tt) h k.0) (λ e. beside StaysClosed b _ q k.1 (λ f. f) (closed e))
      (changes_one m p q
      (Progressed now both timed.0 b.core.sctp timed.1 due (λ e. due_started (m.association.started b.core.sctp.association) _ e) both k.0.0
      (subst (λ (x : Channels). MeetsMoment m.association due x b.core.sctp both (Ok tt) q.core.channels q.core.sctp k.0.0) (timed_rows now p b h) k.0.1)))
  channels_keep w now p b (Err Alloc) q h closed k =
      over_channels m p q (channels_kept w now p b q (Err alloc_error) h k.0) (λ e. beside StaysClosed b _ q k.1 (λ f. refl) (closed e))
      (inl (ap (λ (x : PolledPeer I D S M N). x.core.phase) k.1))
  channels_keep w now p b (Err _) q h closed k = absurd k

  media_keeps : (now : ℕ) → CallKeeps m (TimesMedia m now)
  unfolding TimesMedia
  media_keeps now p (Ok done) q h = kept_by m p _ q h.1 (refl, refl, λ k. k)
  media_keeps now p (Err (Media cause)) q h = kept_by m p _ q h.2 (refl, refl, λ k. k)
  media_keeps now p (Err Alloc) q h = kept_by m p _ q h.1 (refl, refl, λ k. refl)
  media_keeps now p (Err _) q h = absurd h

  stays_closed : (now : ℕ) (p : PolledPeer I D S M N) (r : Result (Unit {0}) RtcError) (q : PolledPeer I D S M N) → StatisticsTimed m now p r q
      → p.core.phase ≡ Closed → q.core.phase ≡ Closed
  stays_closed now p r q timed closed = by timed.ends
    where
      by : ((r ≡ Ok tt) × (q.core.phase ≡ p.core.phase)) ⊎ ((r ≡ Err Alloc) × (q.core.phase ≡ Closed)) → q.core.phase ≡ Closed
      by (inl same) = same.1 ∙ closed
      by (inr shut) = shut.1

  statistics_keep : (now : ℕ) → CallKeeps m (TimesStatistics m now)
  statistics_keep now p r q h =
      let timed = statistics_timed m now p r q h in
      kept_by m p _ q timed.kept (refl, refl, stays_closed now p r q timed)

  -- the streams, the channels behind them, and what follows
  behind_keep : AssociationLaws m.association → (now : ℕ) (rest : Call (PolledPeer I D S M N)) → CallKeeps m rest → (p b : PolledPeer I D S M N)
      (r : Result (Unit {0}) RtcError) (q : PolledPeer I D S M N) → TimesStreams m now p (Ok tt) b → (p.core.phase ≡ Closed → b.core.phase ≡ Closed)
      → InTurn (TimesChannels m) rest b r q → CallKeepsStreams m p [] q
  behind_keep w now rest others p b r q h closed (Failed error is k) = channels_keep w now p b (Err error) q h closed k
  behind_keep w now rest others p b r q h closed (Passed c k more) =
      calls_on m p c q (channels_keep w now p b (Ok tt) c h closed k) (others c r q more)

  both_keep : AssociationLaws m.association → (now : ℕ) (rest : Call (PolledPeer I D S M N)) → CallKeeps m rest
      → CallKeeps m (InTurn (TimesStreams m now) (InTurn (TimesChannels m) rest))
  both_keep w now rest others p r q (Failed error is h) = streams_keep w now p (Err error) q h
  both_keep w now rest others p r q (Passed b h k) = behind_keep w now rest others p b r q h (streams_keep w now p (Ok tt) b h).closed k

  gives_keep : AssociationLaws m.association → (now : ℕ) → CallKeeps m (GivesTime m now)
  gives_keep w now p r q h =
      calls_on m p (with_moment now p) q (same_kept m p (with_moment now p) (refl, refl, λ k. k))
      (turn_keeps m (TimesIce m now) _ (ice_keeps now)
      (both_keep w now _ (turn_keeps m (TimesMedia m now) (TimesStatistics m now) (media_keeps now) (statistics_keep now))) (with_moment now p) r q h)

  time_keeps : AssociationLaws m.association → (earlier : Bool) (now : ℕ) → CallKeeps m (TakesTimeIf m earlier now)
  time_keeps w true now p r q h = kept_by m p p q h.1 (refl, refl, λ k. k)
  time_keeps w false now p r q h = gives_keep w now p r q h

  stun_keeps : (now : ℕ) (datagram : Receive) (bytes : List ℕ) → CallKeeps m (HearsStun m now datagram bytes)
  unfolding HearsStun
  stun_keeps now datagram bytes p (Ok done) q h = kept_by m p _ q h.1 (refl, refl, λ k. k)
  stun_keeps now datagram bytes p (Err Alloc) q h = kept_by m p _ q h.1 (refl, refl, λ k. refl)
  stun_keeps now datagram bytes p (Err _) q h = absurd h

  dtls_keeps : (bytes : List ℕ) → CallKeeps m (HearsDtls m bytes)
  unfolding HearsDtls
  dtls_keeps bytes p (Ok done) q h = kept_by m p _ q h.1 (refl, refl, λ k. k)
  dtls_keeps bytes p (Err (Dtls cause)) q h = kept_by m p _ q h.2 (refl, refl, λ k. k)
  dtls_keeps bytes p (Err Alloc) q h = kept_by m p _ q h.1 (refl, refl, λ k. refl)
  dtls_keeps bytes p (Err _) q h = absurd h

  packet_keeps : (given : M → Result (Unit {0}) AllocError → M → Type 0) (bytes : List ℕ) → CallKeeps m (HearsMedia m given bytes)
  unfolding HearsMedia
  packet_keeps given bytes p (Ok done) q h = kept_by m p _ q h.1 (refl, refl, λ k. k)
  packet_keeps given bytes p (Err Alloc) q h = kept_by m p _ q h.1 (refl, refl, λ k. refl)
  packet_keeps given bytes p (Err _) q h = absurd h

  kind_keeps : (now : ℕ) (datagram : Receive) (contents : DatagramRecv) → CallKeeps m (HearsKind m now datagram contents)
  kind_keeps now datagram (datagrams.Stun view) p r q h = stun_keeps now datagram view.bytes.now p r q h
  kind_keeps now datagram (datagrams.Dtls bytes) p r q h = dtls_keeps bytes.now p r q h
  kind_keeps now datagram (datagrams.Rtp bytes) p r q h = packet_keeps (λ a s b. m.media.rtp_given a now bytes.now s b) bytes.now p r q h
  kind_keeps now datagram (datagrams.Rtcp bytes) p r q h = packet_keeps (λ a s b. m.media.rtcp_given a now bytes.now s b) bytes.now p r q h

  hears_keep : AssociationLaws m.association → (now : ℕ) (datagram : Receive) → CallKeeps m (Hears m now datagram)
  hears_keep w now datagram p r q (Heard between heard time) =
      calls_on m p between q (kind_keeps now datagram datagram.contents p (Ok tt) between heard) (time_keeps w _ now between r q time)
  hears_keep w now datagram p r q (PartFailed error is heard) = kind_keeps now datagram datagram.contents p (Err error) q heard

  input_by : AssociationLaws m.association → (input : Input) → CallKeeps m (HandlesInputBy m input)
  input_by w (Timeout now) p r q h = time_keeps w _ now p r q h
  input_by w (Datagram now datagram) p r q h = hears_keep w now datagram p r q h

  input_in : AssociationLaws m.association → (phase : Phase) (input : Input) → CallKeeps m (HandlesInputIn m phase input)
  input_in w Alive input p r q h = input_by w input p r q h
  input_in w Closing input p r q h = input_by w input p r q h
  input_in w Closed input p r q h = kept_by m p p q h.1 (refl, refl, λ k. k)

  pub input_keeps : AssociationLaws m.association → (input : Input) → CallKeeps m (HandlesInput m input)
  input_keeps w input p r q h = input_in w p.core.phase input p r q h
