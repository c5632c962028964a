-- An input changes nothing of what negotiation keeps beside the channels and their streams.
use Rattle.std.proofs.Common.{ℕ, Bool, true, false, List, Result, Ok, Err, refl}
use Rattle.std.specs.declared.alloc.AllocError.{AllocError}
use Rattle.rtc_wire.specs.declared.datagram_recv.DatagramRecv.{DatagramRecv}
use Rattle.rtc_wire.specs.declared.datagram_recv.DatagramRecv.TheVariants as datagrams
use Rattle.rtc_wire.specs.declared.receive.Receive.{Receive}
use Rattle.rtc_peer_core.specs.declared.phase.Phase.{Phase}
use Rattle.rtc_peer_core.specs.declared.phase.Phase.TheVariants.{Alive, Closing, Closed}
use Rattle.rtc_peer_core.specs.Meanings.{Meanings}
use Rattle.rtc_peer_transport.specs.declared.input.Input.{Input}
use Rattle.rtc_peer_transport.specs.declared.input.Input.TheVariants.{Timeout as TimeCame, Receive as Datagram}
use Rattle.rtc_peer_transport.specs.declared.polled_peer.PolledPeer.{PolledPeer}
use Rattle.rtc_peer_core.specs.declared.rtc_error.RtcError.{RtcError}
use Rattle.rtc_peer_core.specs.declared.rtc_error.RtcError.TheVariants.{Dtls, Media, Alloc}
use Rattle.rtc_peer_polling.specs.Inputs.{TimesIce, TimesStreams, TimesChannels, TimesMedia, GivesTime, TakesTimeIf, with_moment, HearsStun, HearsDtls, HearsMedia, HearsKind, Hears, Heard, PartFailed, HandlesInputBy, HandlesInputIn, HandlesInput}
use Rattle.rtc_peer_polling.specs.Kept.{KeepsNegotiation}
use Rattle.rtc_peer_transport.specs.Statistics.{TimesStatistics}
use Rattle.rtc_peer_polling.proofs.KeptCalls.{CallKeeps, keeps_on, keeps_by, turn_keeps}
use Rattle.rtc_peer_transport.proofs.StatisticsTurns.{statistics_timed}

module _ {I D S M E X T W N : Type 0} (m : Meanings I D S M E X T W N) where
  ice_timed_keeps : (now : ℕ) → CallKeeps (TimesIce m now)
  unfolding TimesIce
  ice_timed_keeps now p (Ok done) q h = keeps_by p _ q h.1 refl
  ice_timed_keeps now p (Err Alloc) q h = keeps_by p _ q h.1 refl
  ice_timed_keeps now p (Err _) q h = absurd h

  streams_timed_keep : (now : ℕ) → CallKeeps (TimesStreams m now)
  unfolding TimesStreams
  streams_timed_keep now p (Ok done) q h = keeps_by p _ q h.1 refl
  streams_timed_keep now p (Err Alloc) q h = keeps_by p _ q h.1 refl
  streams_timed_keep now p (Err _) q h = absurd h

  channels_timed_keep : CallKeeps (TimesChannels m)
  unfolding TimesChannels
  channels_timed_keep p (Ok done) q h = keeps_by p _ q h.1 refl
  channels_timed_keep p (Err Alloc) q h = keeps_by p _ q h.1 refl
  channels_timed_keep p (Err _) q h = absurd h

  media_timed_keeps : (now : ℕ) → CallKeeps (TimesMedia m now)
  unfolding TimesMedia
  media_timed_keeps now p (Ok done) q h = keeps_by p _ q h.1 refl
  media_timed_keeps now p (Err (Media cause)) q h = keeps_by p _ q h.2 refl
  media_timed_keeps now p (Err Alloc) q h = keeps_by p _ q h.1 refl
  media_timed_keeps now p (Err _) q h = absurd h

  time_given_keeps : (now : ℕ) → CallKeeps (GivesTime m now)
  time_given_keeps now p r q h =
      keeps_on p (with_moment now p) q refl
      (turn_keeps (TimesIce m now) _ (ice_timed_keeps now)
      (turn_keeps (TimesStreams m now) _ (streams_timed_keep now)
      (turn_keeps (TimesChannels m) _ channels_timed_keep
      (turn_keeps (TimesMedia m now) (TimesStatistics m now) (media_timed_keeps now)
      (λ p r q h. keeps_by p _ q (statistics_timed m now p r q h).kept refl))))
      (with_moment now p) r q h)

  time_keeps : (earlier : Bool) (now : ℕ) (p : PolledPeer I D S M N) (r : Result (Unit {0}) RtcError) (q : PolledPeer I D S M N)
      → TakesTimeIf m earlier now p r q → KeepsNegotiation p q
  time_keeps true now p r q h = keeps_by p p q h.1 refl
  time_keeps false now p r q h = time_given_keeps now p r q h

  stun_keeps : (now : ℕ) (datagram : Receive) (bytes : List ℕ) (p : PolledPeer I D S M N) (r : Result (Unit {0}) RtcError)
      (q : PolledPeer I D S M N) → HearsStun m now datagram bytes p r q → KeepsNegotiation p q
  unfolding HearsStun
  stun_keeps now datagram bytes p (Ok done) q h = keeps_by p _ q h.1 refl
  stun_keeps now datagram bytes p (Err Alloc) q h = keeps_by p _ q h.1 refl
  stun_keeps now datagram bytes p (Err _) q h = absurd h

  dtls_keeps : (bytes : List ℕ) (p : PolledPeer I D S M N) (r : Result (Unit {0}) RtcError) (q : PolledPeer I D S M N) → HearsDtls m bytes p r q
      → KeepsNegotiation p q
  unfolding HearsDtls
  dtls_keeps bytes p (Ok done) q h = keeps_by p _ q h.1 refl
  dtls_keeps bytes p (Err (Dtls cause)) q h = keeps_by p _ q h.2 refl
  dtls_keeps bytes p (Err Alloc) q h = keeps_by p _ q h.1 refl
  dtls_keeps bytes p (Err _) q h = absurd h

  media_keeps : (given : M → Result (Unit {0}) AllocError → M → Type 0) (bytes : List ℕ) (p : PolledPeer I D S M N)
      (r : Result (Unit {0}) RtcError) (q : PolledPeer I D S M N) → HearsMedia m given bytes p r q → KeepsNegotiation p q
  unfolding HearsMedia
  media_keeps given bytes p (Ok done) q h = keeps_by p _ q h.1 refl
  media_keeps given bytes p (Err Alloc) q h = keeps_by p _ q h.1 refl
  media_keeps given bytes p (Err _) q h = absurd h

  kind_keeps : (now : ℕ) (datagram : Receive) (contents : DatagramRecv) (p : PolledPeer I D S M N) (r : Result (Unit {0}) RtcError)
      (q : PolledPeer I D S M N) → HearsKind m now datagram contents p r q → KeepsNegotiation p q
  kind_keeps now datagram (datagrams.Stun view) p r q h = stun_keeps now datagram view.bytes.now p r q h
  kind_keeps now datagram (datagrams.Dtls bytes) p r q h = dtls_keeps bytes.now p r q h
  kind_keeps now datagram (datagrams.Rtp bytes) p r q h = media_keeps _ bytes.now p r q h
  kind_keeps now datagram (datagrams.Rtcp bytes) p r q h = media_keeps _ bytes.now p r q h

  hears_keep : (now : ℕ) (datagram : Receive) (p : PolledPeer I D S M N) (r : Result (Unit {0}) RtcError) (q : PolledPeer I D S M N)
      → Hears m now datagram p r q → KeepsNegotiation p q
  hears_keep now datagram p r q (Heard between heard time) =
      keeps_on p between q (kind_keeps now datagram datagram.contents p (Ok tt) between heard) (time_keeps _ now between r q time)
  hears_keep now datagram p r q (PartFailed error is heard) = kind_keeps now datagram datagram.contents p (Err error) q heard

  input_by_keeps : (input : Input) (p : PolledPeer I D S M N) (r : Result (Unit {0}) RtcError) (q : PolledPeer I D S M N)
      → HandlesInputBy m input p r q → KeepsNegotiation p q
  input_by_keeps (TimeCame now) p r q h = time_keeps _ now p r q h
  input_by_keeps (Datagram now datagram) p r q h = hears_keep now datagram p r q h

  input_in_keeps : (phase : Phase) (input : Input) (p : PolledPeer I D S M N) (r : Result (Unit {0}) RtcError) (q : PolledPeer I D S M N)
      → HandlesInputIn m phase input p r q → KeepsNegotiation p q
  input_in_keeps Alive input p r q h = input_by_keeps input p r q h
  input_in_keeps Closing input p r q h = input_by_keeps input p r q h
  input_in_keeps Closed input p r q h = keeps_by p p q h.1 refl

  -- an input keeps it
  pub input_keeps : (input : Input) (p : PolledPeer I D S M N) (r : Result (Unit {0}) RtcError) (q : PolledPeer I D S M N) → HandlesInput m input p r q
      → KeepsNegotiation p q
  input_keeps input p r q h = input_in_keeps p.core.phase input p r q h
