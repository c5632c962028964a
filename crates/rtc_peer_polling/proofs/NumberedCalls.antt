-- Closing and inputs give no channel a number, and how numbers are followed through calls and stages.
use Rattle.std.proofs.Common.{◌≡◌, ℕ, Bool, true, false, List, Option, Some, None, Result, Ok, Err, refl, sym, subst}
use Rattle.std.specs.declared.alloc.AllocError.{AllocError}
use Rattle.rtc_wire.specs.declared.datagram_recv.DatagramRecv.{DatagramRecv}
use Rattle.rtc_wire.specs.declared.datagram_recv.DatagramRecv.TheVariants as datagrams
use Rattle.rtc_wire.specs.declared.receive.Receive.{Receive}
use Rattle.rtc_ready.specs.Signals.{both}
use Rattle.rtc_channels.specs.Openings.{is_progress_due}
use Rattle.rtc_peer_core.specs.declared.phase.Phase.{Phase}
use Rattle.rtc_peer_core.specs.declared.phase.Phase.TheVariants.{Alive, Closing, Closed}
use Rattle.rtc_peer_core.specs.declared.rtc_error.RtcError.{RtcError}
use Rattle.rtc_peer_core.specs.declared.rtc_error.RtcError.TheVariants.{Dtls, Sctp, Media, Alloc}
use Rattle.rtc_peer_core.specs.Meanings.{Meanings}
use Rattle.rtc_peer_transport.specs.declared.event.Event.TheVariants as told
use Rattle.rtc_peer_transport.specs.declared.input.Input.{Input}
use Rattle.rtc_peer_transport.specs.declared.input.Input.TheVariants.{Timeout as TimeCame, Receive as Datagram}
use Rattle.rtc_peer_transport.specs.declared.met.Met.{Met}
use Rattle.rtc_peer_transport.specs.declared.met.Met.TheVariants.{Nothing, Again, Event as MetEvent}
use Rattle.rtc_peer_transport.specs.declared.polled_peer.PolledPeer.{PolledPeer}
use Rattle.rtc_peer_transport.specs.Closing.{ShutsMedia, ShutsStreams, ShutsDtls, BecomesClosing, BeginsClosing, ClosesPeer, ClosesPeerFrom}
use Rattle.rtc_peer_polling.specs.Inputs.{TimesIce, TimesStreams, TimesChannels, TimesMedia, GivesTime, TakesTimeIf, with_moment}
use Rattle.rtc_peer_polling.specs.Inputs.{HearsStun, HearsDtls, HearsMedia, HearsKind, Hears, Heard, PartFailed, HandlesInputBy, HandlesInputIn, HandlesInput}
use Rattle.rtc_peer_polling.specs.Numbers.{ChannelNumbers}
use Rattle.rtc_peer_transport.specs.Stages.{Call, InTurn, Failed, Passed, Stage, FollowedBy, Stopped, WentOn, RepeatsStage}
use Rattle.rtc_peer_transport.specs.Statistics.{TimesStatistics}
use Rattle.rtc_peer_transport.proofs.StageLemmas.{over_carries}
use Rattle.rtc_peer_transport.proofs.StatisticsTurns.{statistics_timed}
use Rattle.rtc_peer_polling.proofs.NumberedChannels.{Stays, stays_self, stays_same, stays_on, NumbersWhen, numbers_on, numbers_of, moment_stays}

-- the number of the channel that is met as open, if any
abbrev pub number_met : {E : Type 0} → Met E → Option ℕ
number_met (MetEvent (told.ChannelOpen id label)) = Some id
number_met met = None

-- the channels of a peer stay
abbrev pub PeerStays : {I D S M N : Type 0} → PolledPeer I D S M N → PolledPeer I D S M N → Type 0
PeerStays p q = Stays p.core.channels q.core.channels

pub peer_stays : {I D S M N : Type 0} (p : PolledPeer I D S M N) → PeerStays p p
peer_stays p = stays_self p.core.channels

pub peer_stays_on : {I D S M N : Type 0} (p q r : PolledPeer I D S M N) → PeerStays p q → PeerStays q r → PeerStays p r
peer_stays_on p q r a b = stays_on p.core.channels q.core.channels r.core.channels a b

-- where the peer afterwards is another that has the channels
pub stays_by : {I D S M N : Type 0} (p n q : PolledPeer I D S M N) → q ≡ n → n.core.channels ≡ p.core.channels → PeerStays p q
stays_by {I} {D} {S} {M} {N} p n q is same = subst (λ (x : PolledPeer I D S M N). PeerStays p x) (sym is) (stays_same p.core.channels n.core.channels same)

-- a call gives no number, whatever it answers
abbrev pub CallStays : {I D S M N : Type 0} → Call (PolledPeer I D S M N) → Type 0
CallStays {I} {D} {S} {M} {N} call = (p : PolledPeer I D S M N) (r : Result (Unit {0}) RtcError) (q : PolledPeer I D S M N) → call p r q → PeerStays p q

turn_stays : {I D S M N : Type 0} (first rest : Call (PolledPeer I D S M N)) → CallStays first → CallStays rest → CallStays (InTurn first rest)
turn_stays first rest one other p r q (Failed error is h) = one p (Err error) q h
turn_stays first rest one other p r q (Passed between h k) = peer_stays_on p between q (one p (Ok tt) between h) (other between r q k)

-- what a stage does that met this
abbrev pub PeerNumbers : {I D S M E N : Type 0} → Met E → PolledPeer I D S M N → PolledPeer I D S M N → Type 0
PeerNumbers r p q = NumbersWhen (number_met r) p.core.channels q.core.channels

-- what was met tells no number
pub numbers_met : {I D S M E N : Type 0} (r : Met E) (p q : PolledPeer I D S M N) → number_met r ≡ None → PeerStays p q → PeerNumbers r p q
numbers_met r p q none stays = subst (λ n. NumbersWhen n p.core.channels q.core.channels) (sym none) stays

-- a stage gives a number where it tells one, whatever is met
abbrev pub Numbered : {I D S M E N : Type 0} → Stage (PolledPeer I D S M N) E → Type 0
Numbered {I} {D} {S} {M} {E} {N} stage = (p : PolledPeer I D S M N) (r : Met E) (q : PolledPeer I D S M N) → stage p r q → PeerNumbers r p q

pub else_numbered : {I D S M E N : Type 0} (first rest : Stage (PolledPeer I D S M N) E) → Numbered first → Numbered rest
    → Numbered (FollowedBy first rest)
else_numbered first rest one other p r q (Stopped met stage) = one p r q stage
else_numbered first rest one other p r q (WentOn between stage after) =
    numbers_on (number_met r) p.core.channels between.core.channels q.core.channels (one p Nothing between stage) (other between r q after)

pub repeats_numbered : {I D S M E N : Type 0} (stage : Stage (PolledPeer I D S M N) E) → Numbered stage → Numbered (RepeatsStage stage)
repeats_numbered stage one p r q h =
    numbers_on (number_met r) p.core.channels h.last.core.channels q.core.channels
    (over_carries stage PeerStays peer_stays peer_stays_on (λ a b turn. one a Again b turn) h.turns p h.last h.over)
    (one h.last r q h.ends)

module _ {I D S M E X T W N : Type 0} (m : Meanings I D S M E X T W N) where
  media_shut_stays : CallStays (ShutsMedia m)
  unfolding ShutsMedia
  media_shut_stays p (Ok done) q h = stays_by p _ q h.1 refl
  media_shut_stays p (Err Alloc) q h = stays_by p _ q h.1 refl
  media_shut_stays p (Err _) q h = absurd h

  streams_shut_stay : CallStays (ShutsStreams m)
  unfolding ShutsStreams
  streams_shut_stay p (Ok done) q h = stays_by p _ q h.1 refl
  streams_shut_stay p (Err (Sctp cause)) q h = stays_by p _ q h.2 refl
  streams_shut_stay p (Err Alloc) q h = stays_by p _ q h.1 refl
  streams_shut_stay p (Err _) q h = absurd h

  dtls_shut_stays : CallStays (ShutsDtls m)
  unfolding ShutsDtls
  dtls_shut_stays p (Ok done) q h = stays_by p _ q h.1 refl
  dtls_shut_stays p (Err (Dtls cause)) q h = stays_by p _ q h.2 refl
  dtls_shut_stays p (Err Alloc) q h = stays_by p _ q h.1 refl
  dtls_shut_stays p (Err _) q h = absurd h

  begins_stays : CallStays (BeginsClosing m)
  begins_stays =
      turn_stays (ShutsMedia m) _ media_shut_stays
      (turn_stays (ShutsStreams m) _ streams_shut_stay
      (turn_stays (ShutsDtls m) BecomesClosing dtls_shut_stays (λ p r q h. stays_by p _ q h.1 refl)))

  closes_from_stays : (phase : Phase) (p : PolledPeer I D S M N) (r : Result (Unit {0}) RtcError) (q : PolledPeer I D S M N)
      → ClosesPeerFrom m phase p r q → PeerStays p q
  closes_from_stays Alive p r q h = begins_stays p r q h
  closes_from_stays Closing p r q h = stays_by p p q h.1 refl
  closes_from_stays Closed p r q h = stays_by p p q h.1 refl

  pub close_stays : CallStays (ClosesPeer m)
  close_stays p r q h = closes_from_stays p.core.phase p r q h

  -- closing gives no number
  pub close_numbers : (p : PolledPeer I D S M N) (r : Result (Unit {0}) RtcError) (q : PolledPeer I D S M N) → ClosesPeer m p r q
      → ChannelNumbers None p.core.channels q.core.channels
  close_numbers p r q h = numbers_of None p.core.channels q.core.channels (close_stays p r q h)

  ice_timed_stays : (now : ℕ) → CallStays (TimesIce m now)
  unfolding TimesIce
  ice_timed_stays now p (Ok done) q h = stays_by p _ q h.1 refl
  ice_timed_stays now p (Err Alloc) q h = stays_by p _ q h.1 refl
  ice_timed_stays now p (Err _) q h = absurd h

  streams_timed_stay : (now : ℕ) → CallStays (TimesStreams m now)
  unfolding TimesStreams
  streams_timed_stay now p (Ok done) q h = stays_by p _ q h.1 refl
  streams_timed_stay now p (Err Alloc) q h = stays_by p _ q h.1 refl
  streams_timed_stay now p (Err _) q h = absurd h

  channels_timed_stay : CallStays (TimesChannels m)
  unfolding TimesChannels
  channels_timed_stay p (Ok done) q h =
      moment_stays m.association (is_progress_due m.association p.core.channels p.core.sctp) p.core.channels p.core.sctp both (Ok tt)
      q.core.channels q.core.sctp h.0.0 h.0.1
  channels_timed_stay p (Err Alloc) q h =
      moment_stays m.association (is_progress_due m.association p.core.channels p.core.sctp) p.core.channels p.core.sctp both _
      q.core.channels q.core.sctp h.0.0 h.0.1
  channels_timed_stay p (Err _) q h = absurd h

  media_timed_stays : (now : ℕ) → CallStays (TimesMedia m now)
  unfolding TimesMedia
  media_timed_stays now p (Ok done) q h = stays_by p _ q h.1 refl
  media_timed_stays now p (Err (Media cause)) q h = stays_by p _ q h.2 refl
  media_timed_stays now p (Err Alloc) q h = stays_by p _ q h.1 refl
  media_timed_stays now p (Err _) q h = absurd h

  time_given_stays : (now : ℕ) → CallStays (GivesTime m now)
  time_given_stays now p r q h =
      turn_stays (TimesIce m now) _ (ice_timed_stays now)
      (turn_stays (TimesStreams m now) _ (streams_timed_stay now)
      (turn_stays (TimesChannels m) _ channels_timed_stay
      (turn_stays (TimesMedia m now) (TimesStatistics m now) (media_timed_stays now)
      (λ p r q h. stays_by p _ q (statistics_timed m now p r q h).kept refl))))
      (with_moment now p) r q h

  time_stays : (earlier : Bool) (now : ℕ) (p : PolledPeer I D S M N) (r : Result (Unit {0}) RtcError) (q : PolledPeer I D S M N)
      → TakesTimeIf m earlier now p r q → PeerStays p q
  time_stays true now p r q h = stays_by p p q h.1 refl
  time_stays false now p r q h = time_given_stays now p r q h

  stun_stays : (now : ℕ) (datagram : Receive) (bytes : List ℕ) (p : PolledPeer I D S M N) (r : Result (Unit {0}) RtcError)
      (q : PolledPeer I D S M N) → HearsStun m now datagram bytes p r q → PeerStays p q
  unfolding HearsStun
  stun_stays now datagram bytes p (Ok done) q h = stays_by p _ q h.1 refl
  stun_stays now datagram bytes p (Err Alloc) q h = stays_by p _ q h.1 refl
  stun_stays now datagram bytes p (Err _) q h = absurd h

  dtls_stays : (bytes : List ℕ) (p : PolledPeer I D S M N) (r : Result (Unit {0}) RtcError) (q : PolledPeer I D S M N)
      → HearsDtls m bytes p r q → PeerStays p q
  unfolding HearsDtls
  dtls_stays bytes p (Ok done) q h = stays_by p _ q h.1 refl
  dtls_stays bytes p (Err (Dtls cause)) q h = stays_by p _ q h.2 refl
  dtls_stays bytes p (Err Alloc) q h = stays_by p _ q h.1 refl
  dtls_stays bytes p (Err _) q h = absurd h

  media_stays : (given : M → Result (Unit {0}) AllocError → M → Type 0) (bytes : List ℕ) (p : PolledPeer I D S M N)
      (r : Result (Unit {0}) RtcError) (q : PolledPeer I D S M N) → HearsMedia m given bytes p r q → PeerStays p q
  unfolding HearsMedia
  media_stays given bytes p (Ok done) q h = stays_by p _ q h.1 refl
  media_stays given bytes p (Err Alloc) q h = stays_by p _ q h.1 refl
  media_stays given bytes p (Err _) q h = absurd h

  kind_stays : (now : ℕ) (datagram : Receive) (contents : DatagramRecv) (p : PolledPeer I D S M N) (r : Result (Unit {0}) RtcError)
      (q : PolledPeer I D S M N) → HearsKind m now datagram contents p r q → PeerStays p q
  kind_stays now datagram (datagrams.Stun view) p r q h = stun_stays now datagram view.bytes.now p r q h
  kind_stays now datagram (datagrams.Dtls bytes) p r q h = dtls_stays bytes.now p r q h
  kind_stays now datagram (datagrams.Rtp bytes) p r q h = media_stays _ bytes.now p r q h
  kind_stays now datagram (datagrams.Rtcp bytes) p r q h = media_stays _ bytes.now p r q h

  hears_stay : (now : ℕ) (datagram : Receive) (p : PolledPeer I D S M N) (r : Result (Unit {0}) RtcError) (q : PolledPeer I D S M N)
      → Hears m now datagram p r q → PeerStays p q
  hears_stay now datagram p r q (Heard between heard time) =
      peer_stays_on p between q (kind_stays now datagram datagram.contents p (Ok tt) between heard) (time_stays _ now between r q time)
  hears_stay now datagram p r q (PartFailed error is heard) = kind_stays now datagram datagram.contents p (Err error) q heard

  input_by_stays : (input : Input) (p : PolledPeer I D S M N) (r : Result (Unit {0}) RtcError) (q : PolledPeer I D S M N)
      → HandlesInputBy m input p r q → PeerStays p q
  input_by_stays (TimeCame now) p r q h = time_stays _ now p r q h
  input_by_stays (Datagram now datagram) p r q h = hears_stay now datagram p r q h

  input_in_stays : (phase : Phase) (input : Input) (p : PolledPeer I D S M N) (r : Result (Unit {0}) RtcError) (q : PolledPeer I D S M N)
      → HandlesInputIn m phase input p r q → PeerStays p q
  input_in_stays Alive input p r q h = input_by_stays input p r q h
  input_in_stays Closing input p r q h = input_by_stays input p r q h
  input_in_stays Closed input p r q h = stays_by p p q h.1 refl

  -- an input gives no number
  pub input_numbers : (input : Input) (p : PolledPeer I D S M N) (r : Result (Unit {0}) RtcError) (q : PolledPeer I D S M N)
      → HandlesInput m input p r q → ChannelNumbers None p.core.channels q.core.channels
  input_numbers input p r q h = numbers_of None p.core.channels q.core.channels (input_in_stays p.core.phase input p r q h)
