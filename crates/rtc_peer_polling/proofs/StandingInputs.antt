-- Inputs leave what negotiation reads of the parts of a peer.
use Rattle.std.proofs.Common.{◌≡◌, inl, inr, ℕ, Bool, true, false, List, Option, Result, Ok, Err, alloc_error, refl, ap, ◌∙◌}
use Rattle.std.specs.declared.alloc.AllocError.{AllocError}
use Rattle.rtc_wire.specs.declared.datagram_recv.DatagramRecv.{DatagramRecv}
use Rattle.rtc_wire.specs.declared.datagram_recv.DatagramRecv.TheVariants as datagrams
use Rattle.rtc_wire.specs.declared.receive.Receive.{Receive}
use Rattle.rtc_sdp_values.specs.declared.fingerprint.Fingerprint.{Fingerprint}
use Rattle.rtc_parts.specs.IceLaws.{IceLaws}
use Rattle.rtc_parts.specs.IceMeaning.{IceSettings}
use Rattle.rtc_parts.specs.declared.dtls_error.DtlsError.TheVariants.{Fault, Alloc as DtlsAlloc}
use Rattle.rtc_parts.specs.declared.media_error.MediaError.TheVariants.{Alloc as MediaAlloc}
use Rattle.rtc_parts.specs.declared.media_update.MediaUpdate.{MediaUpdate}
use Rattle.rtc_parts.specs.MediaActs.{KeepsLines, ByGiven, ByTime, ByOther, StatsVisited}
use Rattle.rtc_parts.specs.MediaLaws.{MediaLaws}
use Rattle.rtc_peer_core.specs.declared.phase.Phase.{Phase}
use Rattle.rtc_peer_core.specs.declared.phase.Phase.TheVariants.{Alive, Closing, Closed}
use Rattle.rtc_peer_core.specs.Meanings.{Meanings}
use Rattle.rtc_peer_core.specs.ChannelRows.{channel_rows}
use Rattle.rtc_peer_core.specs.Stance.{Stance, stance_of}
use Rattle.rtc_peer_transport.specs.declared.input.Input.{Input}
use Rattle.rtc_peer_transport.specs.declared.input.Input.TheVariants.{Timeout as TimeCame, Receive as Datagram}
use Rattle.rtc_peer_transport.specs.declared.polled_peer.PolledPeer.{PolledPeer}
use Rattle.rtc_peer_core.specs.declared.rtc_error.RtcError.{RtcError}
use Rattle.rtc_peer_core.specs.declared.rtc_error.RtcError.TheVariants.{Dtls, Media, Alloc}
use Rattle.rtc_peer_polling.specs.Inputs.{TimesIce, TimesStreams, TimesChannels, TimesMedia, with_moment, GivesTime, TakesTimeIf, HearsStun, HearsDtls, HearsMedia, HearsKind, Hears, Heard, PartFailed, HandlesInputBy, HandlesInputIn, HandlesInput}
use Rattle.rtc_peer_polling.specs.Kept.{KeepsNegotiation, KeepsParts}
use Rattle.rtc_ready.specs.Signals.{both}
use Rattle.rtc_peer_polling.proofs.DtlsRoles.{hands_on_role}
use Rattle.rtc_peer_polling.proofs.StreamSizes.{timed_size, moment_size}
use Rattle.rtc_peer_transport.specs.Statistics.{TimesStatistics}
use Rattle.rtc_peer_transport.proofs.StatisticsTurns.{VisitedOnce, statistics_timed}
use Rattle.rtc_peer_polling.proofs.StreamStarts.{start_self, started_same, timed_start, moment_start}
use Rattle.rtc_sctp_values.specs.SnapHalves.{KeptHalves}
use Rattle.rtc_parts.specs.AssociationLaws.{AssociationLaws}
use Rattle.rtc_peer_polling.proofs.StandingCalls.{CallStands, stands_on, stands_by, dtls_stand, turn_stands, lines_same}

module _ {I D S M E X T W N : Type 0} (m : Meanings I D S M E X T W N) (laws : IceLaws m.ice) (media : MediaLaws m.media) (streams : AssociationLaws m.association) where
  ice_timed_stands : (now : ℕ) → CallStands m (TimesIce m now)
  unfolding TimesIce
  ice_timed_stands now p (Ok done) q h = stands_by m p _ q h.1 (laws.timed_settings p.core.ice q.core.ice now (Ok tt) h.0, refl, refl, refl, refl, start_self m.association p.core.sctp)
  ice_timed_stands now p (Err Alloc) q h = stands_by m p _ q h.1 (laws.timed_settings p.core.ice q.core.ice now (Err alloc_error) h.0, refl, refl, refl, refl, start_self m.association p.core.sctp)
  ice_timed_stands now p (Err _) q h = absurd h

  streams_timed_stand : (now : ℕ) → CallStands m (TimesStreams m now)
  unfolding TimesStreams
  streams_timed_stand now p (Ok done) q h =
      stands_by m p _ q h.1 (refl, refl, refl, timed_size m.association p.core.sctp.state now p.core.sctp both (Ok tt) q.core.sctp h.0.0 h.0.1, refl, timed_start m.association streams p.core.sctp.state now p.core.sctp both (Ok tt) q.core.sctp h.0.0 h.0.1)
  streams_timed_stand now p (Err Alloc) q h =
      stands_by m p _ q h.1
      (refl, refl, refl, timed_size m.association p.core.sctp.state now p.core.sctp both (Err alloc_error) q.core.sctp h.0.0 h.0.1, refl, timed_start m.association streams p.core.sctp.state now p.core.sctp both (Err alloc_error) q.core.sctp h.0.0 h.0.1)
  streams_timed_stand now p (Err _) q h = absurd h

  channels_timed_stand : CallStands m (TimesChannels m)
  unfolding TimesChannels
  channels_timed_stand p (Ok done) q h =
      stands_by m p _ q h.1
      (refl, refl, refl, moment_size m.association _ p.core.channels p.core.sctp both (Ok tt) q.core.channels q.core.sctp h.0.0 h.0.1, refl, moment_start m.association streams p.core.channels p.core.sctp both (Ok tt) q.core.channels q.core.sctp h.0.0 h.0.1)
  channels_timed_stand p (Err Alloc) q h =
      stands_by m p _ q h.1
      (refl, refl, refl, moment_size m.association _ p.core.channels p.core.sctp both (Err alloc_error) q.core.channels q.core.sctp h.0.0 h.0.1, refl, moment_start m.association streams p.core.channels p.core.sctp both (Err alloc_error) q.core.channels q.core.sctp h.0.0 h.0.1)
  channels_timed_stand p (Err _) q h = absurd h

  media_timed_stands : (now : ℕ) → CallStands m (TimesMedia m now)
  unfolding TimesMedia
  media_timed_stands now p (Ok done) q h = stands_by m p _ q h.1 (refl, refl, refl, refl, lines_same m media streams p.core.media q.core.media (ByTime now (Ok tt, h.0)), start_self m.association p.core.sctp)
  media_timed_stands now p (Err (Media cause)) q h = stands_by m p _ q h.2 (refl, refl, refl, refl, lines_same m media streams p.core.media q.core.media (ByTime now (Err cause, h.1)), start_self m.association p.core.sctp)
  media_timed_stands now p (Err Alloc) q h = stands_by m p _ q h.1 (refl, refl, refl, refl, lines_same m media streams p.core.media q.core.media (ByTime now (Err MediaAlloc, h.0)), start_self m.association p.core.sctp)
  media_timed_stands now p (Err _) q h = absurd h

  visited_lines : (now : ℕ) (p q : M) → VisitedOnce m now p q → m.media.line q ≡ m.media.line p
  visited_lines now p q (inl same) = ap (λ (x : M). m.media.line x) same
  visited_lines now p q (inr visited) =
      lines_same m media streams p q (ByOther (StatsVisited now visited.0 visited.1.0 visited.1.1.0 visited.1.1.1))

  statistics_timed_stand : (now : ℕ) → CallStands m (TimesStatistics m now)
  statistics_timed_stand now p r q h =
      let timed = statistics_timed m now p r q h in
      stands_by m p _ q timed.kept (refl, refl, refl, refl, visited_lines now p.core.media q.core.media timed.media, start_self m.association p.core.sctp)

  time_given_stands : (now : ℕ) → CallStands m (GivesTime m now)
  time_given_stands now p r q h =
      stands_on m p (with_moment now p) q (refl, refl, refl, refl, refl, start_self m.association p.core.sctp)
      (turn_stands m (TimesIce m now) _ (ice_timed_stands now)
      (turn_stands m (TimesStreams m now) _ (streams_timed_stand now)
      (turn_stands m (TimesChannels m) _ channels_timed_stand
      (turn_stands m (TimesMedia m now) (TimesStatistics m now) (media_timed_stands now) (statistics_timed_stand now))))
      (with_moment now p) r q h)

  time_stands : (earlier : Bool) (now : ℕ) (p : PolledPeer I D S M N) (r : Result (Unit {0}) RtcError) (q : PolledPeer I D S M N)
      → TakesTimeIf m earlier now p r q → KeepsParts m p q
  time_stands true now p r q h = stands_by m p p q h.1 (refl, refl, refl, refl, refl, start_self m.association p.core.sctp)
  time_stands false now p r q h = time_given_stands now p r q h

  stun_stands : (now : ℕ) (datagram : Receive) (bytes : List ℕ) (p : PolledPeer I D S M N) (r : Result (Unit {0}) RtcError)
      (q : PolledPeer I D S M N) → HearsStun m now datagram bytes p r q → KeepsParts m p q
  unfolding HearsStun
  stun_stands now datagram bytes p (Ok done) q h = stands_by m p _ q h.1 (laws.given_settings p.core.ice q.core.ice now datagram.proto datagram.source datagram.destination bytes (Ok tt) h.0, refl, refl, refl, refl, start_self m.association p.core.sctp)
  stun_stands now datagram bytes p (Err Alloc) q h = stands_by m p _ q h.1 (laws.given_settings p.core.ice q.core.ice now datagram.proto datagram.source datagram.destination bytes (Err alloc_error) h.0, refl, refl, refl, refl, start_self m.association p.core.sctp)
  stun_stands now datagram bytes p (Err _) q h = absurd h

  dtls_stands : (bytes : List ℕ) (p : PolledPeer I D S M N) (r : Result (Unit {0}) RtcError) (q : PolledPeer I D S M N) → HearsDtls m bytes p r q
      → KeepsParts m p q
  unfolding HearsDtls
  dtls_stands bytes p (Ok done) q h = stands_by m p _ q h.1 (dtls_stand m p q (hands_on_role m.dtls p.core.dtls p.core.dtls.active (λ i r j. m.dtls.given i bytes r j) (Ok tt) q.core.dtls h.0))
  dtls_stands bytes p (Err (Dtls cause)) q h = stands_by m p _ q h.2 (dtls_stand m p q (hands_on_role m.dtls p.core.dtls p.core.dtls.active (λ i r j. m.dtls.given i bytes r j) (Err Fault) q.core.dtls h.1))
  dtls_stands bytes p (Err Alloc) q h = stands_by m p _ q h.1 (dtls_stand m p q (hands_on_role m.dtls p.core.dtls p.core.dtls.active (λ i r j. m.dtls.given i bytes r j) (Err DtlsAlloc) q.core.dtls h.0))
  dtls_stands bytes p (Err _) q h = absurd h

  media_stands : (given : M → Result (Unit {0}) AllocError → M → Type 0)
      → ((a b : M) (r : Result (Unit {0}) AllocError) → given a r b → KeepsLines m.media a b) → (bytes : List ℕ) (p : PolledPeer I D S M N)
      (r : Result (Unit {0}) RtcError) (q : PolledPeer I D S M N) → HearsMedia m given bytes p r q → KeepsParts m p q
  unfolding HearsMedia
  media_stands given keeps bytes p (Ok done) q h =
      stands_by m p _ q h.1 (refl, refl, refl, refl, lines_same m media streams p.core.media q.core.media (keeps p.core.media q.core.media (Ok tt) h.0), start_self m.association p.core.sctp)
  media_stands given keeps bytes p (Err Alloc) q h =
      stands_by m p _ q h.1 (refl, refl, refl, refl, lines_same m media streams p.core.media q.core.media (keeps p.core.media q.core.media (Err alloc_error) h.0), start_self m.association p.core.sctp)
  media_stands given keeps bytes p (Err _) q h = absurd h

  kind_stands : (now : ℕ) (datagram : Receive) (contents : DatagramRecv) (p : PolledPeer I D S M N) (r : Result (Unit {0}) RtcError)
      (q : PolledPeer I D S M N) → HearsKind m now datagram contents p r q → KeepsParts m p q
  kind_stands now datagram (datagrams.Stun view) p r q h = stun_stands now datagram view.bytes.now p r q h
  kind_stands now datagram (datagrams.Dtls bytes) p r q h = dtls_stands bytes.now p r q h
  kind_stands now datagram (datagrams.Rtp bytes) p r q h =
      media_stands (λ a r b. m.media.rtp_given a now bytes.now r b) (λ a b r k. ByGiven bytes.now (now, (r, inl k))) bytes.now p r q h
  kind_stands now datagram (datagrams.Rtcp bytes) p r q h =
      media_stands (λ a r b. m.media.rtcp_given a now bytes.now r b) (λ a b r k. ByGiven bytes.now (now, (r, inr k))) bytes.now p r q h

  hears_stand : (now : ℕ) (datagram : Receive) (p : PolledPeer I D S M N) (r : Result (Unit {0}) RtcError) (q : PolledPeer I D S M N)
      → Hears m now datagram p r q → KeepsParts m p q
  hears_stand now datagram p r q (Heard between heard time) =
      stands_on m p between q (kind_stands now datagram datagram.contents p (Ok tt) between heard) (time_stands _ now between r q time)
  hears_stand now datagram p r q (PartFailed error is heard) = kind_stands now datagram datagram.contents p (Err error) q heard

  input_by_stands : (input : Input) (p : PolledPeer I D S M N) (r : Result (Unit {0}) RtcError) (q : PolledPeer I D S M N)
      → HandlesInputBy m input p r q → KeepsParts m p q
  input_by_stands (TimeCame now) p r q h = time_stands _ now p r q h
  input_by_stands (Datagram now datagram) p r q h = hears_stand now datagram p r q h

  input_in_stands : (phase : Phase) (input : Input) (p : PolledPeer I D S M N) (r : Result (Unit {0}) RtcError) (q : PolledPeer I D S M N)
      → HandlesInputIn m phase input p r q → KeepsParts m p q
  input_in_stands Alive input p r q h = input_by_stands input p r q h
  input_in_stands Closing input p r q h = input_by_stands input p r q h
  input_in_stands Closed input p r q h = stands_by m p p q h.1 (refl, refl, refl, refl, refl, start_self m.association p.core.sctp)

  -- an input leaves them
  pub input_stands : (input : Input) (p : PolledPeer I D S M N) (r : Result (Unit {0}) RtcError) (q : PolledPeer I D S M N) → HandlesInput m input p r q
      → KeepsParts m p q
  input_stands input p r q h = input_in_stands p.core.phase input p r q h

-- what negotiation reads of a peer stays but for the channels and their rows, where its parts stand
pub stance_by : {I D S M E X T W N : Type 0} (m : Meanings I D S M E X T W N) (p q : PolledPeer I D S M N) → KeepsNegotiation p q → KeepsParts m p q
    → stance_of m q.core
    ≡ record (stance_of m p.core) { channels = q.core.channels; rows = channel_rows m.association q.core.sctp q.core.channels }
stance_by m p q kept parts =
    let after : Stance = record (stance_of m p.core) {
      channels = q.core.channels;
      rows = channel_rows m.association q.core.sctp q.core.channels;
    } in
    ap (stance_of m) kept
    ∙ ap (λ (s : IceSettings). record after {
      ice = s;
      own_fingerprint = q.core.dtls.local;
      role = q.core.dtls.active;
      max_message_size = q.core.sctp.local_max;
      inited = m.association.started q.core.sctp.association;
      snap = q.core.sctp.snap;
      line = m.media.line q.core.media;
    }) parts.0
    ∙ ap (λ (f : Fingerprint). record after {
      own_fingerprint = f;
      role = q.core.dtls.active;
      max_message_size = q.core.sctp.local_max;
      inited = m.association.started q.core.sctp.association;
      snap = q.core.sctp.snap;
      line = m.media.line q.core.media;
    }) parts.2
    ∙ ap (λ (o : Option Bool). record after {
      role = o;
      max_message_size = q.core.sctp.local_max;
      inited = m.association.started q.core.sctp.association;
      snap = q.core.sctp.snap;
      line = m.media.line q.core.media;
    }) parts.1
    ∙ ap (λ (told : ℕ × KeptHalves). record after {
      max_message_size = told.0;
      inited = m.association.started q.core.sctp.association;
      snap = told.1;
      line = m.media.line q.core.media;
    }) parts.3
    ∙ ap (λ (b : Bool). record after { inited = b; line = m.media.line q.core.media })
    (started_same m.association p.core.sctp q.core.sctp parts.5)
    ∙ ap (λ (line : List ℕ → Option MediaUpdate). record after { line = line }) parts.4
