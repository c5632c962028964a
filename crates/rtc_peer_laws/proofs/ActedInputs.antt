-- What inputs, and what is done with an open channel, do to the parts of a peer.
use Rattle.std.proofs.Common.{◌≡◌, ◌∷◌, inl, inr, ℕ, Bool, true, false, List, [], Option, Some, None, Result, Ok, Err, alloc_error, refl, sym, ap, subst, ◌∙◌}
use Rattle.std.specs.declared.alloc.AllocError.{AllocError}
use Rattle.rtc_wire.specs.declared.datagram_recv.DatagramRecv.{DatagramRecv}
use Rattle.rtc_wire.specs.declared.datagram_recv.DatagramRecv.TheVariants as datagrams
use Rattle.rtc_wire.specs.declared.receive.Receive.{Receive}
use Rattle.rtc_parts.specs.Why.{Timed, Other}
use Rattle.rtc_parts.specs.Among.{Among}
use Rattle.rtc_parts.proofs.AmongLemmas.{among_none, among_self}
use Rattle.rtc_parts.specs.AssociationLaws.{AssociationLaws}
use Rattle.rtc_parts.specs.declared.dtls_error.DtlsError.{DtlsError}
use Rattle.rtc_parts.specs.declared.dtls_error.DtlsError.TheVariants.{Fault, Alloc as DtlsAlloc}
use Rattle.rtc_parts.specs.DtlsActs.{Given as DtlsGiven, dtls_moved-one}
use Rattle.rtc_parts.specs.DtlsState.{DtlsState, HandsOn}
use Rattle.rtc_parts.specs.IceActs.{Given as IceGiven, Stirred as IceStirred, TimedAt as IceTimed, ByPacket, ice_moved-one}
use Rattle.rtc_parts.specs.declared.media_error.MediaError.{MediaError}
use Rattle.rtc_parts.specs.declared.media_error.MediaError.TheVariants.{Alloc as MediaAlloc}
use Rattle.rtc_parts.specs.MediaActs.{MediaGiven, MediaStirred, MediaMoved, StatsVisited, media_moved-one}
use Rattle.rtc_ready.specs.Signals.{both}
use Rattle.rtc_sctp_laws.specs.StreamMessages.{StreamMessage}
use Rattle.rtc_sctp_values.specs.declared.sctp_error.SctpError.{SctpError}
use Rattle.rtc_sctp_laws.specs.StreamActs.{written_message}
use Rattle.rtc_sctp_laws.proofs.CallActs.{writes_did, timeout_did}
use Rattle.rtc_sctp.specs.Calls.{is_open_stream}
use Rattle.rtc_channels.specs.Openings.{is_progress_due}
use Rattle.rtc_peer_core.specs.declared.phase.Phase.{Phase}
use Rattle.rtc_peer_core.specs.declared.phase.Phase.TheVariants.{Alive, Closing, Closed}
use Rattle.rtc_peer_core.specs.declared.rtc_error.RtcError.{RtcError}
use Rattle.rtc_peer_core.specs.declared.rtc_error.RtcError.TheVariants.{Dtls, Media, Alloc}
use Rattle.rtc_peer_core.specs.Meanings.{Meanings}
use Rattle.rtc_peer_transport.specs.declared.input.Input.{Input}
use Rattle.rtc_peer_transport.specs.declared.input.Input.TheVariants.{Timeout as TimeCame, Receive as Datagram}
use Rattle.rtc_peer_transport.specs.declared.polled_peer.PolledPeer.{PolledPeer}
use Rattle.rtc_peer_transport.specs.ChannelCalls.{ClosesDataChannel, SetsChannelThreshold, WritesIf, WritesChannel, stream_under, write_taken}
use Rattle.rtc_peer_polling.specs.Inputs.{TimesIce, TimesStreams, TimesChannels, TimesMedia, GivesTime, TakesTimeIf, with_moment}
use Rattle.rtc_peer_polling.specs.Inputs.{HearsStun, HearsDtls, HearsMedia, HearsKind, Hears, Heard, PartFailed, HandlesInputBy, HandlesInputIn, HandlesInput}
use Rattle.rtc_peer_transport.specs.Statistics.{TimesStatistics}
use Rattle.rtc_peer_transport.proofs.StatisticsTurns.{KeepsAllButRound, VisitedOnce, statistics_timed}
use Rattle.rtc_peer_laws.specs.PeerActs.{Came, nothing_came, came_of_datagram, came_by, moment_given, queue_and_role}
use Rattle.rtc_peer_laws.specs.Acts.{PeerDid, CallActs as CallDone, message_of_write}
use Rattle.rtc_peer_laws.proofs.ActJoins.{ice_did, dtls_did, media_did, still_did}
use Rattle.rtc_peer_laws.proofs.ActedClosing.{beside, BesideIce, BesideDtls, BesideStreams, BesideMedia, call_did, CallActs, did_after, turn_acts, still_by}
use Rattle.rtc_peer_laws.proofs.StreamCallActs.{close_did, moment_did, threshold_if}

module _ {I D S M E X T W N : Type 0} (m : Meanings I D S M E X T W N) (came : Came) (now : ℕ) where
  time_ice : (r : Result (Unit {0}) AllocError) (p q : PolledPeer I D S M N) → m.ice.timed p.core.ice now r q.core.ice → BesideIce p q
      → PeerDid m came (now ∷ []) [] [] [] p q
  time_ice r p q h beside =
      ice_did m came (now ∷ []) [] p q (IceStirred (IceTimed now r) ∷ []) (ice_moved-one m.ice p.core.ice q.core.ice (IceStirred (IceTimed now r)) h)
      (among_none came.ice) (among_self (now ∷ [])) (among_none []) (ap (λ d. d.instance) beside.0) (ap queue_and_role beside.0) beside.1 beside.2

  ice_timed : CallActs m came (now ∷ []) (TimesIce m now)
  unfolding TimesIce
  ice_timed p (Ok done) q h = time_ice (Ok tt) p q h.0 (beside BesideIce p _ q h.1 (refl, refl, refl, refl, refl))
  ice_timed p (Err Alloc) q h = time_ice (Err alloc_error) p q h.0 (beside BesideIce p _ q h.1 (refl, refl, refl, refl, refl))
  ice_timed p (Err _) q h = absurd h

  streams_timed : CallActs m came (now ∷ []) (TimesStreams m now)
  unfolding TimesStreams
  streams_timed p (Ok done) q h =
      call_did m came (now ∷ []) [] p q (timeout_did m.association now p.core.sctp both (Ok tt) q.core.sctp h.0.0 h.0.1)
      (beside BesideStreams p _ q h.1 (refl, refl, refl, refl))
  streams_timed p (Err Alloc) q h =
      call_did m came (now ∷ []) [] p q (timeout_did m.association now p.core.sctp both (Err alloc_error) q.core.sctp h.0.0 h.0.1)
      (beside BesideStreams p _ q h.1 (refl, refl, refl, refl))
  streams_timed p (Err _) q h = absurd h

  channels_timed : CallActs m came (now ∷ []) (TimesChannels m)
  unfolding TimesChannels
  channels_timed p (Ok done) q h =
      call_did m came (now ∷ []) [] p q
      (moment_did m.association (is_progress_due m.association p.core.channels p.core.sctp) p.core.channels p.core.sctp both (Ok tt) q.core.channels
      q.core.sctp h.0.0 h.0.1) (beside BesideStreams p _ q h.1 (refl, refl, refl, refl))
  channels_timed p (Err Alloc) q h =
      call_did m came (now ∷ []) [] p q
      (moment_did m.association (is_progress_due m.association p.core.channels p.core.sctp) p.core.channels p.core.sctp both (Err alloc_error) q.core.channels
      q.core.sctp h.0.0 h.0.1) (beside BesideStreams p _ q h.1 (refl, refl, refl, refl))
  channels_timed p (Err _) q h = absurd h

  time_media : (r : Result (Unit {0}) MediaError) (p q : PolledPeer I D S M N) → m.media.timed p.core.media now r q.core.media → BesideMedia p q
      → PeerDid m came (now ∷ []) [] [] [] p q
  time_media r p q h beside =
      media_did m came (now ∷ []) [] p q (MediaStirred (Timed now) ∷ [])
      (media_moved-one m.media p.core.media q.core.media (MediaStirred (Timed now)) (r, h)) (among_none came.media) (among_self (now ∷ []))
      (among_none []) beside.0 (ap (λ d. d.instance) beside.1) (ap queue_and_role beside.1) beside.2

  media_timed : CallActs m came (now ∷ []) (TimesMedia m now)
  unfolding TimesMedia
  media_timed p (Ok done) q h = time_media (Ok tt) p q h.0 (beside BesideMedia p _ q h.1 (refl, refl, refl, refl, refl))
  media_timed p (Err (Media cause)) q h = time_media (Err cause) p q h.1 (beside BesideMedia p _ q h.2 (refl, refl, refl, refl, refl))
  media_timed p (Err Alloc) q h = time_media (Err MediaAlloc) p q h.0 (beside BesideMedia p _ q h.1 (refl, refl, refl, refl, refl))
  media_timed p (Err _) q h = absurd h

  round_acts : (p q : PolledPeer I D S M N) → KeepsAllButRound m p q → VisitedOnce m now p.core.media q.core.media
      → PeerDid m came (now ∷ []) [] [] [] p q
  round_acts p q kept (inl same) = still_by m came (now ∷ []) p _ q kept (refl, refl, refl, refl, same)
  round_acts p q kept (inr visited) =
      let beside = beside BesideMedia p _ q kept (refl, refl, refl, refl, refl) in
      media_did m came (now ∷ []) [] p q (MediaStirred Other ∷ [])
      (media_moved-one m.media p.core.media q.core.media (MediaStirred Other)
      (inr (inr (StatsVisited now visited.0 visited.1.0 visited.1.1.0 visited.1.1.1))))
      (among_none came.media) (among_none (now ∷ [])) (among_none []) beside.0 (ap (λ d. d.instance) beside.1) (ap queue_and_role beside.1) beside.2

  statistics_acts : CallActs m came (now ∷ []) (TimesStatistics m now)
  statistics_acts p r q h =
      let timed = statistics_timed m now p r q h in
      round_acts p q timed.kept timed.media

  module _ (laws : AssociationLaws m.association) where
    time_given : CallActs m came (now ∷ []) (GivesTime m now)
    time_given p r q h =
        did_after m came (now ∷ []) laws p (with_moment now p) q
        (still_did m came (now ∷ []) p (with_moment now p) (refl, refl, refl, refl, refl))
        (turn_acts m came (now ∷ []) laws (TimesIce m now) _ ice_timed
        (turn_acts m came (now ∷ []) laws (TimesStreams m now) _ streams_timed
        (turn_acts m came (now ∷ []) laws (TimesChannels m) _ channels_timed
        (turn_acts m came (now ∷ []) laws (TimesMedia m now) (TimesStatistics m now) media_timed statistics_acts)))
        (with_moment now p) r q h)

    pub time_acts : (earlier : Bool) → CallActs m came (now ∷ []) (TakesTimeIf m earlier now)
    time_acts true p r q h = still_by m came (now ∷ []) p p q h.1 (refl, refl, refl, refl, refl)
    time_acts false p r q h = time_given p r q h

module _ {I D S M E X T W N : Type 0} (m : Meanings I D S M E X T W N) (now : ℕ) where
  -- a message came to the agent
  hear_ice : (datagram : Receive) (bytes : List ℕ) (came : Came) (r : Result (Unit {0}) AllocError) (p q : PolledPeer I D S M N) → came.ice ≡ bytes ∷ []
      → m.ice.given p.core.ice now datagram.proto datagram.source datagram.destination bytes r q.core.ice → BesideIce p q
      → PeerDid m came (now ∷ []) [] [] [] p q
  hear_ice datagram bytes came r p q is h beside =
      ice_did m came (now ∷ []) [] p q (IceGiven bytes ∷ [])
      (ice_moved-one m.ice p.core.ice q.core.ice (IceGiven bytes) (ByPacket now datagram.proto datagram.source datagram.destination r h))
      (subst (λ (l : List (List ℕ)). Among (bytes ∷ []) l) (sym is) (among_self (bytes ∷ []))) (among_none (now ∷ [])) (among_none [])
      (ap (λ d. d.instance) beside.0) (ap queue_and_role beside.0) beside.1 beside.2

  stun_acts : (datagram : Receive) (bytes : List ℕ) (came : Came) → came.ice ≡ bytes ∷ [] → CallActs m came (now ∷ []) (HearsStun m now datagram bytes)
  unfolding HearsStun
  stun_acts datagram bytes came is p (Ok done) q h = hear_ice datagram bytes came (Ok tt) p q is h.0 (beside BesideIce p _ q h.1 (refl, refl, refl, refl, refl))
  stun_acts datagram bytes came is p (Err Alloc) q h =
      hear_ice datagram bytes came (Err alloc_error) p q is h.0 (beside BesideIce p _ q h.1 (refl, refl, refl, refl, refl))
  stun_acts datagram bytes came is p (Err _) q h = absurd h

  -- a packet came to the connection
  hear_dtls : (active : Option Bool) (bytes : List ℕ) (came : Came) (r : Result (Unit {0}) DtlsError) (p q : PolledPeer I D S M N) → came.dtls ≡ bytes ∷ []
      → HandsOn m.dtls p.core.dtls active (λ i s j. m.dtls.given i bytes s j) r q.core.dtls → BesideDtls p q → PeerDid m came (now ∷ []) [] [] [] p q
  hear_dtls None bytes came r p q is h beside =
      still_did m came (now ∷ []) p q
      (beside.0, ap (λ (d : DtlsState D). d.instance) h.1, ap queue_and_role h.1, beside.1, beside.2)
  hear_dtls (Some active) bytes came r p q is h beside =
      dtls_did m came (now ∷ []) p q (DtlsGiven bytes ∷ [])
      (dtls_moved-one m.dtls p.core.dtls.instance q.core.dtls.instance (DtlsGiven bytes) (r, h.0))
      (subst (λ (l : List (List ℕ)). Among (bytes ∷ []) l) (sym is) (among_self (bytes ∷ []))) (among_none (now ∷ [])) refl refl
      (subst (λ (l : List (List ℕ)). Among l p.core.dtls.packets) (sym (ap (λ (d : DtlsState D). d.packets) h.1)) (among_self p.core.dtls.packets))
      (ap (λ (d : DtlsState D). d.active) h.1) beside.0 beside.1 beside.2

  dtls_acts : (bytes : List ℕ) (came : Came) → came.dtls ≡ bytes ∷ [] → CallActs m came (now ∷ []) (HearsDtls m bytes)
  unfolding HearsDtls
  dtls_acts bytes came is p (Ok done) q h =
      hear_dtls p.core.dtls.active bytes came (Ok tt) p q is h.0 (beside BesideDtls p _ q h.1 (refl, refl, refl, refl, refl))
  dtls_acts bytes came is p (Err (Dtls cause)) q h =
      hear_dtls p.core.dtls.active bytes came (Err Fault) p q is h.1 (beside BesideDtls p _ q h.2 (refl, refl, refl, refl, refl))
  dtls_acts bytes came is p (Err Alloc) q h =
      hear_dtls p.core.dtls.active bytes came (Err DtlsAlloc) p q is h.0 (beside BesideDtls p _ q h.1 (refl, refl, refl, refl, refl))
  dtls_acts bytes came is p (Err _) q h = absurd h

  -- a packet came to the media part
  abbrev MediaHears : (M → Result (Unit {0}) AllocError → M → Type 0) → List ℕ → Type 0
  MediaHears given bytes = (a b : M) (r : Result (Unit {0}) AllocError) → given a r b → MediaMoved m.media a (MediaGiven bytes ∷ []) b

  hear_media : (bytes : List ℕ) (came : Came) (p q : PolledPeer I D S M N) → came.media ≡ bytes ∷ []
      → MediaMoved m.media p.core.media (MediaGiven bytes ∷ []) q.core.media → BesideMedia p q → PeerDid m came (now ∷ []) [] [] [] p q
  hear_media bytes came p q is went beside =
      media_did m came (now ∷ []) [] p q (MediaGiven bytes ∷ []) went
      (subst (λ (l : List (List ℕ)). Among (bytes ∷ []) l) (sym is) (among_self (bytes ∷ []))) (among_none (now ∷ [])) (among_none [])
      beside.0 (ap (λ d. d.instance) beside.1) (ap queue_and_role beside.1) beside.2

  media_acts : (given : M → Result (Unit {0}) AllocError → M → Type 0) (bytes : List ℕ) (came : Came) → came.media ≡ bytes ∷ [] → MediaHears given bytes
      → CallActs m came (now ∷ []) (HearsMedia m given bytes)
  unfolding HearsMedia
  media_acts given bytes came is went p (Ok done) q h =
      hear_media bytes came p q is (went p.core.media q.core.media (Ok tt) h.0) (beside BesideMedia p _ q h.1 (refl, refl, refl, refl, refl))
  media_acts given bytes came is went p (Err Alloc) q h =
      hear_media bytes came p q is (went p.core.media q.core.media (Err alloc_error) h.0) (beside BesideMedia p _ q h.1 (refl, refl, refl, refl, refl))
  media_acts given bytes came is went p (Err _) q h = absurd h

  kind_acts : (datagram : Receive) (contents : DatagramRecv) → CallActs m (came_of_datagram contents) (now ∷ []) (HearsKind m now datagram contents)
  kind_acts datagram (datagrams.Stun view) p r q h = stun_acts datagram view.bytes.now (came_of_datagram (datagrams.Stun view)) refl p r q h
  kind_acts datagram (datagrams.Dtls bytes) p r q h = dtls_acts bytes.now (came_of_datagram (datagrams.Dtls bytes)) refl p r q h
  kind_acts datagram (datagrams.Rtp bytes) p r q h =
      media_acts (λ a s b. m.media.rtp_given a now bytes.now s b) bytes.now (came_of_datagram (datagrams.Rtp bytes)) refl
      (λ a b s k. media_moved-one m.media a b (MediaGiven bytes.now) (now, (s, inl k))) p r q h
  kind_acts datagram (datagrams.Rtcp bytes) p r q h =
      media_acts (λ a s b. m.media.rtcp_given a now bytes.now s b) bytes.now (came_of_datagram (datagrams.Rtcp bytes)) refl
      (λ a b s k. media_moved-one m.media a b (MediaGiven bytes.now) (now, (s, inr k))) p r q h

module _ {I D S M E X T W N : Type 0} (m : Meanings I D S M E X T W N) (laws : AssociationLaws m.association) where
  hears_acts : (now : ℕ) (datagram : Receive) → CallActs m (came_of_datagram datagram.contents) (now ∷ []) (Hears m now datagram)
  hears_acts now datagram p r q (Heard between heard time) =
      did_after m (came_of_datagram datagram.contents) (now ∷ []) laws p between q (kind_acts m now datagram datagram.contents p (Ok tt) between heard)
      (time_acts m (came_of_datagram datagram.contents) now laws _ between r q time)
  hears_acts now datagram p r q (PartFailed error is heard) = kind_acts m now datagram datagram.contents p (Err error) q heard

  input_by : (input : Input) → CallActs m (came_by input) (moment_given input ∷ []) (HandlesInputBy m input)
  input_by (TimeCame now) p r q h = time_acts m nothing_came now laws _ p r q h
  input_by (Datagram now datagram) p r q h = hears_acts now datagram p r q h

  input_in : (phase : Phase) (input : Input) → CallActs m (came_by input) (moment_given input ∷ []) (HandlesInputIn m phase input)
  input_in Alive input p r q h = input_by input p r q h
  input_in Closing input p r q h = input_by input p r q h
  input_in Closed input p r q h = still_by m (came_by input) (moment_given input ∷ []) p p q h.1 (refl, refl, refl, refl, refl)

  pub input_acts : (input : Input) → CallActs m (came_by input) (moment_given input ∷ []) (HandlesInput m input)
  input_acts input p r q h = input_in p.core.phase input p r q h

module _ {I D S M E X T W N : Type 0} (m : Meanings I D S M E X T W N) where
  -- what a write took
  written_is : (stream generation : ℕ) (binary : Bool) (bytes : List ℕ) (answer : Result ℕ SctpError)
      → written_message stream generation binary bytes answer ≡ message_of_write stream generation binary bytes (write_taken answer)
  written_is stream generation binary bytes (Ok count) = refl
  written_is stream generation binary bytes (Err error) = refl

  writes_by : (full : Bool) (stream : ℕ) (binary : Bool) (bytes : List ℕ) (p : PolledPeer I D S M N) (r : Result Bool RtcError) (q : PolledPeer I D S M N)
      → WritesIf m full stream binary bytes p r q
      → CallDone m (message_of_write stream (m.association.generation p.core.sctp.association stream) binary bytes r) p q
  writes_by true stream binary bytes p r q h =
      subst (λ (x : Result Bool RtcError). CallDone m (message_of_write stream (m.association.generation p.core.sctp.association stream) binary bytes x) p q)
      (sym h.0) (still_by m nothing_came [] p p q h.1 (refl, refl, refl, refl, refl))
  writes_by false stream binary bytes p r q h =
      subst (λ (l : List StreamMessage). CallDone m l p q)
      (written_is stream (m.association.generation p.core.sctp.association stream) binary bytes h.0
      ∙ ap (message_of_write stream (m.association.generation p.core.sctp.association stream) binary bytes) (sym h.2))
      (call_did m nothing_came [] (written_message stream (m.association.generation p.core.sctp.association stream) binary bytes h.0) p q
      (writes_did m.association stream binary bytes p.core.sctp h.0 q.core.sctp h.1) (beside BesideStreams p _ q h.3 (refl, refl, refl, refl)))

  pub write_acts : (stream : ℕ) (binary : Bool) (bytes : List ℕ) (p : PolledPeer I D S M N) (r : Result Bool RtcError) (q : PolledPeer I D S M N)
      → WritesChannel m stream binary bytes p r q
      → CallDone m (message_of_write stream (m.association.generation p.core.sctp.association stream) binary bytes r) p q
  write_acts stream binary bytes p r q h = writes_by _ stream binary bytes p r q h

  pub threshold_acts : (stream n : ℕ) (p q : PolledPeer I D S M N) → SetsChannelThreshold stream n p q → CallDone m [] p q
  threshold_acts stream n p q h =
      call_did m nothing_came [] [] p q (threshold_if m.association (is_open_stream stream p.core.sctp) stream n p.core.sctp q.core.sctp h.0)
      (beside BesideStreams p _ q h.1 (refl, refl, refl, refl))

  pub channel_close_acts : (id : ℕ) (p : PolledPeer I D S M N) (r : Result (Unit {0}) AllocError) (q : PolledPeer I D S M N)
      → ClosesDataChannel m id p r q → CallDone m [] p q
  channel_close_acts id p r q h =
      call_did m nothing_came [] [] p q (close_did m.association (stream_under id p.core.channels) p.core.sctp r q.core.sctp h.0)
      (beside BesideStreams p _ q h.1 (refl, refl, refl, refl))
