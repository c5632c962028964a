-- Calls beside polls leave it told that the handshake is finished: they do not touch it, and a closed peer stays closed.
use Rattle.std.proofs.Common.{◌≡◌, inl, inr, ℕ, Bool, true, false, List, [], ◌∷◌, Option, Some, None, Result, Ok, Err, refl, sym, ◌∙◌, ap, subst}
use Rattle.std.specs.Prelude.{nat_lt}
use Rattle.std.specs.declared.alloc.AllocError.{AllocError}
use Rattle.rtc_wire.specs.declared.datagram_recv.DatagramRecv.{DatagramRecv}
use Rattle.rtc_wire.specs.declared.datagram_recv.DatagramRecv.TheVariants as datagrams
use Rattle.rtc_wire.specs.declared.receive.Receive.{Receive}
use Rattle.rtc_sdp_values.specs.declared.sdp.Sdp.{Sdp}
use Rattle.rtc_parts.specs.declared.dtls_error.DtlsError.TheVariants.{WouldBlock, Fault, Alloc as DtlsAlloc}
use Rattle.rtc_peer_rows.specs.declared.why.Why.{Why}
use Rattle.rtc_peer_rows.specs.declared.why.Why.TheVariants.{NoFingerprint, NoLines, BothLite, NoCredentials, UnaskedRestart, SctpInitChanged, SctpInitMissing}
use Rattle.rtc_peer_rows.specs.declared.why.Why.TheVariants.{MovedLine, PlaceTaken, AnswerRecycles, WrongNewLines, NoMatch, UnknownHash, NoneAnnounced}
use Rattle.rtc_change.specs.declared.change.Change.{Change}
use Rattle.rtc_change.specs.PendingOffer.{PendingOffer}
use Rattle.rtc_peer_core.specs.declared.peer.Peer.{Peer}
use Rattle.rtc_peer_core.specs.declared.phase.Phase.{Phase}
use Rattle.rtc_peer_core.specs.declared.phase.Phase.TheVariants.{Alive, Closing, Closed}
use Rattle.rtc_peer_core.specs.declared.rtc_error.RtcError.{RtcError}
use Rattle.rtc_peer_core.specs.declared.rtc_error.RtcError.TheVariants.{RemoteSdp, Sdp as SdpRefused, Dtls, Sctp, Net, Media as MediaFailed, ChangesOutOfOrder, BadChannel, Alloc, Glare}
use Rattle.rtc_peer_core.specs.Acceptances.{AcceptsOffer, AcceptsAnswer, phase_after}
use Rattle.rtc_peer_core.specs.Calls.{Applies, LacksOffer, after_channels_alone}
use Rattle.rtc_peer_core.specs.Meanings.{Meanings}
use Rattle.rtc_peer_core.specs.RollingBack.{RollsBack}
use Rattle.rtc_peer_core.specs.SdpHalves.{draws_half}
use Rattle.rtc_peer_core.specs.Stance.{stance_of}
use Rattle.rtc_peer_transport.specs.declared.input.Input.{Input}
use Rattle.rtc_peer_transport.specs.declared.input.Input.TheVariants.{Timeout, Receive as Datagram}
use Rattle.rtc_peer_transport.specs.declared.polled_peer.PolledPeer.{PolledPeer}
use Rattle.rtc_peer_transport.specs.ChannelCalls.{ClosesDataChannel, WritesChannel, WritesIf}
use Rattle.rtc_peer_transport.specs.Closing.{ClosesPeer, ClosesPeerFrom}
use Rattle.rtc_peer_transport.specs.Statistics.{TimesStatistics}
use Rattle.rtc_peer_transport.proofs.StatisticsTurns.{statistics_timed}
use Rattle.rtc_peer_polling.specs.Inputs.{TimesIce, TimesStreams, TimesChannels, TimesMedia, TakesTimeIf, HandlesInputBy, HandlesInputIn, HandlesInput, with_moment}
use Rattle.rtc_peer_polling.specs.Inputs.{HearsStun, HearsDtls, HearsMedia, HearsKind, Heard, PartFailed}
use Rattle.rtc_peer_laws.specs.Weight.{IsHandshakeTold, handshake_weight}
use Rattle.rtc_peer_laws.proofs.QuietStages.{CallSame, closes_same, handshake_of, shake, turn_same}

-- a closed peer that refuses a description stays closed
stays_closed : (why : Why) (phase : Phase) → phase ≡ Closed → phase_after why phase ≡ Closed
stays_closed NoFingerprint phase h = refl
stays_closed NoLines phase h = h
stays_closed BothLite phase h = h
stays_closed NoCredentials phase h = h
stays_closed (UnaskedRestart kept got) phase h = h
stays_closed (SctpInitChanged kept got) phase h = h
stays_closed (SctpInitMissing kept) phase h = h
stays_closed (MovedLine mid) phase h = h
stays_closed (PlaceTaken mid) phase h = h
stays_closed (AnswerRecycles mid) phase h = h
stays_closed (WrongNewLines wrong) phase h = h
stays_closed (NoMatch expected got) phase h = refl
stays_closed (UnknownHash name) phase h = refl
stays_closed NoneAnnounced phase h = refl

module _ {I D S M E X T W N : Type 0} (m : Meanings I D S M E X T W N) where
  abbrev Told : PolledPeer I D S M N → Type 0
  Told p = IsHandshakeTold p

  -- handshake and phase stay, or the handshake does and a closed peer is as it was
  told_same : (p q : PolledPeer I D S M N) → handshake_of q ≡ handshake_of p → (p.core.phase ≡ Closed → q.core.phase ≡ Closed) → Told p → Told q
  told_same p q same closed (inl h) = inl (ap handshake_weight same ∙ h)
  told_same p q same closed (inr h) = inr (closed h)

  told_as : (p q : PolledPeer I D S M N) → q ≡ p → Told p → Told q
  told_as p q is h = subst (λ (x : PolledPeer I D S M N). IsHandshakeTold x) (sym is) h

  -- ---- inputs

  ice_same : (now : ℕ) → CallSame m (TimesIce m now)
  unfolding TimesIce
  ice_same now p (Ok done) q h = shake m _ q h.1
  ice_same now p (Err Alloc) q h = shake m _ q h.1
  ice_same now p (Err _) q h = absurd h

  streams_same : (now : ℕ) → CallSame m (TimesStreams m now)
  unfolding TimesStreams
  streams_same now p (Ok done) q h = shake m _ q h.1
  streams_same now p (Err Alloc) q h = shake m _ q h.1
  streams_same now p (Err _) q h = absurd h

  channels_same : CallSame m (TimesChannels m)
  unfolding TimesChannels
  channels_same p (Ok done) q h = shake m _ q h.1
  channels_same p (Err Alloc) q h = shake m _ q h.1
  channels_same p (Err _) q h = absurd h

  media_same : (now : ℕ) → CallSame m (TimesMedia m now)
  unfolding TimesMedia
  media_same now p (Ok done) q h = shake m _ q h.1
  media_same now p (Err (MediaFailed cause)) q h = shake m _ q h.2
  media_same now p (Err Alloc) q h = shake m _ q h.1
  media_same now p (Err _) q h = absurd h

  statistics_same : (now : ℕ) → CallSame m (TimesStatistics m now)
  statistics_same now p r q h = ap (λ (x : PolledPeer I D S M N). handshake_of x) (statistics_timed m now p r q h).kept

  time_same : (earlier : Bool) (now : ℕ) → CallSame m (TakesTimeIf m earlier now)
  time_same true now p r q h = shake m p q h.1
  time_same false now p r q h =
      turn_same m (TimesIce m now) _ (ice_same now)
      (turn_same m (TimesStreams m now) _ (streams_same now)
      (turn_same m (TimesChannels m) _ channels_same (turn_same m (TimesMedia m now) (TimesStatistics m now) (media_same now) (statistics_same now))))
      (with_moment now p) r q h

  stun_same : (now : ℕ) (datagram : Receive) (bytes : List ℕ) → CallSame m (HearsStun m now datagram bytes)
  unfolding HearsStun
  stun_same now datagram bytes p (Ok done) q h = shake m _ q h.1
  stun_same now datagram bytes p (Err Alloc) q h = shake m _ q h.1
  stun_same now datagram bytes p (Err _) q h = absurd h

  dtls_same : (bytes : List ℕ) → CallSame m (HearsDtls m bytes)
  unfolding HearsDtls
  dtls_same bytes p (Ok done) q h = shake m _ q h.1
  dtls_same bytes p (Err (Dtls cause)) q h = shake m _ q h.2
  dtls_same bytes p (Err Alloc) q h = shake m _ q h.1
  dtls_same bytes p (Err _) q h = absurd h

  packet_same : (given : M → Result (Unit {0}) AllocError → M → Type 0) (bytes : List ℕ) → CallSame m (HearsMedia m given bytes)
  unfolding HearsMedia
  packet_same given bytes p (Ok done) q h = shake m _ q h.1
  packet_same given bytes p (Err Alloc) q h = shake m _ q h.1
  packet_same given bytes p (Err _) q h = absurd h

  kind_same : (now : ℕ) (datagram : Receive) (contents : DatagramRecv) → CallSame m (HearsKind m now datagram contents)
  kind_same now datagram (datagrams.Stun view) p r q h = stun_same now datagram view.bytes.now p r q h
  kind_same now datagram (datagrams.Dtls bytes) p r q h = dtls_same bytes.now p r q h
  kind_same now datagram (datagrams.Rtp bytes) p r q h = packet_same (λ a s b. m.media.rtp_given a now bytes.now s b) bytes.now p r q h
  kind_same now datagram (datagrams.Rtcp bytes) p r q h = packet_same (λ a s b. m.media.rtcp_given a now bytes.now s b) bytes.now p r q h

  input_by : (input : Input) → CallSame m (HandlesInputBy m input)
  input_by (Timeout now) p r q h = time_same (nat_lt now p.core.greatest) now p r q h
  input_by (Datagram now datagram) p r q (Heard between heard time) =
      time_same (nat_lt now between.core.greatest) now between r q time ∙ kind_same now datagram datagram.contents p (Ok tt) between heard
  input_by (Datagram now datagram) p r q (PartFailed error failed heard) = kind_same now datagram datagram.contents p (Err error) q heard

  input_in : (phase : Phase) (input : Input) (p : PolledPeer I D S M N) (r : Result (Unit {0}) RtcError) (q : PolledPeer I D S M N) → p.core.phase ≡ phase
      → HandlesInputIn m phase input p r q → Told p → Told q
  input_in Alive input p r q is h k = told_same p q (input_by input p r q h) (λ e. cc (is, e)) k
  input_in Closing input p r q is h k = told_same p q (input_by input p r q h) (λ e. cc (is, e)) k
  input_in Closed input p r q is h k = told_as p q h.1 k

  pub inputs_told : (p q : PolledPeer I D S M N) (input : Input) (r : Result (Unit {0}) RtcError) → IsHandshakeTold p → HandlesInput m input p r q → IsHandshakeTold q
  inputs_told p q input r k h = input_in p.core.phase input p r q refl h k

  in_same : (phase : Phase) (input : Input) (p : PolledPeer I D S M N) (r : Result (Unit {0}) RtcError) (q : PolledPeer I D S M N)
      → HandlesInputIn m phase input p r q → handshake_of q ≡ handshake_of p
  in_same Alive input p r q h = input_by input p r q h
  in_same Closing input p r q h = input_by input p r q h
  in_same Closed input p r q h = shake m p q h.1

  pub inputs_same : (p q : PolledPeer I D S M N) (input : Input) (r : Result (Unit {0}) RtcError) → HandlesInput m input p r q
      → handshake_of q ≡ handshake_of p
  inputs_same p q input r h = in_same p.core.phase input p r q h

  -- ---- closes and writes

  close_in : (phase : Phase) (p : PolledPeer I D S M N) (r : Result (Unit {0}) RtcError) (q : PolledPeer I D S M N) → p.core.phase ≡ phase → ClosesPeerFrom m phase p r q
      → p.core.phase ≡ Closed → q.core.phase ≡ Closed
  close_in Alive p r q is h e = cc (is, e)
  close_in Closing p r q is h e = ap (λ (x : PolledPeer I D S M N). x.core.phase) h.1 ∙ e
  close_in Closed p r q is h e = ap (λ (x : PolledPeer I D S M N). x.core.phase) h.1 ∙ e

  pub closes_told : (p q : PolledPeer I D S M N) (r : Result (Unit {0}) RtcError) → IsHandshakeTold p → ClosesPeer m p r q → IsHandshakeTold q
  closes_told p q r k h = told_same p q (closes_same m p r q h) (close_in p.core.phase p r q refl h) k

  write_by : (full : Bool) (stream : ℕ) (binary : Bool) (bytes : List ℕ) (p : PolledPeer I D S M N) (r : Result Bool RtcError) (q : PolledPeer I D S M N)
      → WritesIf m full stream binary bytes p r q → Told p → Told q
  write_by true stream binary bytes p r q h k = told_as p q h.1 k
  write_by false stream binary bytes p r q h k = told_as _ q h.3 k

  pub writes_told : (p q : PolledPeer I D S M N) (stream : ℕ) (binary : Bool) (bytes : List ℕ) (r : Result Bool RtcError) → IsHandshakeTold p
      → WritesChannel m stream binary bytes p r q → IsHandshakeTold q
  writes_told p q stream binary bytes r k h = write_by _ stream binary bytes p r q h k

  same_by : (full : Bool) (stream : ℕ) (binary : Bool) (bytes : List ℕ) (p : PolledPeer I D S M N) (r : Result Bool RtcError) (q : PolledPeer I D S M N)
      → WritesIf m full stream binary bytes p r q → handshake_of q ≡ handshake_of p
  same_by true stream binary bytes p r q h = shake m p q h.1
  same_by false stream binary bytes p r q h = shake m _ q h.3

  pub writes_same : (p q : PolledPeer I D S M N) (stream : ℕ) (binary : Bool) (bytes : List ℕ) (r : Result Bool RtcError)
      → WritesChannel m stream binary bytes p r q → handshake_of q ≡ handshake_of p
  writes_same p q stream binary bytes r h = same_by _ stream binary bytes p r q h

  pub channel_closes_same : (p q : PolledPeer I D S M N) (id : ℕ) (r : Result (Unit {0}) AllocError) → ClosesDataChannel m id p r q
      → handshake_of q ≡ handshake_of p
  channel_closes_same p q id r h = shake m _ q h.1

  pub channel_closes_told : (p q : PolledPeer I D S M N) (id : ℕ) (r : Result (Unit {0}) AllocError) → IsHandshakeTold p → ClosesDataChannel m id p r q → IsHandshakeTold q
  channel_closes_told p q id r k h = told_as _ q h.1 k

  -- ---- negotiation

  phase_is : (x q : Peer I D S M N) → q ≡ x → x.phase ≡ Closed → q.phase ≡ Closed
  phase_is x q is e = ap (λ (y : Peer I D S M N). y.phase) is ∙ e

  pub offers_closed : (p q : Peer I D S M N) (offer : Sdp) (r : Result Sdp RtcError) → AcceptsOffer m p offer r q → p.phase ≡ Closed → q.phase ≡ Closed
  offers_closed p q offer (Ok answer) h e = phase_is _ q h.rest e
  offers_closed p q offer (Err (RemoteSdp why)) h e = phase_is _ q h.1.1 (stays_closed why p.phase e)
  offers_closed p q offer (Err (SdpRefused error)) h e = phase_is _ q h.1.1 e
  offers_closed p q offer (Err (Dtls Fault)) h e = phase_is _ q h.rest e
  offers_closed p q offer (Err (Dtls WouldBlock)) h e = absurd h
  offers_closed p q offer (Err (Dtls DtlsAlloc)) h e = absurd h
  offers_closed p q offer (Err (Sctp error)) h e = phase_is _ q h.1.rest e
  offers_closed p q offer (Err ChangesOutOfOrder) h e = absurd h
  offers_closed p q offer (Err (Net cause)) h e = absurd h
  offers_closed p q offer (Err (MediaFailed cause)) h e = absurd h
  offers_closed p q offer (Err BadChannel) h e = absurd h
  offers_closed p q offer (Err Glare) h e = phase_is p q h.1 e
  offers_closed p q offer (Err Alloc) h e = phase_is _ q h.rest e

  pub answers_closed : (p q : Peer I D S M N) (token : PendingOffer) (answer : Sdp) (r : Result (Unit {0}) RtcError) → AcceptsAnswer m p token answer r q
      → p.phase ≡ Closed → q.phase ≡ Closed
  answers_closed p q token answer (Ok done) h e = phase_is _ q h.rest e
  answers_closed p q token answer (Err (Net cause)) h e = absurd h
  answers_closed p q token answer (Err (MediaFailed cause)) h e = absurd h
  answers_closed p q token answer (Err BadChannel) h e = absurd h
  answers_closed p q token answer (Err Glare) h e = absurd h
  answers_closed p q token answer (Err ChangesOutOfOrder) h e = phase_is p q h.1 e
  answers_closed p q token answer (Err (RemoteSdp why)) h e = phase_is _ q h.1.1 (stays_closed why p.phase e)
  answers_closed p q token answer (Err (SdpRefused error)) h e = phase_is _ q h.1.1 e
  answers_closed p q token answer (Err (Dtls Fault)) h e = phase_is _ q h.rest e
  answers_closed p q token answer (Err (Dtls WouldBlock)) h e = absurd h
  answers_closed p q token answer (Err (Dtls DtlsAlloc)) h e = absurd h
  answers_closed p q token answer (Err (Sctp error)) h e = phase_is _ q h.1.rest e
  answers_closed p q token answer (Err Alloc) h e = phase_is _ q h.rest e

  alone : (changes : List Change) (p q : Peer I D S M N) → q ≡ after_channels_alone changes p → p.phase ≡ Closed → q.phase ≡ Closed
  alone [] p q h e = phase_is p q h e
  alone (change ∷ changes) p q h e = phase_is _ q h e

  lacking : (draws : Bool) (p q : Peer I D S M N) → LacksOffer m draws p q → p.phase ≡ Closed → q.phase ≡ Closed
  lacking true p q h e = phase_is _ q h.1 e
  lacking false p q h e = phase_is p q h e

  pub applies_closed : (p q : Peer I D S M N) (r : Result (Option (Sdp × PendingOffer)) AllocError) → Applies m p r q → p.phase ≡ Closed → q.phase ≡ Closed
  applies_closed p q (Ok None) h e = alone p.staged p q h.1 e
  applies_closed p q (Ok (Some made)) h e = phase_is _ q h.4 e
  applies_closed p q (Err error) h e = lacking (draws_half (stance_of m p)) p q h e

  pub rollbacks_closed : (p q : Peer I D S M N) (token : PendingOffer) (r : Result (Unit {0}) RtcError) → RollsBack p token r q → p.phase ≡ Closed → q.phase ≡ Closed
  rollbacks_closed p q token (Ok done) h e = phase_is _ q h.1 e
  rollbacks_closed p q token (Err ChangesOutOfOrder) h e = phase_is p q h.1 e
  rollbacks_closed p q token (Err _) h e = absurd h

  -- what leaves the connection, and a closed peer closed
  pub left_told : (p q : PolledPeer I D S M N) → q.transport ≡ p.transport → (p.core.phase ≡ Closed → q.core.phase ≡ Closed) → IsHandshakeTold p → IsHandshakeTold q
  left_told p q same closed k = told_same p q (ap (λ x. x.handshake) same) closed k
