-- What becomes of an input.
use Rattle.std.specs.Prelude.{ℕ, ◌≡◌, ◌≢◌, nat_lt, Bool, true, false, List, Result, Ok, Err, alloc_error}
use Rattle.std.specs.declared.alloc.AllocError.{AllocError}
use Rattle.rtc_wire.specs.declared.datagram_recv.DatagramRecv.{DatagramRecv}
use Rattle.rtc_wire.specs.declared.datagram_recv.DatagramRecv.TheVariants as datagrams
use Rattle.rtc_wire.specs.declared.receive.Receive.{Receive}
use Rattle.rtc_parts.specs.declared.dtls_error.DtlsError.TheVariants.{Fault, Alloc as DtlsAlloc}
use Rattle.rtc_parts.specs.DtlsState.{HandsOn}
use Rattle.rtc_ready.specs.Signals.{Signals, both}
use Rattle.rtc_parts.specs.AssociationMeaning.{AssociationMeaning}
use Rattle.rtc_sctp.specs.Streams.{SctpStreams}
use Rattle.rtc_sctp.specs.Calls.{TakesTimeout}
use Rattle.rtc_channels.specs.Channels.{Channels}
use Rattle.rtc_channels.specs.Openings.{MeetsMoment, is_progress_due}
use Rattle.rtc_parts.specs.declared.media_error.MediaError.TheVariants.{Alloc as MediaAlloc}
use Rattle.rtc_peer_core.specs.declared.phase.Phase.{Phase}
use Rattle.rtc_peer_core.specs.declared.phase.Phase.TheVariants.{Alive, Closing, Closed}
use Rattle.rtc_peer_core.specs.Meanings.{Meanings}
use Rattle.rtc_peer_transport.specs.declared.input.Input.{Input}
use Rattle.rtc_peer_transport.specs.declared.input.Input.TheVariants.{Timeout, Receive as Datagram}
use Rattle.rtc_peer_core.specs.declared.rtc_error.RtcError.{RtcError}
use Rattle.rtc_peer_core.specs.declared.rtc_error.RtcError.TheVariants.{Dtls, Media, Alloc}
use Rattle.rtc_peer_transport.specs.declared.polled_peer.PolledPeer.{PolledPeer}
use Rattle.rtc_peer_transport.specs.Connection.{with_ice, with_dtls, with_media, with_sctp, with_channels, closed_peer}
use Rattle.rtc_peer_polling.specs.SendStages.{bytes_counted}
use Rattle.rtc_peer_transport.specs.Statistics.{TimesStatistics}
use Rattle.rtc_peer_transport.specs.Stages.{Call, InTurn}

-- the peer that took a moment
abbrev pub with_moment : {I D S M N : Type 0} → ℕ → PolledPeer I D S M N → PolledPeer I D S M N
with_moment now p = record p { core = record p.core { greatest = now } }

-- the peer once bytes were received
abbrev pub with_received : {I D S M N : Type 0} → List ℕ → PolledPeer I D S M N → PolledPeer I D S M N
with_received bytes p = record p { transport = record p.transport { received = bytes_counted p.transport.received bytes } }

-- the streams of an association are given a moment
abbrev pub StreamsTimed : {S : Type 0} → AssociationMeaning S → ℕ → SctpStreams S → Result (Unit {0}) AllocError → SctpStreams S → Type 0
StreamsTimed m now p r q = (wake : Signals) × TakesTimeout m now p both r q wake

-- channels over streams are given a moment
abbrev pub ChannelsTimed : {S : Type 0} → AssociationMeaning S → Channels → SctpStreams S → Result (Unit {0}) AllocError → Channels
    → SctpStreams S → Type 0
ChannelsTimed m held p r held' q = (wake : Signals) × MeetsMoment m (is_progress_due m held p) held p both r held' q wake

module _ {I D S M E X T W N : Type 0} (m : Meanings I D S M E X T W N) where
  unfoldable pub TimesIce : ℕ → Call (PolledPeer I D S M N)
  TimesIce now p (Ok done) q = m.ice.timed p.core.ice now (Ok tt) q.core.ice × (q ≡ with_ice q.core.ice p)
  TimesIce now p (Err Alloc) q =
      m.ice.timed p.core.ice now (Err alloc_error) q.core.ice × (q ≡ closed_peer (with_ice q.core.ice p))
  TimesIce now p (Err error) q = ⊥

  unfoldable pub TimesStreams : ℕ → Call (PolledPeer I D S M N)
  TimesStreams now p (Ok done) q =
      StreamsTimed m.association now p.core.sctp (Ok tt) q.core.sctp × (q ≡ with_sctp q.core.sctp p)
  TimesStreams now p (Err Alloc) q =
      StreamsTimed m.association now p.core.sctp (Err alloc_error) q.core.sctp × (q ≡ closed_peer (with_sctp q.core.sctp p))
  TimesStreams now p (Err error) q = ⊥

  -- channels are given streams, and those that are confirmed are opened
  unfoldable pub TimesChannels : Call (PolledPeer I D S M N)
  TimesChannels p (Ok done) q =
      ChannelsTimed m.association p.core.channels p.core.sctp (Ok tt) q.core.channels q.core.sctp
      × (q ≡ with_channels q.core.channels (with_sctp q.core.sctp p))
  TimesChannels p (Err Alloc) q =
      ChannelsTimed m.association p.core.channels p.core.sctp (Err alloc_error) q.core.channels q.core.sctp
      × (q ≡ closed_peer (with_channels q.core.channels (with_sctp q.core.sctp p)))
  TimesChannels p (Err error) q = ⊥

  -- a failure of the media part leaves the peer open
  unfoldable pub TimesMedia : ℕ → Call (PolledPeer I D S M N)
  TimesMedia now p (Ok done) q = m.media.timed p.core.media now (Ok tt) q.core.media × (q ≡ with_media q.core.media p)
  TimesMedia now p (Err (Media cause)) q =
      (cause ≢ MediaAlloc) × m.media.timed p.core.media now (Err cause) q.core.media × (q ≡ with_media q.core.media p)
  TimesMedia now p (Err Alloc) q =
      m.media.timed p.core.media now (Err MediaAlloc) q.core.media × (q ≡ closed_peer (with_media q.core.media p))
  TimesMedia now p (Err error) q = ⊥

  -- The ICE agent, the streams, the channels, the media part and the statistics are given a moment. It remains taken if one of them fails,
  -- and what follows that is left out.
  abbrev pub GivesTime : ℕ → Call (PolledPeer I D S M N)
  GivesTime now p r q =
      InTurn (TimesIce now) (InTurn (TimesStreams now) (InTurn TimesChannels (InTurn (TimesMedia now) (TimesStatistics m now))))
      (with_moment now p) r q

  abbrev pub TakesTimeIf : (earlier : Bool) → ℕ → PolledPeer I D S M N → Result (Unit {0}) RtcError → PolledPeer I D S M N → Type 0
  TakesTimeIf true now p r q = (r ≡ Ok tt) × (q ≡ p)
  TakesTimeIf false now p r q = GivesTime now p r q

  -- A moment before the greatest that was taken is ignored.
  abbrev pub TakesTime : ℕ → PolledPeer I D S M N → Result (Unit {0}) RtcError → PolledPeer I D S M N → Type 0
  TakesTime now p r q = TakesTimeIf (nat_lt now p.core.greatest) now p r q

  -- the ICE agent is given a message
  unfoldable pub HearsStun : ℕ → Receive → List ℕ → PolledPeer I D S M N → Result (Unit {0}) RtcError → PolledPeer I D S M N
      → Type 0
  HearsStun now datagram bytes p (Ok done) q =
      m.ice.given p.core.ice now datagram.proto datagram.source datagram.destination bytes (Ok tt) q.core.ice
      × (q ≡ with_ice q.core.ice p)
  HearsStun now datagram bytes p (Err Alloc) q =
      m.ice.given p.core.ice now datagram.proto datagram.source datagram.destination bytes (Err alloc_error) q.core.ice
      × (q ≡ closed_peer (with_ice q.core.ice p))
  HearsStun now datagram bytes p (Err error) q = ⊥

  -- the DTLS connection is given a packet
  unfoldable pub HearsDtls : List ℕ → PolledPeer I D S M N → Result (Unit {0}) RtcError → PolledPeer I D S M N → Type 0
  HearsDtls bytes p (Ok done) q =
      HandsOn m.dtls p.core.dtls p.core.dtls.active (λ i r j. m.dtls.given i bytes r j) (Ok tt) q.core.dtls
      × (q ≡ with_received bytes (with_dtls q.core.dtls p))
  HearsDtls bytes p (Err (Dtls cause)) q =
      (cause ≡ Fault)
      × HandsOn m.dtls p.core.dtls p.core.dtls.active (λ i r j. m.dtls.given i bytes r j) (Err Fault) q.core.dtls
      × (q ≡ with_received bytes (with_dtls q.core.dtls p))
  HearsDtls bytes p (Err Alloc) q =
      HandsOn m.dtls p.core.dtls p.core.dtls.active (λ i r j. m.dtls.given i bytes r j) (Err DtlsAlloc) q.core.dtls
      × (q ≡ closed_peer (with_received bytes (with_dtls q.core.dtls p)))
  HearsDtls bytes p (Err error) q = ⊥

  -- the media part is given a packet of a kind
  unfoldable pub HearsMedia : (M → Result (Unit {0}) AllocError → M → Type 0) → List ℕ → PolledPeer I D S M N
      → Result (Unit {0}) RtcError → PolledPeer I D S M N → Type 0
  HearsMedia given bytes p (Ok done) q = given p.core.media (Ok tt) q.core.media × (q ≡ with_received bytes (with_media q.core.media p))
  HearsMedia given bytes p (Err Alloc) q =
      given p.core.media (Err alloc_error) q.core.media
      × (q ≡ closed_peer (with_received bytes (with_media q.core.media p)))
  HearsMedia given bytes p (Err error) q = ⊥

  -- a datagram is given to the part of its kind
  abbrev pub HearsKind : ℕ → Receive → DatagramRecv → PolledPeer I D S M N → Result (Unit {0}) RtcError → PolledPeer I D S M N
      → Type 0
  HearsKind now datagram (datagrams.Stun view) p r q = HearsStun now datagram view.bytes.now p r q
  HearsKind now datagram (datagrams.Dtls bytes) p r q = HearsDtls bytes.now p r q
  HearsKind now datagram (datagrams.Rtp bytes) p r q = HearsMedia (λ a r b. m.media.rtp_given a now bytes.now r b) bytes.now p r q
  HearsKind now datagram (datagrams.Rtcp bytes) p r q = HearsMedia (λ a r b. m.media.rtcp_given a now bytes.now r b) bytes.now p r q

  -- A datagram is given to its part, and then its moment is taken. If the part fails, it is not.
  pub data Hears (now : ℕ) (datagram : Receive) (p : PolledPeer I D S M N) (r : Result (Unit {0}) RtcError)
      (q : PolledPeer I D S M N) : Type 0 where
    Heard : (between : PolledPeer I D S M N) → HearsKind now datagram datagram.contents p (Ok tt) between → TakesTime now between r q
        → Hears now datagram p r q
    PartFailed : (error : RtcError) → r ≡ Err error → HearsKind now datagram datagram.contents p (Err error) q
        → Hears now datagram p r q

  abbrev pub HandlesInputBy : Input → PolledPeer I D S M N → Result (Unit {0}) RtcError → PolledPeer I D S M N → Type 0
  HandlesInputBy (Timeout now) p r q = TakesTime now p r q
  HandlesInputBy (Datagram now datagram) p r q = Hears now datagram p r q

  abbrev pub HandlesInputIn : Phase → Input → PolledPeer I D S M N → Result (Unit {0}) RtcError → PolledPeer I D S M N → Type 0
  HandlesInputIn Alive input p r q = HandlesInputBy input p r q
  HandlesInputIn Closing input p r q = HandlesInputBy input p r q
  HandlesInputIn Closed input p r q = (r ≡ Ok tt) × (q ≡ p)

  -- The parts are given an input; a closed peer ignores it.
  abbrev pub HandlesInput : Input → PolledPeer I D S M N → Result (Unit {0}) RtcError → PolledPeer I D S M N → Type 0
  HandlesInput input p r q = HandlesInputIn p.core.phase input p r q
