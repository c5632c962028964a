-- What a poll takes from the streams of the data channels, and which of their packets it sends over the DTLS connection.
use Rattle.std.specs.Prelude.{ℕ, ◌≡◌, ◌≤◌, ◌⊎◌, Bool, true, false, All, List, [], ◌∷◌, length, map, Option, Some, None, Result, Ok, Err}
use Rattle.std.specs.declared.alloc.AllocError.{AllocError}
use Rattle.rtc_parts.specs.declared.dtls_error.DtlsError.TheVariants.{Fault, Alloc as DtlsAlloc}
use Rattle.rtc_parts.specs.DtlsState.{SendsData, can_send}
use Rattle.rtc_sctp_entries.specs.declared.sctp_event.SctpEvent.{SctpEvent}
use Rattle.rtc_sctp_entries.specs.declared.sctp_event.SctpEvent.TheVariants as event
use Rattle.rtc_sctp.specs.Streams.{SctpStreams}
use Rattle.rtc_sctp.specs.Polls.{PollsStreams}
use Rattle.rtc_channels.specs.Channels.{Channels, numbered_stream, channel_of_stream}
use Rattle.rtc_channels.specs.Allocation.{channel_ensured}
use Rattle.rtc_channels.specs.Holds.{reset_completed, holds_lost, removed_channel}
use Rattle.rtc_peer_core.specs.Meanings.{Meanings}
use Rattle.rtc_peer_core.specs.declared.rtc_error.RtcError.TheVariants.{Dtls, Alloc}
use Rattle.rtc_peer_transport.specs.declared.event.Event.TheVariants.{ChannelOpen, ChannelData, ChannelClose, ChannelBufferedAmountLow}
use Rattle.rtc_peer_transport.specs.declared.event.Event.TheVariants.{Closed as ClosedEvent}
use Rattle.rtc_peer_transport.specs.declared.met.Met.{Met}
use Rattle.rtc_peer_transport.specs.declared.met.Met.TheVariants.{Nothing, Again, Event, Error}
use Rattle.rtc_peer_transport.specs.declared.polled_peer.PolledPeer.{PolledPeer}
use Rattle.rtc_peer_transport.specs.Closing.{ClosesPeer, is_phase_closing}
use Rattle.rtc_peer_transport.specs.Connection.{with_dtls, with_sctp, with_channels, with_pushed, closed_peer}
use Rattle.rtc_peer_transport.specs.Stages.{Stage, FollowedBy, RepeatsStage}

-- the channel that a stream was given to
abbrev pub channel_over : ℕ → Channels → Option ℕ
channel_over stream held = channel_of_stream stream (map numbered_stream held.rows)

-- packets of an event are short enough for a datagram of DTLS
abbrev pub IsShortTransmit : SctpEvent → Type 0
IsShortTransmit (event.Transmit packets) = All (λ packet. length packet ≤ 1900) packets
IsShortTransmit (event.Open stream label) = Unit {0}
IsShortTransmit (event.Close stream pending) = Unit {0}
IsShortTransmit (event.StreamResetComplete stream) = Unit {0}
IsShortTransmit (event.Data stream binary bytes) = Unit {0}
IsShortTransmit (event.BufferedAmountLow stream) = Unit {0}
IsShortTransmit event.AssociationLost = Unit {0}

-- what is left of a list, if something is
abbrev pub left_over : List (List ℕ) → Option (List (List ℕ))
left_over [] = None
left_over (packet ∷ packets) = Some (packet ∷ packets)

module _ {I D S M E N : Type 0} where
  -- A stream is open. It is given a channel if it has none, and that is reported; if channel numbers are exhausted, nothing is.
  unfoldable pub OpensChannelOver : (stream : ℕ) → (label : List ℕ) → Stage (PolledPeer I D S M N) E
  OpensChannelOver stream label p (Event (ChannelOpen id text)) q =
      (text ≡ label)
      × (channel_over stream (channel_ensured stream p.core.channels) ≡ Some id)
      × (q ≡ with_channels (channel_ensured stream p.core.channels) p)
  OpensChannelOver stream label p Again q =
      (channel_over stream (channel_ensured stream p.core.channels) ≡ None)
      × (q ≡ with_channels (channel_ensured stream p.core.channels) p)
  OpensChannelOver stream label p (Error Alloc) q = q ≡ closed_peer p
  OpensChannelOver stream label p r q = ⊥

  -- A stream is closed, and with it its channel: the row is removed, and the stream is held while its reset is pending. A stream without a
  -- channel is passed over.
  abbrev pub ClosesChannelOver : Option ℕ → (pending : Bool) → Stage (PolledPeer I D S M N) E
  ClosesChannelOver (Some id) pending p r q =
      (r ≡ Event (ChannelClose id)) × (q ≡ with_channels (removed_channel id pending p.core.channels) p)
  ClosesChannelOver None pending p r q = (r ≡ Again) × (q ≡ p)

  -- a message was received on a stream
  abbrev pub HearsChannelOver : Option ℕ → (binary : Bool) → List ℕ → Stage (PolledPeer I D S M N) E
  HearsChannelOver (Some id) binary bytes p r q =
      (r ≡ Event (ChannelData (record { id = id; binary = binary; bytes = bytes }))) × (q ≡ p)
  HearsChannelOver None binary bytes p r q = (r ≡ Again) × (q ≡ p)

  -- what a stream has buffered fell to its threshold
  abbrev pub FallsChannelOver : Option ℕ → Stage (PolledPeer I D S M N) E
  FallsChannelOver (Some id) p r q = (r ≡ Event (ChannelBufferedAmountLow id)) × (q ≡ p)
  FallsChannelOver None p r q = (r ≡ Again) × (q ≡ p)

module _ {I D S M E X T W N : Type 0} (m : Meanings I D S M E X T W N) where
  -- the association is lost: no stream is held any more, closing begins, unless it has, and this is reported each time
  unfoldable pub LosesAssociation : Stage (PolledPeer I D S M N) E
  LosesAssociation p (Event ClosedEvent) q = ClosesPeer m (with_channels (holds_lost p.core.channels) p) (Ok tt) q
  LosesAssociation p (Error error) q = ClosesPeer m (with_channels (holds_lost p.core.channels) p) (Err error) q
  LosesAssociation p r q = ⊥

  -- What becomes of an event of the streams. Packets are kept, to be sent next.
  abbrev pub TakesStreamEvent : SctpEvent → Stage (PolledPeer I D S M N) E
  TakesStreamEvent (event.Transmit packets) p r q = (r ≡ Nothing) × (q ≡ with_pushed (Some packets) p)
  TakesStreamEvent (event.Open stream label) p r q = OpensChannelOver stream label p r q
  TakesStreamEvent (event.Close stream pending) p r q = ClosesChannelOver (channel_over stream p.core.channels) pending p r q
  TakesStreamEvent (event.StreamResetComplete stream) p r q =
      (r ≡ Again) × (q ≡ with_channels (reset_completed stream p.core.channels) p)
  TakesStreamEvent (event.Data stream binary bytes) p r q =
      HearsChannelOver (channel_over stream p.core.channels) binary bytes p r q
  TakesStreamEvent (event.BufferedAmountLow stream) p r q = FallsChannelOver (channel_over stream p.core.channels) p r q
  TakesStreamEvent event.AssociationLost p r q = LosesAssociation p r q

  -- what becomes of the result of their poll; running out of memory closes the peer
  abbrev pub TakesStreamAnswer : Result (Option SctpEvent) AllocError → Stage (PolledPeer I D S M N) E
  TakesStreamAnswer (Ok None) p r q = (r ≡ Nothing) × (q ≡ p)
  TakesStreamAnswer (Ok (Some told)) p r q = TakesStreamEvent told p r q
  TakesStreamAnswer (Err error) p r q = (r ≡ Error Alloc) × (q ≡ closed_peer p)

  -- the streams are polled once
  pub record PollsStreamEvent (p : PolledPeer I D S M N) (r : Met E) (q : PolledPeer I D S M N) : Type 0 where
    pub answer : Result (Option SctpEvent) AllocError
    pub streams : SctpStreams S
    pub by_poll : PollsStreams m.association p.core.sctp answer streams
    pub by_answer : TakesStreamAnswer answer (with_sctp streams p) r q

  -- the streams are polled up to an event that is reported, packets, or nothing
  abbrev pub PollsStreamEvents : Stage (PolledPeer I D S M N) E
  PollsStreamEvents = RepeatsStage PollsStreamEvent

  -- A packet is sent over the DTLS connection, and the walk starts over. It is pushed back if no application data can be sent yet. One that
  -- the connection refuses by a fault is dropped, and the fault is returned unless the peer is closing.
  unfoldable pub SendsPacket : List ℕ → (rest : List (List ℕ)) → Stage (PolledPeer I D S M N) E
  SendsPacket packet rest p Nothing q =
      (can_send m.dtls p.core.dtls ≡ false) × (q ≡ with_pushed (Some (packet ∷ rest)) p)
  SendsPacket packet rest p Again q =
      (q ≡ with_dtls q.core.dtls (with_pushed (left_over rest) p))
      × (SendsData m.dtls p.core.dtls (can_send m.dtls p.core.dtls) packet (Ok tt) q.core.dtls
      ⊎ ((is_phase_closing p.core.phase ≡ true)
      × SendsData m.dtls p.core.dtls (can_send m.dtls p.core.dtls) packet (Err Fault) q.core.dtls))
  SendsPacket packet rest p (Error (Dtls cause)) q =
      (cause ≡ Fault)
      × (is_phase_closing p.core.phase ≡ false)
      × SendsData m.dtls p.core.dtls (can_send m.dtls p.core.dtls) packet (Err Fault) q.core.dtls
      × (q ≡ with_dtls q.core.dtls (with_pushed (left_over rest) p))
  SendsPacket packet rest p (Error Alloc) q =
      SendsData m.dtls p.core.dtls (can_send m.dtls p.core.dtls) packet (Err DtlsAlloc) q.core.dtls
      × (q ≡ closed_peer (with_dtls q.core.dtls (with_pushed (left_over rest) p)))
  SendsPacket packet rest p r q = ⊥

  -- the first of the packets that are kept
  abbrev pub SendsFirst : Option (List (List ℕ)) → Stage (PolledPeer I D S M N) E
  SendsFirst None p r q = (r ≡ Nothing) × (q ≡ p)
  SendsFirst (Some []) p r q = (r ≡ Again) × (q ≡ p)
  SendsFirst (Some (packet ∷ rest)) p r q = SendsPacket packet rest p r q

  -- packets that are kept are taken out, and the first of them is sent
  abbrev pub SendsKeptPackets : Stage (PolledPeer I D S M N) E
  SendsKeptPackets p r q = SendsFirst p.core.sctp.pushed (with_pushed None p) r q

  -- the streams: events up to one that is reported, or packets for the other end
  unfoldable pub TellsStreams : Stage (PolledPeer I D S M N) E
  TellsStreams = FollowedBy PollsStreamEvents SendsKeptPackets
