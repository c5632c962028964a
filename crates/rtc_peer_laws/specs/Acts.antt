-- What each call of a peer does to its parts, as lists of acts, and what of that it shows.
use Rattle.std.specs.Prelude.{ℕ, ◌≡◌, ◌++◌, ◌∷◌, Bool, true, false, List, [], map, Some, None, Result, Ok, Err}
use Rattle.rtc_parts.specs.Among.{Among}
use Rattle.rtc_parts.specs.IceWords.{ice_given}
use Rattle.rtc_parts.specs.DtlsWords.{dtls_given, dtls_sent, dtls_got}
use Rattle.rtc_parts.specs.AssociationWords.{given, taken}
use Rattle.rtc_sctp_entries.specs.declared.sctp_event.SctpEvent.{SctpEvent}
use Rattle.rtc_sctp_entries.specs.declared.sctp_event.SctpEvent.TheVariants as event
use Rattle.rtc_sctp.specs.Calls.{written_ppi, is_nil}
use Rattle.rtc_sctp_laws.specs.StreamMessages.{StreamMessage, stream_message, write_act, read_act, writes_of, reads_of}
use Rattle.rtc_sctp_laws.specs.StreamMessages.{HaveNamedPpis, NamesReadings, are_dcep, shown_messages, pushed_packets}
use Rattle.rtc_channels.specs.Channels.{Channels}
use Rattle.rtc_peer_core.specs.declared.peer.Peer.{Peer}
use Rattle.rtc_peer_core.specs.declared.rtc_error.RtcError.{RtcError}
use Rattle.rtc_peer_core.specs.Meanings.{Meanings}
use Rattle.rtc_peer_transport.specs.declared.event.Event.TheVariants.{ChannelData}
use Rattle.rtc_peer_transport.specs.declared.input.Input.{Input}
use Rattle.rtc_peer_transport.specs.declared.output.Output.{Output}
use Rattle.rtc_peer_transport.specs.declared.output.Output.TheVariants as outputs
use Rattle.rtc_peer_transport.specs.declared.polled_peer.PolledPeer.{PolledPeer}
use Rattle.rtc_peer_polling.specs.StreamStages.{channel_over}
use Rattle.rtc_peer_laws.specs.ChannelStreams.{AreNumberedChannels, StreamsWent}
use Rattle.rtc_peer_laws.specs.PeerActs.{PeerActs, PeerMoved, Came, nothing_came, came_by, moment_given, contents_taken, media_given}
use Rattle.rtc_peer_laws.specs.PeerActs.{ice_moments, dtls_moments, media_moments, dtls_roles, roles_after}

-- Acts in order took the parts of one peer to those of another. What they were given is among what was received, and the moments that they
-- were given are among these. The first role that the DTLS part was given is that of the peer. The contents of datagrams that were sent,
-- and the packets that still wait to be, are among what was taken from the parts in these acts and what waited before. What the association
-- was given was received over the DTLS connection, and all of that was given to it, in order, once it was started. What was sent over the
-- connection, or waits to be sent after it, was taken from the association or waited before. These messages were written and read, and the
-- identifiers that were read have their names if the association's readings have.
pub record PeerDid {I D S M E X T W N : Type 0} (m : Meanings I D S M E X T W N) (came : Came) (moments : List ℕ)
    (shown : List (List ℕ)) (wrote heard : List StreamMessage) (p q : PolledPeer I D S M N) : Type 0 where
  pub acts : PeerActs
  pub went : PeerMoved m p acts q
  pub given_ice : Among (ice_given acts.ice) came.ice
  pub given_dtls : Among (dtls_given acts.dtls) came.dtls
  pub given_media : Among (media_given acts.media) came.media
  pub timed_ice : Among (ice_moments acts.ice) moments
  pub timed_dtls : Among (dtls_moments acts.dtls) moments
  pub timed_media : Among (media_moments acts.media) moments
  pub role : q.core.dtls.active ≡ roles_after p.core.dtls.active (dtls_roles acts.dtls)
  pub sent : Among (shown ++ q.core.dtls.packets) (contents_taken acts ++ p.core.dtls.packets)
  pub handed : Among (given acts.association) (dtls_got acts.dtls)
  pub all_handed : m.association.started p.core.sctp.association ≡ true → given acts.association ≡ dtls_got acts.dtls
  pub relayed : Among (dtls_sent acts.dtls ++ pushed_packets q.core.sctp.pushed)
      (taken acts.association ++ pushed_packets p.core.sctp.pushed)
  pub wrote_is : writes_of acts.association ≡ map write_act wrote
  pub heard_is : reads_of acts.association ≡ map read_act heard
  pub named : NamesReadings m.association → HaveNamedPpis heard

-- the contents of the datagram that a result shows
abbrev pub contents_shown : {E : Type 0} → Result (Output E) RtcError → List (List ℕ)
contents_shown (Ok (outputs.Transmit transmit)) = transmit.contents ∷ []
contents_shown (Ok (outputs.Event event)) = []
contents_shown (Ok (outputs.Timeout moment)) = []
contents_shown (Err error) = []

-- data of streams without a channel
abbrev pub ArePassed : Channels → List SctpEvent → Type 0
ArePassed held [] = Unit {0}
ArePassed held (event.Data stream binary bytes ∷ events) = (channel_over stream held ≡ None) × ArePassed held events
ArePassed held (e ∷ events) = ⊥

-- the data that a result shows: that of the stream which its channel has
abbrev pub ShowsData : {E : Type 0} → Result (Output E) RtcError → Channels → List SctpEvent → Type 0
ShowsData (Ok (outputs.Event (ChannelData message))) held told =
    (stream : ℕ) × ((told ≡ event.Data stream message.binary message.bytes ∷ []) × (channel_over stream held ≡ Some message.id))
ShowsData (Ok output) held told = told ≡ []
ShowsData (Err error) held told = told ≡ []

-- What a poll did. Nothing was received. It wrote only messages that open channels. Of the data that it read, in order, all is of streams
-- without a channel, but for what it shows last, if it shows any. Streams and live channels continued by what it wrote and read, and
-- channels keep their order.
pub record PollActs {I D S M E X T W N : Type 0} (m : Meanings I D S M E X T W N) (p : PolledPeer I D S M N)
    (answer : Result (Output E) RtcError) (q : PolledPeer I D S M N) : Type 0 where
  pub wrote : List StreamMessage
  pub heard : List StreamMessage
  pub did : PeerDid m nothing_came (p.core.greatest ∷ []) (contents_shown answer) wrote heard p q
  pub dcep : are_dcep wrote ≡ true
  pub passed : List SctpEvent
  pub told : List SctpEvent
  pub data_is : shown_messages heard ≡ passed ++ told
  pub passed_over : ArePassed p.core.channels passed
  pub shows : ShowsData answer q.core.channels told
  pub streams : StreamsWent m p answer wrote heard q
  pub numbers : AreNumberedChannels p.core.channels → AreNumberedChannels q.core.channels

-- the message that a write took, if it did
abbrev pub message_of_write : (stream generation : ℕ) → (binary : Bool) → List ℕ → Result Bool RtcError → List StreamMessage
message_of_write stream generation binary bytes (Ok true) = stream_message stream generation (written_ppi binary (is_nil bytes)) bytes ∷ []
message_of_write stream generation binary bytes (Ok false) = []
message_of_write stream generation binary bytes (Err error) = []

-- a call that received nothing, and that showed and read nothing
abbrev pub CallActs : {I D S M E X T W N : Type 0} → Meanings I D S M E X T W N → (wrote : List StreamMessage) → PolledPeer I D S M N
    → PolledPeer I D S M N → Type 0
CallActs m wrote p q = PeerDid m nothing_came [] [] wrote [] p q

-- an input: what was received, and its moment
abbrev pub InputActs : {I D S M E X T W N : Type 0} → Meanings I D S M E X T W N → Input → PolledPeer I D S M N
    → PolledPeer I D S M N → Type 0
InputActs m input p q = PeerDid m (came_by input) (moment_given input ∷ []) [] [] [] p q

-- A description that is accepted, or refused: no packet is received, but a side that begins the handshake gives its DTLS part one of no
-- bytes.
abbrev pub begun_here : Came
begun_here = record nothing_came { dtls = [] ∷ [] }

abbrev pub NegotiationActs : {I D S M E X T W N : Type 0} → Meanings I D S M E X T W N → PolledPeer I D S M N
    → PolledPeer I D S M N → Type 0
NegotiationActs m p q = PeerDid m begun_here (p.core.greatest ∷ []) [] [] [] p q

-- the peer with another core
abbrev pub with_core : {I D S M N : Type 0} → Peer I D S M N → PolledPeer I D S M N → PolledPeer I D S M N
with_core core p = record p { core = core }

-- the peer with another agent
abbrev pub with_agent : {I D S M N : Type 0} → I → PolledPeer I D S M N → PolledPeer I D S M N
with_agent ice p = record p { core = record p.core { ice = ice } }
