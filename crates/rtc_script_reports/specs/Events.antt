-- The words of events.
use Rattle.std.specs.Prelude.{ℕ, List, ◌++◌, length, codes}
use Rattle.std.specs.Fmt.{decimal}
use Rattle.rtc_parts.specs.declared.ice_connection_state.IceConnectionState.{IceConnectionState}
use Rattle.rtc_parts.specs.declared.ice_connection_state.IceConnectionState.TheVariants.{New, Checking, Connected, Completed}
use Rattle.rtc_parts.specs.declared.ice_connection_state.IceConnectionState.TheVariants.{Disconnected}
use Rattle.rtc_parts.specs.declared.raw_packet.RawPacket.{RawPacket}
use Rattle.rtc_parts.specs.declared.raw_packet.RawPacket.TheVariants.{RtcpTx, RtcpRx, RtpTx, RtpRx}
use Rattle.rtc_plain_media.specs.declared.plain_media_event.PlainMediaEvent.{PlainMediaEvent}
use Rattle.rtc_plain_media.specs.declared.plain_media_event.PlainMediaEvent.TheVariants.{Added, Changed, Rtp, Rtcp, Raw}
use Rattle.rtc_peer_transport.specs.declared.event.Event.{Event}
use Rattle.rtc_peer_transport.specs.declared.event.Event.TheVariants as events
use Rattle.rtc_script.specs.Words.{direction_text, hex_word, kind_text, message_kind_text}

-- a state of the connection that ICE makes
abbrev pub state_text : IceConnectionState → List ℕ
state_text New = codes "new"
state_text Checking = codes "checking"
state_text Connected = codes "connected"
state_text Completed = codes "completed"
state_text Disconnected = codes "disconnected"

-- a packet, by its way and its length
abbrev pub raw_packet_text : RawPacket → List ℕ
raw_packet_text (RtcpTx bytes) = codes "rtcptx " ++ decimal (length bytes)
raw_packet_text (RtcpRx bytes) = codes "rtcprx " ++ decimal (length bytes)
raw_packet_text (RtpTx bytes) = codes "rtptx " ++ decimal (length bytes)
raw_packet_text (RtpRx bytes) = codes "rtprx " ++ decimal (length bytes)

abbrev pub media_event_text : PlainMediaEvent → List ℕ
media_event_text (Added mid kind dir) = codes "added " ++ mid ++ codes " " ++ kind_text kind ++ codes " " ++ direction_text dir
media_event_text (Changed mid dir) = codes "changed " ++ mid ++ codes " " ++ direction_text dir
media_event_text (Rtp len) = codes "rtp " ++ decimal len
media_event_text (Rtcp len) = codes "rtcp " ++ decimal len
media_event_text (Raw packet) = codes "raw " ++ raw_packet_text packet

-- the bytes that were counted of a line
abbrev pub line_bytes_text : List ℕ → ℕ → List ℕ
line_bytes_text mid bytes = mid ++ codes " " ++ decimal bytes

abbrev pub event_text : Event PlainMediaEvent → List ℕ
event_text events.Connected = codes "connected"
event_text (events.IceConnectionStateChange state) = codes "ice " ++ state_text state
event_text (events.ChannelOpen id label) = codes "open " ++ decimal id ++ codes " " ++ hex_word label
event_text (events.ChannelData message) =
    codes "data " ++ decimal message.id ++ codes " " ++ message_kind_text message.binary ++ codes " " ++ hex_word message.bytes
event_text (events.ChannelClose id) = codes "close " ++ decimal id
event_text (events.ChannelBufferedAmountLow id) = codes "low " ++ decimal id
event_text (events.PeerStats stats) = codes "stats " ++ decimal stats.peer_bytes_rx ++ codes " " ++ decimal stats.peer_bytes_tx
event_text (events.MediaIngressStats stats) = codes "ingress " ++ line_bytes_text stats.mid stats.bytes
event_text (events.MediaEgressStats stats) = codes "egress " ++ line_bytes_text stats.mid stats.bytes
event_text (events.Media event) = codes "media " ++ media_event_text event
event_text events.Closed = codes "closed"
