-- Outputs of a poll as C has them.
use Rattle.std.specs.Prelude.{ℕ, List, [], false, length}
use Rattle.rtc_plain_media.specs.declared.plain_media_event.PlainMediaEvent.{PlainMediaEvent}
use Rattle.rtc_plain_media.specs.declared.plain_media_event.PlainMediaEvent.TheVariants as media
use Rattle.rtc_peer_transport.specs.declared.event.Event.{Event as PeerEvent}
use Rattle.rtc_peer_transport.specs.declared.event.Event.TheVariants as events
use Rattle.rtc_peer_transport.specs.declared.output.Output.{Output}
use Rattle.rtc_peer_transport.specs.declared.output.Output.TheVariants.{Timeout, Transmit, Event}
use Rattle.rtc_plain_ice.specs.Places.{protocol_number}
use Rattle.rtc_c_handle.specs.Numbers.{kind_number, direction_number, state_number}
use Rattle.rtc_c_handle.specs.Settings.{address_of}
use Rattle.rtc_c_handle.specs.declared.address.Address.{Address}
use Rattle.rtc_c_handle.specs.declared.output_bytes.OutputBytes.{OutputBytes}
use Rattle.rtc_c_handle.specs.declared.output_bytes.OutputBytes.TheVariants as kept
use Rattle.rtc_c_handle.specs.declared.output_row.OutputRow.{OutputRow}

-- what is kept of an event of the media part: the mid of its line
abbrev pub kept_of_media : PlainMediaEvent → OutputBytes
kept_of_media (media.Added mid kind dir) = kept.Mid mid
kept_of_media (media.Changed mid dir) = kept.Mid mid
kept_of_media (media.Rtp size) = kept.Nothing
kept_of_media (media.Rtcp size) = kept.Nothing
kept_of_media (media.Raw packet) = kept.Nothing

-- what is kept of an event: a label, a message, or the mid of a line
abbrev pub kept_of_event : PeerEvent PlainMediaEvent → OutputBytes
kept_of_event events.Connected = kept.Nothing
kept_of_event (events.IceConnectionStateChange state) = kept.Nothing
kept_of_event (events.ChannelOpen id label) = kept.Label label
kept_of_event (events.ChannelData message) = kept.Message message.bytes
kept_of_event (events.ChannelClose id) = kept.Nothing
kept_of_event (events.ChannelBufferedAmountLow id) = kept.Nothing
kept_of_event (events.PeerStats stats) = kept.Nothing
kept_of_event (events.MediaIngressStats stats) = kept.Nothing
kept_of_event (events.MediaEgressStats stats) = kept.Nothing
kept_of_event (events.Media event) = kept_of_media event
kept_of_event events.Closed = kept.Nothing

-- what is kept of an output: the bytes that come with it
abbrev pub kept_of_output : Output PlainMediaEvent → OutputBytes
kept_of_output (Timeout moment) = kept.Nothing
kept_of_output (Transmit datagram) = kept.Datagram datagram.contents
kept_of_output (Event event) = kept_of_event event

-- the bytes that are kept
abbrev pub bytes_kept : OutputBytes → List ℕ
bytes_kept kept.Nothing = []
bytes_kept (kept.Datagram bytes) = bytes
bytes_kept (kept.Message bytes) = bytes
bytes_kept (kept.Label text) = text
bytes_kept (kept.Mid mid) = mid

abbrev nowhere : Address
nowhere = record { a = 0; b = 0; c = 0; d = 0; port = 0 }

-- a row of a kind, whose other numbers are 0
abbrev pub blank_output : ℕ → OutputRow
blank_output kind = record {
  kind = kind;
  state = 0;
  moment = 0;
  channel = 0;
  size = 0;
  source = nowhere;
  destination = nowhere;
  protocol = 0;
  media = 0;
  direction = 0;
  binary = false;
}

abbrev pub row_of_media : PlainMediaEvent → OutputRow
row_of_media (media.Added mid kind dir) = record (blank_output 12) {
  size = length mid;
  media = kind_number kind;
  direction = direction_number dir;
}
row_of_media (media.Changed mid dir) = record (blank_output 13) { size = length mid; direction = direction_number dir }
row_of_media (media.Rtp size) = record (blank_output 14) { size = size }
row_of_media (media.Rtcp size) = record (blank_output 15) { size = size }
row_of_media (media.Raw packet) = blank_output 16

abbrev pub row_of_event : PeerEvent PlainMediaEvent → OutputRow
row_of_event events.Connected = blank_output 3
row_of_event (events.IceConnectionStateChange state) = record (blank_output 4) { state = state_number state }
row_of_event (events.ChannelOpen id label) = record (blank_output 5) { channel = id; size = length label }
row_of_event (events.ChannelData message) = record (blank_output 6) {
  channel = message.id;
  size = length message.bytes;
  binary = message.binary;
}
row_of_event (events.ChannelClose id) = record (blank_output 7) { channel = id }
row_of_event (events.ChannelBufferedAmountLow id) = record (blank_output 8) { channel = id }
row_of_event (events.PeerStats stats) = blank_output 9
row_of_event (events.MediaIngressStats stats) = blank_output 10
row_of_event (events.MediaEgressStats stats) = blank_output 11
row_of_event (events.Media event) = row_of_media event
row_of_event events.Closed = blank_output 17

-- the row of an output
abbrev pub row_of_output : Output PlainMediaEvent → OutputRow
row_of_output (Timeout moment) = record (blank_output 1) { moment = moment }
row_of_output (Transmit datagram) = record (blank_output 2) {
  size = length datagram.contents;
  source = address_of datagram.source;
  destination = address_of datagram.destination;
  protocol = protocol_number datagram.proto;
}
row_of_output (Event event) = row_of_event event
