-- Events of the plain media part.
use Rattle.std.specs.Prelude.{List, [], ◌∷◌, Option, Some, None}
use Rattle.rtc_parts.specs.declared.raw_packet.RawPacket.{RawPacket}
use Rattle.rtc_plain_media.specs.declared.plain_media_event.PlainMediaEvent.{PlainMediaEvent}
use Rattle.rtc_plain_media.specs.declared.plain_media_event.PlainMediaEvent.TheVariants.{Added, Changed, Rtp, Rtcp, Raw}

-- the packet that an event shows
abbrev pub packet_shown : PlainMediaEvent → Option RawPacket
packet_shown (Raw packet) = Some packet
packet_shown (Added mid kind dir) = None
packet_shown (Changed mid dir) = None
packet_shown (Rtp len) = None
packet_shown (Rtcp len) = None

-- the event that shows a packet, if one is reported
abbrev pub raw_event : Option RawPacket → List PlainMediaEvent
raw_event None = []
raw_event (Some packet) = Raw packet ∷ []
