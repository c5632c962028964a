-- The packets that events show.
use Rattle.std.specs.Prelude.{Option, None}
use Rattle.rtc_parts.specs.declared.raw_packet.RawPacket.{RawPacket}
use Rattle.rtc_peer_transport.specs.declared.event.Event.{Event}
use Rattle.rtc_peer_transport.specs.declared.event.Event.TheVariants.{Media}

-- the packet that a media event shows
abbrev pub raw_packet_of : {E : Type 0} → (E → Option RawPacket) → Event E → Option RawPacket
raw_packet_of packet_of (Media event) = packet_of event
raw_packet_of packet_of _ = None
