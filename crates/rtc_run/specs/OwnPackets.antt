-- The datagrams that a side of a pair sent, by their numbers.
use Rattle.std.specs.Prelude.{ℕ, if◌then◌else◌, List, Option, Some, None, slice_get}
use Rattle.rtc_wire.specs.declared.transmit.Transmit.{Transmit}
use Rattle.rtc_run_history.specs.declared.sent_packet.SentPacket.{SentPacket}
use Rattle.rtc_run_history.specs.declared.side.Side.{Side}
use Rattle.rtc_run_history.specs.Sides.{same_side}

-- a datagram, if this side sent it
abbrev pub packet_of : Side → Option SentPacket → Option Transmit
packet_of at None = None
packet_of at (Some sent) = if same_side sent.at at then Some sent.transmit else None

-- the datagram of a number, if this side sent it
abbrev pub own_packet : List SentPacket → Side → ℕ → Option Transmit
own_packet packets at k = packet_of at (slice_get packets k)
