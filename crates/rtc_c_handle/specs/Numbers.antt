-- What numbers of C stand for.
use Rattle.std.specs.Prelude.{ℕ, ◌==◌, if◌then◌else◌, Option, Some, None}
use Rattle.rtc_wire.specs.declared.reliability.Reliability.{Reliability}
use Rattle.rtc_wire.specs.declared.reliability.Reliability.TheVariants.{Reliable, MaxPacketLifetime, MaxRetransmits}
use Rattle.rtc_sdp_values.specs.declared.direction.Direction.{Direction}
use Rattle.rtc_sdp_values.specs.declared.direction.Direction.TheVariants.{SendRecv, SendOnly, RecvOnly, Inactive}
use Rattle.rtc_sdp_values.specs.declared.media_kind.MediaKind.{MediaKind}
use Rattle.rtc_sdp_values.specs.declared.media_kind.MediaKind.TheVariants.{Audio, Video}
use Rattle.rtc_parts.specs.declared.ice_connection_state.IceConnectionState.{IceConnectionState}
use Rattle.rtc_parts.specs.declared.ice_connection_state.IceConnectionState.TheVariants.{
  New,
  Checking,
  Connected,
  Completed,
  Disconnected,
}

abbrev pub kind_of_number : ℕ → Option MediaKind
kind_of_number n = if n == 0 then Some Audio else if n == 1 then Some Video else None

abbrev pub kind_number : MediaKind → ℕ
kind_number Audio = 0
kind_number Video = 1

abbrev pub direction_of_number : ℕ → Option Direction
direction_of_number n =
    if n == 0 then Some SendRecv else if n == 1 then Some SendOnly else if n == 2 then Some RecvOnly else if n == 3 then Some Inactive
    else None

abbrev pub direction_number : Direction → ℕ
direction_number SendRecv = 0
direction_number SendOnly = 1
direction_number RecvOnly = 2
direction_number Inactive = 3

-- 0 resends until a message arrives, 1 for so many milliseconds, 2 so many times
abbrev pub reliability_of_number : ℕ → (limit : ℕ) → Option Reliability
reliability_of_number n limit =
    if n == 0 then Some Reliable
    else if n == 1 then Some (MaxPacketLifetime limit)
    else if n == 2 then Some (MaxRetransmits limit)
    else None

abbrev pub state_number : IceConnectionState → ℕ
state_number New = 0
state_number Checking = 1
state_number Connected = 2
state_number Completed = 3
state_number Disconnected = 4
