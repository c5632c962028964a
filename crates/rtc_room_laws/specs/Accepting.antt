-- Which member a datagram is for, if the left peers of all members have one address.
use Rattle.std.specs.Prelude.{◌≡◌, ◌+◌, ◌&&◌, not, if◌then◌else◌, ℕ, Bool, List, [], ◌∷◌, Option, Some, None, Result, Ok, Err}
use Rattle.rtc_wire.specs.DatagramRecv.{kind_by}
use Rattle.rtc_wire.specs.declared.multiplex_kind.MultiplexKind.{MultiplexKind}
use Rattle.rtc_wire.specs.declared.net_error.NetError.{NetError}
use Rattle.rtc_wire.specs.declared.receive.Receive.{Receive}
use Rattle.rtc_wire.specs.declared.transmit.Transmit.{Transmit}
use Rattle.rtc_plain_ice.specs.Messages.{is_ice_message}
use Rattle.rtc_peer_transport.specs.declared.input.Input.{Input}
use Rattle.rtc_peer_transport.specs.declared.input.Input.TheVariants as given
use Rattle.rtc_peer_transport.specs.Readings.{is_accepted}
use Rattle.rtc_run_history.specs.Performs.{ComesIn}
use Rattle.rtc_run.specs.ProgramPair.{PlainPairState, plain_parts}
use Rattle.rtc_room_laws.specs.Members.{MemberState}

-- whether an input is for a member: it has not left, and its left peer accepts it
abbrev pub accepts : Input → MemberState → PlainPairState → Bool
accepts input member pair = not member.has_left && is_accepted plain_parts pair.left input

-- the first member, from a number on, that an input is for
abbrev pub first_accepting : ℕ → Input → List MemberState → List PlainPairState → Option ℕ
first_accepting n input [] pairs = None
first_accepting n input (member ∷ members) [] = None
first_accepting n input (member ∷ members) (pair ∷ pairs) =
    if accepts input member pair then Some n else first_accepting (n + 1) input members pairs

-- a datagram that cannot be read is for nobody
abbrev pub IsAddresseeRead : Result MultiplexKind NetError → Transmit → ℕ → List MemberState → List PlainPairState → Option ℕ → Type 0
IsAddresseeRead (Err why) transmit now members pairs found = found ≡ None
IsAddresseeRead (Ok kind) transmit now members pairs found =
    (datagram : Receive) × ComesIn transmit kind datagram × (found ≡ first_accepting 0 (given.Receive now datagram) members pairs)

-- the member that a datagram is for, if it was sent
abbrev pub IsAddressee : Option Transmit → ℕ → List MemberState → List PlainPairState → Option ℕ → Type 0
IsAddressee None now members pairs found = found ≡ None
IsAddressee (Some transmit) now members pairs found =
    IsAddresseeRead (kind_by is_ice_message transmit.contents) transmit now members pairs found
