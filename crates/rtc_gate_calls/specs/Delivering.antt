-- Frames on their way to connections.
use Rattle.std.specs.Prelude.{◌≡◌, ℕ, ◌+◌, ◌==◌, ◌<◌, ◌^◌, List, [], ◌∷◌, ◌++◌, map, length, slice_get, IsSomeAnd, if◌then◌else◌}
use Rattle.rtc_gate_calls.specs.GateState.{ConnectionState}
use Rattle.std.specs.BTreeMap.{BTreeMap}
use Rattle.std.specs.Prelude.{Bool, drop, take, ◌≤◌}
use Rattle.rtc_gate_calls.specs.SignalStream.{signals_in, tail_of, is_malformed}
use Rattle.rtc_gate_calls.specs.GateState.{roster_of}
use Rattle.rtc_gate_calls.specs.Gate.{AreNumbered, IsIndex}
use Rattle.rtc_gate_calls.specs.Routing.{Letter, letter_of}
use Rattle.rtc_gate_calls.specs.declared.delivering.Delivery.{Delivery}
use Rattle.rtc_gate_calls.specs.declared.posting.Sender.{Sender}
use Rattle.rtc_gate_calls.specs.declared.sorting.Sorted.{Sorted}

-- whom a delivery is for, and its frames
abbrev pub parcel_of : Delivery → ℕ × List (List ℕ)
parcel_of delivery = (delivery.to, delivery.frames)

abbrev pub parcel_with : Letter → ℕ × List (List ℕ)
parcel_with letter = (letter.to, letter.frame ∷ [])

-- the frames of parcels for one connection
abbrev pub frames_for : ℕ → List (ℕ × List (List ℕ)) → List (List ℕ)
frames_for number [] = []
frames_for number (parcel ∷ parcels) = if parcel.0 == number then parcel.1 ++ frames_for number parcels else frames_for number parcels

abbrev pub after_parcels : List (ℕ × List (List ℕ)) → ConnectionState → ConnectionState
after_parcels parcels connection = record {
  number = connection.number;
  name = connection.name;
  incoming = connection.incoming;
  queue = connection.queue ++ frames_for connection.number parcels;
}

-- A delivery of one frame knows the place of its connection, whose queue has room for so many more.
pub record IsPlaced (connections : List ConnectionState) (more : ℕ) (delivery : Delivery) : Type 0 where
  pub one : length delivery.frames ≡ 1
  pub there : IsSomeAnd (slice_get connections delivery.place) (λ connection. (connection.number ≡ delivery.to)
      × (length connection.queue + more < 2 ^ 63))

abbrev pub EachPlaced : List ConnectionState → ℕ → List Delivery → Type 0
EachPlaced connections more [] = Unit {0}
EachPlaced connections more (delivery ∷ deliveries) = IsPlaced connections more delivery × EachPlaced connections more deliveries

pub record ArePlaced (connections : List ConnectionState) (deliveries : List Delivery) : Type 0 where
  pub numbered : AreNumbered 0 connections (2 ^ 32)
  pub each : EachPlaced connections (length deliveries) deliveries

-- The frames of a sender can be sent on: the numbers rise, the map finds each name, and the sender is at its place.
pub record CanRoute (connections : List ConnectionState) (names : BTreeMap (List ℕ) ℕ) (sender : Sender) : Type 0 where
  pub numbered : AreNumbered 0 connections (2 ^ 32)
  pub index : IsIndex names (roster_of connections)
  pub there : IsSomeAnd (slice_get connections sender.place) (λ connection. connection.number ≡ sender.number)

-- The bytes of a sender are split: what is sent, what follows the whole frames, and whether that may be received.
pub record Sorts (connections : List ConnectionState) (sender : Sender) (bytes : List ℕ) (sorted : Sorted) : Type 0 where
  pub parcels : map parcel_of sorted.deliveries.items
      ≡ map parcel_with (map (letter_of (roster_of connections) sender.number sender.name) (signals_in bytes))
  pub each : EachPlaced connections (2 ^ 62) sorted.deliveries.items
  pub few : length sorted.deliveries.items < 2 ^ 32
  pub within : sorted.size ≤ length bytes
  pub left : drop sorted.size bytes ≡ tail_of bytes
  pub stuck : sorted.stuck ≡ is_malformed bytes

-- The sender at its place has this name, and its stream with the piece is shorter than 2^64.
abbrev pub HasRoom : List ConnectionState → Sender → List ℕ → Type 0
HasRoom connections sender piece =
    IsSomeAnd (slice_get connections sender.place) (λ connection. (connection.name ≡ sender.name)
    × (connection.incoming.done + length connection.incoming.kept + length piece < 2 ^ 64))

-- The connection with a number is at a place.
pub record IsAt (connections : List ConnectionState) (place number : ℕ) : Type 0 where
  pub numbered : AreNumbered 0 connections (2 ^ 32)
  pub there : IsSomeAnd (slice_get connections place) (λ connection. connection.number ≡ number)

-- a change of the connection with a number
abbrev pub connection_changed_at : ℕ → (ConnectionState → ConnectionState) → ConnectionState → ConnectionState
connection_changed_at number f connection = if number == connection.number then f connection else connection

-- what is kept of a stream, with a piece behind it, and cut again
abbrev pub with_piece : List ℕ → ConnectionState → ConnectionState
with_piece piece connection = record connection { incoming = record connection.incoming { kept = connection.incoming.kept ++ piece } }

abbrev pub cut_to : ℕ → ConnectionState → ConnectionState
cut_to count connection = record connection { incoming = record connection.incoming { kept = take count connection.incoming.kept } }

-- the stream without so many bytes at the front of what is kept, and without the rest if it is stuck
abbrev pub advanced : ℕ → Bool → ConnectionState → ConnectionState
advanced size stuck connection = record connection {
  incoming =
      record { done = connection.incoming.done + size; kept = if stuck then [] else drop size connection.incoming.kept; stuck = stuck };
}
