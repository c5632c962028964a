-- The messages in what a hub writes.
use Rattle.std.specs.Prelude.{◌==◌, ◌++◌, if◌then◌else◌, ℕ, Bool, List, [], ◌∷◌, take, drop, slice_index}
use Rattle.std.specs.Int.{w32, from_be_bytes}

-- a message of a channel, with whether it is binary
abbrev pub LineMessage : Type 0
LineMessage = Bool × List ℕ

-- the message in what a hub wrote, if it is one of this sender: it is behind the sender's number and whether it is binary
abbrev pub message_from : (sender : ℕ) → LineMessage → List LineMessage
message_from sender (binary, bytes) =
    if from_be_bytes w32 (take 4 bytes) == sender then (slice_index bytes 4 == 1, drop 5 bytes) ∷ [] else []

-- the messages of a sender among those that were got on a line
abbrev pub messages_from : (sender : ℕ) → List LineMessage → List LineMessage
messages_from sender [] = []
messages_from sender (message ∷ got) = message_from sender message ++ messages_from sender got
