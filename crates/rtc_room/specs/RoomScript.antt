-- Scripts of a room: a header, and then a line for each step. Every line ends with LF, the last one too.
use Rattle.std.specs.Prelude.{◌≡◌, ◌+◌, ◌-◌, ◌^◌, ◌<◌, ℕ, List, [], ◌∷◌, ◌++◌, length, take, min, codes}
use Rattle.std.specs.List.{AllZip}
use Rattle.rtc_wire_text.specs.Lines.{pieces}
use Rattle.rtc_room_laws.specs.declared.room_step.RoomStep.{RoomStep}
use Rattle.rtc_room.specs.RoomLines.{IsRoomLine}
use Rattle.rtc_room.specs.declared.room_script_error.RoomScriptError.{RoomScriptError}
use Rattle.rtc_room.specs.declared.room_script_error.RoomScriptError.TheVariants.{Line, Alloc}

-- the first line
abbrev pub room_header : List ℕ
room_header = codes "str0m-room 1"

-- a line for each step
abbrev pub HaveRoomLines : List (List ℕ) → List RoomStep → Type 0
HaveRoomLines lines steps = AllZip IsRoomLine lines steps

-- the pieces of a script: the header, the lines of the steps, and nothing behind the last line feed
abbrev pub AreRoomPieces : List (List ℕ) → List RoomStep → Type 0
AreRoomPieces cut steps = (lines : List (List ℕ)) × (cut ≡ room_header ∷ lines ++ [] ∷ []) × HaveRoomLines lines steps

-- the text is the script of these steps
abbrev pub IsRoomScript : List ℕ → List RoomStep → Type 0
IsRoomScript text steps = AreRoomPieces (pieces text) steps

-- lines with which a script may begin
abbrev pub AreFirstRoomLines : List (List ℕ) → List RoomStep → Type 0
AreFirstRoomLines [] steps = steps ≡ []
AreFirstRoomLines (first ∷ lines) steps = (first ≡ room_header) × HaveRoomLines lines steps

-- so many lines end with LF, and a script may begin with them
abbrev pub BeginsRoomScript : List (List ℕ) → ℕ → Type 0
BeginsRoomScript cut count = (count < length cut) × ((steps : List RoomStep) × AreFirstRoomLines (take count cut) steps)

-- the least line that may not follow those before it
abbrev pub IsLeastRefusedRoomLine : List (List ℕ) → ℕ → Type 0
IsLeastRefusedRoomLine cut n = ((k : ℕ) → k < n → BeginsRoomScript cut k) × (BeginsRoomScript cut n → ⊥)

-- pieces are refused at their least refused line, exactly if they are of no script; a number past 2 ^ 32 - 1 is reported as that
abbrev pub AreRefusedRoomPieces : List (List ℕ) → RoomScriptError → Type 0
AreRefusedRoomPieces cut (Line told) =
    ((steps : List RoomStep) → AreRoomPieces cut steps → ⊥) × ((n : ℕ) × IsLeastRefusedRoomLine cut n × (told ≡ min n (2 ^ 32 - 1)))
AreRefusedRoomPieces cut Alloc = Unit {0}

-- a text is refused
abbrev pub IsRefusedRoomScript : List ℕ → RoomScriptError → Type 0
IsRefusedRoomScript text error = AreRefusedRoomPieces (pieces text) error

-- the lines before a place are lines of steps, and with the one there they are not
abbrev pub StopsAtRoomLine : List (List ℕ) → ℕ → Type 0
StopsAtRoomLine lines place =
    (place < length lines)
    × ((steps : List RoomStep) × HaveRoomLines (take place lines) steps)
    × ((steps : List RoomStep) → HaveRoomLines (take (place + 1) lines) steps → ⊥)
