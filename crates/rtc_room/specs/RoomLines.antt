-- The line of a step of a room: words parted by single spaces.
use Rattle.std.specs.Prelude.{◌≡◌, ◌<◌, ◌^◌, ℕ, List, [], ◌∷◌, codes}
use Rattle.std.specs.Fmt.{decimal}
use Rattle.rtc_wire_text.specs.Words.{words}
use Rattle.rtc_run_history.specs.declared.step.Step.{Step}
use Rattle.rtc_script.specs.Lines.{AreStepWords}
use Rattle.rtc_script.specs.Numbers.{AreLongNumbers}
use Rattle.rtc_room_laws.specs.declared.room_step.RoomStep.{RoomStep}
use Rattle.rtc_room_laws.specs.declared.room_step.RoomStep.TheVariants.{Join, Leave, Perform, Arrive, Forward}

-- one word, the number of a room
abbrev pub IsRoomWord : List (List ℕ) → ℕ → Type 0
IsRoomWord found room = (found ≡ decimal room ∷ []) × (room < 2 ^ 32)

-- the number of a member
abbrev pub IsMemberWord : List ℕ → ℕ → Type 0
IsMemberWord word member = (word ≡ decimal member) × (member < 2 ^ 32)

-- the verb of a step of a member's pair, and the words of this step
abbrev pub AreDoWords : List (List ℕ) → Step → Type 0
AreDoWords [] step = ⊥
AreDoWords (verb ∷ rest) step = (verb ≡ codes "do") × AreStepWords rest step

-- the verb of an arrival, the number of a datagram, and a moment
abbrev pub AreArrivalWords : List (List ℕ) → (packet now : ℕ) → Type 0
AreArrivalWords [] packet now = ⊥
AreArrivalWords (verb ∷ rest) packet now = (verb ≡ codes "arrive") × AreLongNumbers rest (packet ∷ now ∷ [])

-- the word that leads a line, and those behind it: a step of a member is led by its number
abbrev pub AreWordsOf : List ℕ → List (List ℕ) → RoomStep → Type 0
AreWordsOf first rest (Join room) = (first ≡ codes "join") × IsRoomWord rest room
AreWordsOf first rest (Leave member) = IsMemberWord first member × (rest ≡ codes "leave" ∷ [])
AreWordsOf first rest (Perform member step) = IsMemberWord first member × AreDoWords rest step
AreWordsOf first rest (Arrive member packet now) = IsMemberWord first member × AreArrivalWords rest packet now
AreWordsOf first rest (Forward member) = IsMemberWord first member × (rest ≡ codes "forward" ∷ [])

abbrev pub AreRoomWords : List (List ℕ) → RoomStep → Type 0
AreRoomWords [] step = ⊥
AreRoomWords (first ∷ rest) step = AreWordsOf first rest step

-- the line of a step
abbrev pub IsRoomLine : List ℕ → RoomStep → Type 0
IsRoomLine line step = AreRoomWords (words line) step
