-- The line of a call: words parted by single spaces.
use Rattle.std.specs.Prelude.{◌≡◌, ◌≢◌, ◌<◌, ◌^◌, ℕ, List, [], ◌∷◌, Some, codes}
use Rattle.std.specs.Fmt.{decimal}
use Rattle.rtc_wire_text.specs.Words.{words}
use Rattle.rtc_gate_calls.specs.Signal.{utf8_text_in}
use Rattle.rtc_gate_calls.specs.declared.gate_call.GateCall.{GateCall}
use Rattle.rtc_gate_calls.specs.declared.gate_call.GateCall.TheVariants.{Join, Leave, Feed, Take}
use Rattle.rtc_gate.specs.HexWords.{bytes_in_word}

-- one word in UTF-8, which is not empty
abbrev pub IsNameWord : List (List ℕ) → List ℕ → Type 0
IsNameWord found name = (found ≡ name ∷ []) × (utf8_text_in name ≡ Some name) × (name ≢ [])

-- one word, the decimal of a number below 2^32 without leading zeros
abbrev pub IsNumberWord : List (List ℕ) → ℕ → Type 0
IsNumberWord found number = (found ≡ decimal number ∷ []) × (number < 2 ^ 32)

-- one word, the hex digits of bytes
abbrev pub IsHexWord : List (List ℕ) → List ℕ → Type 0
IsHexWord [] bytes = ⊥
IsHexWord (word ∷ []) bytes = bytes_in_word word ≡ Some bytes
IsHexWord (word ∷ more ∷ rest) bytes = ⊥

-- such a number, and then such digits
abbrev pub ArePieceWords : List (List ℕ) → ℕ → List ℕ → Type 0
ArePieceWords [] number bytes = ⊥
ArePieceWords (first ∷ rest) number bytes = (first ≡ decimal number) × (number < 2 ^ 32) × IsHexWord rest bytes

-- a verb, and the words behind it
abbrev pub AreCallWords : List ℕ → List (List ℕ) → GateCall → Type 0
AreCallWords verb rest (Join name) = (verb ≡ codes "join") × IsNameWord rest name
AreCallWords verb rest (Leave number) = (verb ≡ codes "leave") × IsNumberWord rest number
AreCallWords verb rest (Feed number piece) = (verb ≡ codes "feed") × ArePieceWords rest number piece
AreCallWords verb rest (Take number) = (verb ≡ codes "take") × IsNumberWord rest number

abbrev pub AreLineWords : List (List ℕ) → GateCall → Type 0
AreLineWords [] call = ⊥
AreLineWords (verb ∷ rest) call = AreCallWords verb rest call

-- the line of a call
abbrev pub IsCallLine : List ℕ → GateCall → Type 0
IsCallLine line call = AreLineWords (words line) call
