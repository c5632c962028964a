-- Scripts of a gateway: a header, and then a line for each call. Every line ends with LF, the last one too.
use Rattle.std.specs.Prelude.{◌≡◌, ◌+◌, ◌-◌, ◌^◌, ◌<◌, ℕ, List, [], ◌∷◌, ◌++◌, length, take, min, codes}
use Rattle.std.specs.List.{AllZip}
use Rattle.rtc_wire_text.specs.Lines.{pieces}
use Rattle.rtc_gate_calls.specs.declared.gate_call.GateCall.{GateCall}
use Rattle.rtc_gate.specs.CallLines.{IsCallLine}
use Rattle.rtc_gate.specs.declared.script_error.ScriptError.{ScriptError}
use Rattle.rtc_gate.specs.declared.script_error.ScriptError.TheVariants.{Line, Alloc}

-- the first line
abbrev pub gate_header : List ℕ
gate_header = codes "str0m-gate 1"

-- a line for each call
abbrev pub HaveCallLines : List (List ℕ) → List GateCall → Type 0
HaveCallLines lines calls = AllZip IsCallLine lines calls

-- the pieces of a script: the header, the lines of the calls, and nothing behind the last line feed
abbrev pub AreGatePieces : List (List ℕ) → List GateCall → Type 0
AreGatePieces cut calls = (lines : List (List ℕ)) × (cut ≡ gate_header ∷ lines ++ [] ∷ []) × HaveCallLines lines calls

-- the text is the script of these calls
abbrev pub IsGateScript : List ℕ → List GateCall → Type 0
IsGateScript text calls = AreGatePieces (pieces text) calls

-- lines with which a script may begin
abbrev pub AreFirstCallLines : List (List ℕ) → List GateCall → Type 0
AreFirstCallLines [] calls = calls ≡ []
AreFirstCallLines (first ∷ lines) calls = (first ≡ gate_header) × HaveCallLines lines calls

-- so many lines end with LF, and a script may begin with them
abbrev pub BeginsGateScript : List (List ℕ) → ℕ → Type 0
BeginsGateScript cut count = (count < length cut) × ((calls : List GateCall) × AreFirstCallLines (take count cut) calls)

-- the least line that may not follow those before it
abbrev pub IsLeastRefused : List (List ℕ) → ℕ → Type 0
IsLeastRefused cut n = ((k : ℕ) → k < n → BeginsGateScript cut k) × (BeginsGateScript cut n → ⊥)

-- pieces are refused at their least refused line, exactly if they are of no script; a number past 2 ^ 32 - 1 is reported as that
abbrev pub AreRefusedPieces : List (List ℕ) → ScriptError → Type 0
AreRefusedPieces cut (Line told) =
    ((calls : List GateCall) → AreGatePieces cut calls → ⊥) × ((n : ℕ) × IsLeastRefused cut n × (told ≡ min n (2 ^ 32 - 1)))
AreRefusedPieces cut Alloc = Unit {0}

-- a text is refused
abbrev pub IsRefusedScript : List ℕ → ScriptError → Type 0
IsRefusedScript text error = AreRefusedPieces (pieces text) error

-- the lines before a place are lines of calls, and with the one there they are not
abbrev pub StopsAt : List (List ℕ) → ℕ → Type 0
StopsAt lines place =
    (place < length lines)
    × ((calls : List GateCall) × HaveCallLines (take place lines) calls)
    × ((calls : List GateCall) → HaveCallLines (take (place + 1) lines) calls → ⊥)
