-- Scripts: a header, a line for each setting, and then a line for each step. Every line ends with LF, the last one too.
use Rattle.std.specs.Prelude.{◌≡◌, ◌-◌, ◌^◌, ◌<◌, ℕ, List, [], ◌∷◌, ◌++◌, length, take, min, codes}
use Rattle.std.specs.List.{AllZip}
use Rattle.rtc_wire_text.specs.Lines.{pieces}
use Rattle.rtc_script.specs.Lines.{IsLine, IsSetting}
use Rattle.rtc_script.specs.declared.script.Script.{Script}
use Rattle.rtc_script.specs.declared.setting.Setting.{Setting}
use Rattle.rtc_run_history.specs.declared.side.Side.{Side}
use Rattle.rtc_script.specs.declared.script_error.ScriptError.{ScriptError}
use Rattle.rtc_script.specs.declared.script_error.ScriptError.TheVariants.{Line, Alloc}
use Rattle.rtc_run_history.specs.declared.step.Step.{Step}

-- the first line
abbrev pub header : List ℕ
header = codes "str0m-pair 1"

-- a line for each step
abbrev pub HaveSteps : List (List ℕ) → List Step → Type 0
HaveSteps lines steps = AllZip IsLine lines steps

-- a line for each setting, and then one for each step
abbrev pub HaveBoth : List (List ℕ) → List (Side × Setting) → List Step → Type 0
HaveBoth lines [] steps = HaveSteps lines steps
HaveBoth [] (setting ∷ settings) steps = ⊥
HaveBoth (line ∷ lines) (setting ∷ settings) steps = IsSetting line setting × HaveBoth lines settings steps

abbrev pub HaveLines : List (List ℕ) → Script → Type 0
HaveLines lines script = HaveBoth lines script.settings script.steps

-- the pieces of a script: the header, the lines of its settings and steps, and nothing behind the last line feed
abbrev pub ArePieces : List (List ℕ) → Script → Type 0
ArePieces cut script = (lines : List (List ℕ)) × (cut ≡ header ∷ lines ++ [] ∷ []) × HaveLines lines script

-- the text is this script
abbrev pub IsScript : List ℕ → Script → Type 0
IsScript text script = ArePieces (pieces text) script

abbrev pub empty_script : Script
empty_script = record { settings = []; steps = [] }

-- lines with which a script may begin
abbrev pub AreFirstLines : List (List ℕ) → Script → Type 0
AreFirstLines [] script = script ≡ empty_script
AreFirstLines (first ∷ lines) script = (first ≡ header) × HaveLines lines script

-- so many lines end with LF, and a script may begin with them
abbrev pub BeginsScript : List (List ℕ) → ℕ → Type 0
BeginsScript cut count = (count < length cut) × ((script : Script) × AreFirstLines (take count cut) script)

-- the least line that may not follow those before it
abbrev pub IsRefusedLine : List (List ℕ) → ℕ → Type 0
IsRefusedLine cut n = ((k : ℕ) → k < n → BeginsScript cut k) × (BeginsScript cut n → ⊥)

-- pieces are refused at their least refused line, exactly if they are of no script; a number past 2 ^ 32 - 1 is reported as that
abbrev pub AreRefused : List (List ℕ) → ScriptError → Type 0
AreRefused cut (Line told) = ((script : Script) → ArePieces cut script → ⊥) × ((n : ℕ) × IsRefusedLine cut n × (told ≡ min n (2 ^ 32 - 1)))
AreRefused cut Alloc = Unit {0}

-- a text is refused
abbrev pub IsRefused : List ℕ → ScriptError → Type 0
IsRefused text error = AreRefused (pieces text) error
