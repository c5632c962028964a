-- What the program does and returns.
use Rattle.std.specs.Prelude.{◌≡◌, ◌≤◌, ◌^◌, ◌⊎◌, ℕ, Bool, List, [], ◌∷◌, length, codes, Option, Some, None}
use Rattle.std.specs.declared.alloc.Global.{Global}
use Rattle.std.specs.Io.KnownBytes.{Appends}
use Rattle.rtc_io.specs.Faults.{Rose}
use Rattle.rtc_io.specs.Programs.{Program, ReadsInput, IsTooLong, IsDue, fault_line, long_line}
use Rattle.rtc_run.specs.ProgramPair.{PlainPairState}
use Rattle.rtc_script.specs.Script.{IsScript, IsRefused}
use Rattle.rtc_script.specs.declared.script_error.ScriptError.TheVariants.{Line}
use Rattle.rtc_script.specs.declared.script.Script.{Script}
use Rattle.rtc_pair.specs.Performed.{IsReport, PerformsScript}

-- the words of a run
abbrev pub run_words : List (List ℕ)
run_words = codes "run" ∷ []

-- the texts of the program: it reads scripts, and prints for each the report of its run
abbrev pub script_program : Global → Program Script
script_program alloc = record {
  usage = codes "usage: rtc_pair run | rtc_pair demo N S\n";
  subject = codes "script";
  IsRead = IsScript;
  IsRefusedAt = λ bytes line. IsRefused bytes (Line line);
  IsAnswer = IsReport alloc;
}

-- The source failed, and the line of its fault was written.
abbrev pub TellsFault : ℕ → ℕ → Option (List ℕ) → Option (List ℕ) → Type 0
TellsFault faults faults' written written' = Rose faults faults' × Appends written written' fault_line

-- More bytes were left than a program reads, and the line of their length was written.
abbrev pub TellsLength : Global → Option (List ℕ) → Option (List ℕ) → Option (List ℕ) → Type 0
TellsLength alloc left written written' = IsTooLong left × Appends written written' (long_line (script_program alloc).subject)

-- A script was read to the end of the input, and performed.
pub record RunsScript (alloc : Global) (lacking : Bool) (left left' written written' : Option (List ℕ))
    (last : Option PlainPairState) : Type 0 where
  pub script : Script
  pub read : ReadsInput left left' (λ bytes. IsScript bytes script)
  pub performs : PerformsScript alloc lacking script written written' last

-- what is left of the input is known to be a script that is not too long
abbrev pub TellsScript : Option (List ℕ) → Type 0
TellsScript None = ⊥
TellsScript (Some bytes) = (length bytes ≤ 2 ^ 20) × ((script : Script) × IsScript bytes script)

-- A script is performed, unless memory runs out, if neither the source nor the sink fails.
abbrev pub CompletesRun : Option (List ℕ) → (faults faults' taken taken' status : ℕ) → Type 0
CompletesRun left faults faults' taken taken' status =
    TellsScript left → (Rose faults faults' → ⊥) → (Rose taken taken' → ⊥) → (status ≡ 0) ⊎ (status ≡ 6)

-- the text that is due of a run
abbrev pub IsDueOfRun : Global → Option (List ℕ) → Option (List ℕ) → ℕ → ℕ → List ℕ → Type 0
IsDueOfRun alloc left left' faults faults' text = IsDue (script_program alloc) ⊥ (Unit {0}) left left' faults faults' text
