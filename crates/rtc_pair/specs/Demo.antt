-- What a program that runs demos as well does, and the text that is due of it.
use Rattle.std.specs.Prelude.{◌≡◌, ◌⊎◌, ℕ, List, Option}
use Rattle.std.specs.declared.alloc.Global.{Global}
use Rattle.rtc_io.specs.Programs.{IsDue}
use Rattle.rtc_demo.specs.DemoWords.{AreDemoWords}
use Rattle.rtc_run.specs.ProgramPair.{PlainPairState}
use Rattle.rtc_pair.specs.PerformedDemo.{PerformsDemo, IsDemoText}
use Rattle.rtc_pair.specs.Answers.{script_program, run_words}
use Rattle.rtc_pair.specs.Words.{AskForNothing}

-- A demo that the words ask for was performed.
abbrev pub RunsDemo : Global → List (List ℕ) → Option (List ℕ) → Option (List ℕ) → Option PlainPairState → Type 0
RunsDemo alloc words written written' last =
    (rounds : ℕ) × (seed : ℕ) × AreDemoWords words rounds seed × PerformsDemo alloc rounds seed written written' last

-- the text that is due: the lines of the demo that the words ask for; and else that of a run, or the usage
abbrev pub IsTextDue : Global → List (List ℕ) → Option (List ℕ) → Option (List ℕ) → ℕ → ℕ → List ℕ → Type 0
IsTextDue alloc words left left' faults faults' text =
    ((rounds : ℕ) × (seed : ℕ) × AreDemoWords words rounds seed × IsDemoText alloc rounds seed text)
    ⊎ IsDue (script_program alloc) (AskForNothing words) (words ≡ run_words) left left' faults faults' text
