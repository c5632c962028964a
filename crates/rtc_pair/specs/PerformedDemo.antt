-- What a demo does and reports.
use Rattle.std.specs.Prelude.{◌≡◌, ℕ, true, false, List, [], Option, Some}
use Rattle.std.specs.declared.alloc.Global.{Global}
use Rattle.std.specs.Io.KnownBytes.{Appends}
use Rattle.rtc_demo.specs.DemoCounts.{count_finished, counts_in, counts_text}
use Rattle.rtc_demo.specs.DemoSteps.{demo_steps}
use Rattle.rtc_run_history.specs.Native.{are_native}
use Rattle.rtc_run_history.specs.Orderly.{are_orderly}
use Rattle.rtc_run_history.specs.declared.reply.Reply.{Reply}
use Rattle.rtc_run_history.specs.declared.step.Step.{Step}
use Rattle.rtc_plain_media.specs.declared.plain_media_event.PlainMediaEvent.{PlainMediaEvent}
use Rattle.rtc_run.specs.ProgramPair.{PlainPairState}
use Rattle.rtc_script.specs.declared.script.Script.{Script}
use Rattle.rtc_pair.specs.Performed.{RanScript, lack_memory}

-- the steps of a demo as a script, which sets nothing
abbrev pub demo_script : ℕ → ℕ → Script
demo_script rounds seed = record { settings = []; steps = demo_steps rounds seed }

-- the five lines of steps and their replies
abbrev pub demo_text : ℕ → List Step → List (Reply PlainMediaEvent) → List ℕ
demo_text rounds steps replies = counts_text (counts_in rounds steps replies)

-- The lines of a demo were written, no reply reports that memory ran out, and what the steps were performed on is kept.
pub record TellsCounts {P : Type 0} (rounds : ℕ) (steps : List Step) (replies : List (Reply PlainMediaEvent)) (performed : P)
    (written written' : Option (List ℕ)) (last : Option P) : Type 0 where
  pub told : Appends written written' (demo_text rounds steps replies)
  pub kept : last ≡ Some performed
  pub memory : lack_memory replies ≡ false

-- The steps of a demo, which are orderly and roll nothing back, were performed on the program's pair. Each of its rounds was finished, and
-- the counts over the replies were written. The pair is left.
pub record PerformsDemo (alloc : Global) (rounds seed : ℕ) (written written' : Option (List ℕ)) (last : Option PlainPairState)
    : Type 0 where
  pub replies : List (Reply PlainMediaEvent)
  pub pair : PlainPairState
  pub ran : RanScript alloc (demo_script rounds seed) replies pair
  pub tells : TellsCounts rounds (demo_steps rounds seed) replies pair written written' last
  pub orderly : are_orderly (demo_steps rounds seed) ≡ true
  pub native : are_native (demo_steps rounds seed) ≡ true
  pub finished : count_finished replies ≡ rounds

-- This text is the lines of a run of a demo.
pub record IsDemoText (alloc : Global) (rounds seed : ℕ) (text : List ℕ) : Type 0 where
  pub replies : List (Reply PlainMediaEvent)
  pub pair : PlainPairState
  pub ran : RanScript alloc (demo_script rounds seed) replies pair
  pub native : are_native (demo_steps rounds seed) ≡ true
  pub is : text ≡ demo_text rounds (demo_steps rounds seed) replies
