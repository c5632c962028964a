-- The places at which the lines behind a header stop being lines of settings, and then of steps.
use Rattle.std.specs.Prelude.{◌+◌, ◌<◌, ◌≤◌, ℕ, List, [], length, take, get_or}
use Rattle.std.specs.List.{AllZip}
use Rattle.rtc_script.specs.Lines.{IsSetting}
use Rattle.rtc_script.specs.Script.{HaveSteps, HaveLines}
use Rattle.rtc_script.specs.declared.script.Script.{Script}
use Rattle.rtc_script.specs.declared.setting.Setting.{Setting}
use Rattle.rtc_script.specs.declared.steps.StepsError.{StepsError}
use Rattle.rtc_script.specs.declared.steps.StepsError.TheVariants.{NotStep, Alloc}
use Rattle.rtc_run_history.specs.declared.side.Side.{Side}
use Rattle.rtc_run_history.specs.declared.step.Step.{Step}

-- the lines in front are those of settings, and the next one is not
pub record AreAllSettings (lines : List (List ℕ)) (settings : List (Side × Setting)) : Type 0 where
  pub few : length settings ≤ length lines
  pub front : AllZip IsSetting (take (length settings) lines) settings
  pub no_more : length settings < length lines → (setting : Side × Setting) → IsSetting (get_or lines (length settings) []) setting → ⊥

-- the lines before a place are lines of steps, and with the one there they are not
abbrev pub StepsFailAt : List (List ℕ) → ℕ → Type 0
StepsFailAt lines place =
    (place < length lines)
    × ((steps : List Step) × HaveSteps (take place lines) steps)
    × ((steps : List Step) → HaveSteps (take (place + 1) lines) steps → ⊥)

-- the same of lines of settings and steps
abbrev pub FailsAt : List (List ℕ) → ℕ → Type 0
FailsAt lines place =
    (place < length lines)
    × ((script : Script) × HaveLines (take place lines) script)
    × ((script : Script) → HaveLines (take (place + 1) lines) script → ⊥)

abbrev pub IsStepsError : List (List ℕ) → StepsError → Type 0
IsStepsError lines (NotStep place) = StepsFailAt lines place
IsStepsError lines Alloc = Unit {0}

abbrev pub IsScriptLinesError : List (List ℕ) → StepsError → Type 0
IsScriptLinesError lines (NotStep place) = FailsAt lines place
IsScriptLinesError lines Alloc = Unit {0}
