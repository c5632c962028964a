-- The lines of steps, one line at a time.
use Rattle.std.proofs.Common.{◌<◌, ℕ, List, length, take, get_or, Bor}
use Rattle.std.proofs.lemmas.List.{length-map}
use Rattle.rtc_script.specs.Lines.{IsLine}
use Rattle.rtc_script.specs.Script.{HaveSteps}
use Rattle.rtc_script.specs.Steps.{StepsFailAt}
use Rattle.rtc_script.proofs.ZipLemmas.{texts, no_zip_at}
use Rattle.rtc_run_history.specs.declared.step.Step.{Step}

-- lines stop being lines of steps at the first that no step has
pub fails_at_no_step : (lines : List (Bor (List ℕ))) (i : ℕ) (d : Bor (List ℕ)) (steps : List Step) → i < length lines → HaveSteps (take i (texts lines)) steps → ((step : Step) → IsLine (get_or lines i d).now step → ⊥) → StepsFailAt (texts lines) i
fails_at_no_step lines i d steps within are none = (rw length-map within, (steps, are), no_zip_at IsLine lines i d within none)
