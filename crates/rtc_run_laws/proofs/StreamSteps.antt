-- Steps that add no channel that is negotiated out-of-band for one stream.
use Rattle.std.specs.Prelude.{ℕ, ◌≡◌, List, [], ◌∷◌, Some}
use Rattle.rtc_run_history.specs.declared.op.Op.{Op}
use Rattle.rtc_run_history.specs.declared.op.Op.TheVariants.{AddChannel}
use Rattle.rtc_run_history.specs.declared.step.Step.{Step}
use Rattle.rtc_run_history.specs.declared.step.Step.TheVariants.{Negotiate}

-- no channel that is added is negotiated out-of-band for a stream
abbrev pub AreInBandOpsOf : (stream : ℕ) → List Op → Type 0
AreInBandOpsOf stream [] = Unit {0}
AreInBandOpsOf stream (AddChannel config ∷ ops) = (config.negotiated ≡ Some stream → ⊥) × AreInBandOpsOf stream ops
AreInBandOpsOf stream (op ∷ ops) = AreInBandOpsOf stream ops

abbrev pub IsInBandStepOf : (stream : ℕ) → Step → Type 0
IsInBandStepOf stream (Negotiate at ops apply) = AreInBandOpsOf stream ops
IsInBandStepOf stream step = Unit {0}

-- so it is for each step, at either side
abbrev pub AreInBandStepsOf : (stream : ℕ) → List Step → Type 0
AreInBandStepsOf stream [] = Unit {0}
AreInBandStepsOf stream (step ∷ steps) = IsInBandStepOf stream step × AreInBandStepsOf stream steps
