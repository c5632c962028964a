-- Steps that add no channel that is negotiated out-of-band.
use Rattle.std.specs.Prelude.{◌≡◌, List, [], ◌∷◌, None}
use Rattle.rtc_run_history.specs.declared.op.Op.{Op}
use Rattle.rtc_run_history.specs.declared.op.Op.TheVariants.{AddChannel}
use Rattle.rtc_run_history.specs.Sides.{side_of}
use Rattle.rtc_run_history.specs.declared.side.Side.{Side}
use Rattle.rtc_run_history.specs.declared.step.Step.{Step}
use Rattle.rtc_run_history.specs.declared.step.Step.TheVariants.{Negotiate}

-- no channel that is added is negotiated out-of-band
abbrev pub AreInBandOps : List Op → Type 0
AreInBandOps [] = Unit {0}
AreInBandOps (AddChannel config ∷ ops) = (config.negotiated ≡ None) × AreInBandOps ops
AreInBandOps (op ∷ ops) = AreInBandOps ops

abbrev pub IsInBandStep : Step → Type 0
IsInBandStep (Negotiate at ops apply) = AreInBandOps ops
IsInBandStep step = Unit {0}

-- so it is for each step, at either side
abbrev pub AreInBandSteps : List Step → Type 0
AreInBandSteps [] = Unit {0}
AreInBandSteps (step ∷ steps) = IsInBandStep step × AreInBandSteps steps

-- so it is for each step of one side
abbrev pub AreInBandStepsAt : Side → List Step → Type 0
AreInBandStepsAt at [] = Unit {0}
AreInBandStepsAt at (step ∷ steps) = (side_of step ≡ at → IsInBandStep step) × AreInBandStepsAt at steps
