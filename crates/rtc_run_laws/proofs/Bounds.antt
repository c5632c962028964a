-- How many session descriptions a pair keeps: at most the sum of the sizes of the steps that it performed.
use Rattle.std.specs.Prelude.{◌≤◌, length}
use Rattle.rtc_run_laws.proofs.StanceSteps.{PairStance}

pub record IsWithin (pair : PairStance) : Type 0 where
  pub sdps : length pair.sdps ≤ pair.size
