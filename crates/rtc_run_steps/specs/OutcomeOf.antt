-- The outcome of a call that returns nothing but whether it is refused.
use Rattle.std.specs.Prelude.{Result, Ok, Err}
use Rattle.rtc_peer_core.specs.declared.rtc_error.RtcError.{RtcError}
use Rattle.rtc_run_history.specs.declared.outcome.Outcome.{Outcome}
use Rattle.rtc_run_history.specs.declared.outcome.Outcome.TheVariants.{Done, Refused}

abbrev pub outcome_of : {E : Type 0} → Result (Unit {0}) RtcError → Outcome E
outcome_of (Ok done) = Done
outcome_of (Err error) = Refused error
