-- Steps that call their peer.
use Rattle.std.specs.Prelude.{Bool, true, false}
use Rattle.rtc_run_history.specs.declared.outcome.Outcome.{Outcome}
use Rattle.rtc_run_history.specs.declared.outcome.Outcome.TheVariants.{Negotiated, Answered, Finished, Done, Wrote, Polled, Refused}
use Rattle.rtc_run_history.specs.declared.outcome.Outcome.TheVariants.{NoSuch, Alloc}

-- whether a step called its peer: it did not if what it names is not there, and if memory ran out before
abbrev pub calls_peer : {E : Type 0} → Outcome E → Bool
calls_peer (Negotiated answers made) = true
calls_peer (Answered k) = true
calls_peer Finished = true
calls_peer Done = true
calls_peer (Wrote taken) = true
calls_peer (Polled outputs end) = true
calls_peer (Refused error) = true
calls_peer NoSuch = false
calls_peer Alloc = false
