-- Steps at the connection of a peer.
use Rattle.std.specs.Prelude.{Bool, true, false}
use Rattle.rtc_run_history.specs.declared.step.Step.{Step}
use Rattle.rtc_run_history.specs.declared.step.Step.TheVariants.{Negotiate, AcceptOffer, AcceptAnswer, Time, Datagram, Poll, Drain}
use Rattle.rtc_run_history.specs.declared.step.Step.TheVariants.{Write, CloseChannel, Close, Rollback, ForeignOffer, ForeignAnswer, Raw}

-- whether a step makes, takes and spends nothing of session descriptions
abbrev pub is_at_connection : Step → Bool
is_at_connection (Negotiate at ops apply) = false
is_at_connection (AcceptOffer at offer) = false
is_at_connection (AcceptAnswer at token answer) = false
is_at_connection (Time at now) = true
is_at_connection (Datagram at packet now) = true
is_at_connection (Poll at) = true
is_at_connection (Drain at) = true
is_at_connection (Write at channel binary bytes) = true
is_at_connection (CloseChannel at channel) = true
is_at_connection (Close at) = true
is_at_connection (Rollback at token) = false
is_at_connection (ForeignOffer at text) = false
is_at_connection (ForeignAnswer at token text) = false
is_at_connection (Raw at bytes now) = true
