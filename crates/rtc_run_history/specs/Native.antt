-- Steps that bring in nothing but what the peers of the pair made.
use Rattle.std.specs.Prelude.{◌&&◌, Bool, true, false, List, [], ◌∷◌}
use Rattle.rtc_run_history.specs.declared.step.Step.{Step}
use Rattle.rtc_run_history.specs.declared.step.Step.TheVariants.{Negotiate, AcceptOffer, AcceptAnswer, Time, Datagram, Poll, Drain}
use Rattle.rtc_run_history.specs.declared.step.Step.TheVariants.{Write, CloseChannel, Close, Rollback, ForeignOffer, ForeignAnswer, Raw}

-- no text and no bytes of anybody
abbrev pub is_native : Step → Bool
is_native (Negotiate at ops apply) = true
is_native (AcceptOffer at offer) = true
is_native (AcceptAnswer at token answer) = true
is_native (Time at now) = true
is_native (Datagram at packet now) = true
is_native (Poll at) = true
is_native (Drain at) = true
is_native (Write at channel binary bytes) = true
is_native (CloseChannel at channel) = true
is_native (Close at) = true
is_native (Rollback at token) = true
is_native (ForeignOffer at text) = false
is_native (ForeignAnswer at token text) = false
is_native (Raw at bytes now) = false

abbrev pub are_native : List Step → Bool
are_native [] = true
are_native (step ∷ steps) = is_native step && are_native steps
