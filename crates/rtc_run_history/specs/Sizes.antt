-- The size of steps: how many rows, channels and session descriptions they can add.
use Rattle.std.specs.Prelude.{◌+◌, ℕ, List, [], ◌∷◌, length}
use Rattle.rtc_run_history.specs.declared.step.Step.{Step}
use Rattle.rtc_run_history.specs.declared.step.Step.TheVariants.{Negotiate, AcceptOffer, AcceptAnswer, Time, Datagram, Poll, Drain}
use Rattle.rtc_run_history.specs.declared.step.Step.TheVariants.{Write, CloseChannel, Close, Rollback, ForeignOffer, ForeignAnswer, Raw}

-- one, and one more for each op, and for each byte of a foreign text
abbrev pub step_size : Step → ℕ
step_size (Negotiate at ops apply) = 1 + length ops
step_size (AcceptOffer at offer) = 1
step_size (AcceptAnswer at token answer) = 1
step_size (Time at now) = 1
step_size (Datagram at packet now) = 1
step_size (Poll at) = 1
step_size (Drain at) = 1
step_size (Write at channel binary bytes) = 1
step_size (CloseChannel at channel) = 1
step_size (Close at) = 1
step_size (Rollback at token) = 1
step_size (ForeignOffer at text) = 1 + length text
step_size (ForeignAnswer at token text) = 1 + length text
step_size (Raw at bytes now) = 1

abbrev pub steps_size : List Step → ℕ
steps_size [] = 0
steps_size (step ∷ steps) = step_size step + steps_size steps
