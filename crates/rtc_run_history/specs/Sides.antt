-- The two peers of a pair.
use Rattle.std.specs.Prelude.{Bool, true, false}
use Rattle.rtc_run_history.specs.declared.side.Side.{Side}
use Rattle.rtc_run_history.specs.declared.side.Side.TheVariants.{Left, Right}
use Rattle.rtc_run_history.specs.declared.step.Step.{Step}
use Rattle.rtc_run_history.specs.declared.step.Step.TheVariants.{Negotiate, AcceptOffer, AcceptAnswer, Time, Datagram, Poll, Drain}
use Rattle.rtc_run_history.specs.declared.step.Step.TheVariants.{Write, CloseChannel, Close, Rollback, ForeignOffer, ForeignAnswer, Raw}

abbrev pub same_side : Side → Side → Bool
same_side Left Left = true
same_side Left Right = false
same_side Right Left = false
same_side Right Right = true

abbrev pub other_side : Side → Side
other_side Left = Right
other_side Right = Left

-- the peer that acts
abbrev pub side_of : Step → Side
side_of (Negotiate at ops apply) = at
side_of (AcceptOffer at offer) = at
side_of (AcceptAnswer at token answer) = at
side_of (Time at now) = at
side_of (Datagram at packet now) = at
side_of (Poll at) = at
side_of (Drain at) = at
side_of (Write at channel binary bytes) = at
side_of (CloseChannel at channel) = at
side_of (Close at) = at
side_of (Rollback at token) = at
side_of (ForeignOffer at text) = at
side_of (ForeignAnswer at token text) = at
side_of (Raw at bytes now) = at
