-- Sides that rest, or do not, worked by hand.
use Rattle.std.proofs.Common.{◌∷◌, ◌<◌, [], None, arith}
use Rattle.rtc_parts.specs.declared.reason.Reason.TheVariants.{NotHappening}
use Rattle.rtc_run_history.specs.declared.outcome.Outcome.{Outcome}
use Rattle.rtc_run_history.specs.declared.outcome.Outcome.TheVariants.{Done, Polled, NoSuch, Alloc}
use Rattle.rtc_run_history.specs.declared.poll_end.PollEnd.TheVariants.{Ended}
use Rattle.rtc_run_history.specs.declared.shown.Shown.TheVariants.{Timeout, Packet}
use Rattle.rtc_run_history.specs.declared.side.Side.TheVariants.{Left, Right}
use Rattle.rtc_run_history.specs.declared.step.Step.{Step}
use Rattle.rtc_run_history.specs.declared.step.Step.TheVariants.{Time, Datagram, Poll, Drain, Close}
use Rattle.rtc_run_history.specs.Past.{Entry}
use Rattle.rtc_run_laws.specs.RestingPasts.{IsResting, RestsUntil}

abbrev entry_of : Step → Outcome (Unit {0}) → Entry (Unit {0})
entry_of step outcome = record { step = step; outcome = outcome; table = None; made = [] }

-- a poll of the left side that ended in a timeout
abbrev waited : Entry (Unit {0})
waited = entry_of (Poll Left) (Polled (Timeout 9 NotHappening ∷ []) Ended)

-- behind it the side rests, whatever the other one does, and so it does behind a drain
polled_rests : IsResting Left (waited ∷ [])
polled_rests = tt

other_moves : IsResting Left (entry_of (Time Right 5) Done ∷ waited ∷ [])
other_moves = tt

drained_rests : IsResting Left (entry_of (Drain Left) (Polled (Packet 0 40 ∷ Timeout 9 NotHappening ∷ []) Ended) ∷ [])
drained_rests = tt

-- until a moment that is later than another, or is not
later_rests : RestsUntil (λ moment. 5 < moment) Left (waited ∷ [])
later_rests = omega arith

due_rests : RestsUntil (λ moment. 9 < moment) Left (waited ∷ []) → ⊥
due_rests h = omega (arith, h)

-- an input or a call of its own ends that, and so does a poll that gave something else
time_wakes : IsResting Left (entry_of (Time Left 5) Done ∷ waited ∷ []) → ⊥
time_wakes h = h

call_wakes : IsResting Left (entry_of (Close Left) Done ∷ waited ∷ []) → ⊥
call_wakes h = h

packet_wakes : IsResting Left (entry_of (Poll Left) (Polled (Packet 0 40 ∷ []) Ended) ∷ waited ∷ []) → ⊥
packet_wakes h = h

-- a side of which nothing was asked does not rest
other_alone : IsResting Right (waited ∷ []) → ⊥
other_alone h = h

-- a step that makes no call leaves it at rest
nothing_there : IsResting Left (entry_of (Datagram Left 3 5) NoSuch ∷ entry_of (Close Left) Alloc ∷ waited ∷ [])
nothing_there = tt
