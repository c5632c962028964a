-- Two signals, and what folding does to them.
use Rattle.std.specs.Prelude.{◌≡◌, Bool, true, false, ◌||◌}

-- whether a walk may meet something, and whether the timers may have moved
pub record Signals : Type 0 where
  pub events : Bool
  pub timeout : Bool

abbrev pub both : Signals
both = record { events = true; timeout = true }

abbrev pub neither : Signals
neither = record { events = false; timeout = false }

-- each signal is set if either has it
abbrev pub joined_signals : Signals → Signals → Signals
joined_signals kept raised = record { events = kept.events || raised.events; timeout = kept.timeout || raised.timeout }

-- each signal of the old is set in the new
pub record KeepsSignals (old new : Signals) : Type 0 where
  pub events : old.events ≡ true → new.events ≡ true
  pub timeout : old.timeout ≡ true → new.timeout ≡ true
