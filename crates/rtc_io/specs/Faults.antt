-- Counts of faults, and which results they allow.
use Rattle.std.specs.Prelude.{ℕ, ◌+◌, ◌-◌, ◌^◌, ◌≤◌, min, Result, OnErr}

-- a count with one more fault; it rises no further at the last value of a u64
abbrev pub counted : ℕ → ℕ
counted faults = min (faults + 1) (2 ^ 64 - 1)

-- the count rose; one that has the last value of a u64 counts as risen
abbrev pub Rose : ℕ → ℕ → Type 0
Rose before after = counted before ≤ after

-- the count never falls, and a call fails only if it rose
pub record HasCause {T E : Type 0} (before after : ℕ) (result : Result T E) : Type 0 where
  pub later : before ≤ after
  pub failed : OnErr result (Rose before after)
