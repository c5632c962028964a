-- Numbers that are drawn one after another.
use Rattle.std.specs.Prelude.{◌≡◌, ℕ, zero, suc}

-- what a source of numbers returns next, and what it is after that
pub record Draws (N : Type 0) : Type 0 where
  pub drawn : N → ℕ
  pub after : N → N

-- the source after so many draws
abbrev pub after_draws : {N : Type 0} → Draws N → ℕ → N → N
after_draws draws zero ids = ids
after_draws draws (suc count) ids = after_draws draws count (draws.after ids)

-- the source some number of draws later
unfoldable pub Later : {N : Type 0} → Draws N → N → N → Type 0
Later draws ids ids' = (count : ℕ) × (after_draws draws count ids ≡ ids')
