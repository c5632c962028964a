-- Sets of stream ids.
use Rattle.std.specs.Prelude.{◌≡◌, ◌≤◌, ◌<◌, ℕ, Bool, true, false, List, Option, Some, None}
use Rattle.rtc_sctp_values.specs.Words.{has_bit}

pub record StreamIds : Type 0 where
  pub words : List ℕ

-- whether an id is in a set
unfoldable pub has_id : ℕ → StreamIds → Bool
has_id id ids = has_bit ids.words id

-- the least id of a set that is not below a number
pub record IsIdFrom (ids : StreamIds) (from id : ℕ) : Type 0 where
  pub behind : from ≤ id
  pub inside : has_id id ids ≡ true
  pub before : (other : ℕ) → from ≤ other → other < id → has_id other ids ≡ false

-- the same, if there is one
abbrev pub IdFrom : StreamIds → ℕ → Option ℕ → Type 0
IdFrom ids from None = (other : ℕ) → from ≤ other → has_id other ids ≡ false
IdFrom ids from (Some id) = IsIdFrom ids from id
