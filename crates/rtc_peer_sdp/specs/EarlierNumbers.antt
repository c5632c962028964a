-- Numbers of SSRCs that were drawn earlier in a call.
use Rattle.std.specs.Prelude.{◌≡◌, ℕ, List}
use Rattle.std.specs.BTreeSet as set
use Rattle.std.specs.BTreeSet.{BTreeSet}
use Rattle.std.specs.Ordering.{nat_cmp}
use Rattle.rtc_peer_core.specs.Sources.{is_number}

-- a set has these numbers and no others
abbrev pub HasNumbers : BTreeSet ℕ → List ℕ → Type 0
HasNumbers found numbers = (n : ℕ) → set.contains nat_cmp found n ≡ is_number n numbers
