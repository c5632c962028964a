-- Sets of mids.
use Rattle.std.specs.Prelude.{◌≡◌, ℕ, List}
use Rattle.std.specs.BTreeSet as set
use Rattle.std.specs.BTreeSet.{BTreeSet}
use Rattle.std.specs.Cmp.Lexicographic.{slice_cmp}
use Rattle.std.specs.Ordering.{nat_cmp}
use Rattle.rtc_sdp_values.specs.Mids.{is_among}

-- a set has these mids and no others
abbrev pub HasMids : BTreeSet (List ℕ) → List (List ℕ) → Type 0
HasMids found mids = (mid : List ℕ) → set.contains (slice_cmp nat_cmp) found mid ≡ is_among mids mid
