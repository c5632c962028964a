-- Bits at places of lists of words, and lists that sum up others. No clause of a set cites this file.
use Rattle.std.specs.Prelude.{◌≡◌, ◌≢◌, ◌/◌, ◌%◌, ◌<◌, ◌≤◌, ◌==◌, nat_lt, ℕ, Bool, true, false, List, length, slice_index}
use Rattle.std.specs.Prelude.{Option, Some, None}
use Rattle.std.specs.Int.{bit_at}

-- whether the bit at a place is set
unfoldable pub has_bit : List ℕ → ℕ → Bool
has_bit words place = bit_at (slice_index words (place / 64)) (place % 64) == 1

-- each upper bit says whether the lower word at its place has a bit
abbrev pub IsSummary : List ℕ → List ℕ → Type 0
IsSummary upper lower = (place : ℕ) → has_bit upper place ≡ nat_lt 0 (slice_index lower place)

-- each upper bit but one does
abbrev pub IsSummaryBut : ℕ → List ℕ → List ℕ → Type 0
IsSummaryBut at upper lower = (place : ℕ) → place ≢ at → has_bit upper place ≡ nat_lt 0 (slice_index lower place)

-- the first word that has a bit
pub record IsFirstWord (words : List ℕ) (at : ℕ) : Type 0 where
  pub used : 0 < slice_index words at
  pub before : (place : ℕ) → place < at → slice_index words place ≡ 0

-- the first place that has a bit
pub record IsFirstBit (words : List ℕ) (place : ℕ) : Type 0 where
  pub set : has_bit words place ≡ true
  pub before : (other : ℕ) → other < place → has_bit words other ≡ false

-- the first place with a bit from a place on
pub record IsBitFrom (words : List ℕ) (from place : ℕ) : Type 0 where
  pub behind : from ≤ place
  pub set : has_bit words place ≡ true
  pub before : (other : ℕ) → from ≤ other → other < place → has_bit words other ≡ false

-- the same, if there is one
abbrev pub BitFrom : List ℕ → ℕ → Option ℕ → Type 0
BitFrom words from None = (other : ℕ) → from ≤ other → has_bit words other ≡ false
BitFrom words from (Some place) = IsBitFrom words from place

-- the first place with a bit from a place on, in the word of that place
pub record IsBitBehind (words : List ℕ) (from place : ℕ) : Type 0 where
  pub first : IsBitFrom words from place
  pub word : place / 64 ≡ from / 64

-- the same, if there is one
abbrev pub BitBehind : List ℕ → ℕ → Option ℕ → Type 0
BitBehind words from None = (other : ℕ) → from ≤ other → other / 64 ≡ from / 64 → has_bit words other ≡ false
BitBehind words from (Some place) = IsBitBehind words from place

-- three lists, each of which sums up the one before, for 65,536 places
pub record AreSetLevels (words groups top : List ℕ) : Type 0 where
  pub word_count : length words ≡ 1024
  pub group_count : length groups ≡ 16
  pub top_count : length top ≡ 1
  pub lower : IsSummary groups words
  pub upper : IsSummary top groups
