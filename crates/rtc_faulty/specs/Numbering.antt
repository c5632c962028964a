-- Which calls of a part fail, by their numbers.
use Rattle.std.specs.Prelude.{ℕ, zero, suc, ◌+◌, ◌-◌, ◌^◌, ◌==◌, ◌&&◌, min, max, nat_le, if◌then◌else◌, Bool, List, Option, Some, None}
use Rattle.std.specs.List.{list_any}
use Rattle.rtc_io.specs.Faults.{counted}

-- the numbers go from 0 to 2^64 - 1. A later call has none
pub record Numbering : Type 0 where
  -- the numbers of the calls that fail
  pub failing : List ℕ
  -- how many numbers were used, which is the next number as long as one is left
  pub used : ℕ
  -- how many calls failed; it rises no further at the last value of a u64
  pub faults : ℕ

-- how many numbers there are before a next one, or in all
abbrev pub used_before : Option ℕ → ℕ
used_before (Some next) = next
used_before None = 2 ^ 64

-- a number is listed
abbrev pub lists_number : ℕ → List ℕ → Bool
lists_number number failing = list_any (λ other. other == number) failing

-- whether the next call with a number fails
abbrev pub is_failing : Numbering → Bool
is_failing n = nat_le n.used (2 ^ 64 - 1) && lists_number n.used n.failing

-- a number was used
abbrev pub number_used : Numbering → Numbering
number_used n = record n { used = min (n.used + 1) (2 ^ 64) }

-- one more fault, if the count does not have the last value of a u64
abbrev pub one_fault_more : ℕ → ℕ
one_fault_more faults = max faults (counted faults)

-- a call failed
abbrev pub call_failed : Numbering → Numbering
call_failed n = record (number_used n) { faults = one_fault_more n.faults }

-- how many numbers in a row are listed, from one on with which so many are left
unfoldable pub row_of_listed : (left number : ℕ) → List ℕ → ℕ
row_of_listed zero number failing = 0
row_of_listed (suc left) number failing = if lists_number number failing then suc (row_of_listed left (number + 1) failing) else 0

-- how many calls with a number fail before one that does not
abbrev pub faults_ahead : Numbering → ℕ
faults_ahead n = row_of_listed (2 ^ 64 - n.used) n.used n.failing
