-- What is kept beside staged changes, so that the lines that they add are counted and found by mid.
use Rattle.std.specs.Prelude.{◌≡◌, ◌||◌, ℕ, Bool, false, List, length, is_some, Option, Some, None}
use Rattle.std.specs.BTreeSet as set
use Rattle.std.specs.BTreeSet.{BTreeSet}
use Rattle.std.specs.Cmp.Lexicographic.{slice_cmp}
use Rattle.std.specs.Ordering.{nat_cmp}
use Rattle.std.specs.Str.{bytes_eq}
use Rattle.rtc_change.specs.declared.change.Change.{Change}
use Rattle.rtc_change.specs.PendingOffer.{added_mids, adds_mid, contains_add_app}

abbrev pub is_mid : Option (List ℕ) → List ℕ → Bool
is_mid None mid = false
is_mid (Some own) mid = bytes_eq own mid

-- whether a mid is that of the m-line of data channels, or one of a set
abbrev pub is_indexed_mid : BTreeSet (List ℕ) → Option (List ℕ) → List ℕ → Bool
is_indexed_mid mids app mid = is_mid app mid || set.contains (slice_cmp nat_cmp) mids mid

-- the mids are those of the lines that changes add, and the count is how many these are
pub record IsIndexed (changes : List Change) (mids : BTreeSet (List ℕ)) (app : Option (List ℕ)) (count : ℕ) : Type 0 where
  pub held : (mid : List ℕ) → is_indexed_mid mids app mid ≡ adds_mid mid changes
  pub has_app : is_some app ≡ contains_add_app changes
  pub counted : count ≡ length (added_mids changes)
