-- The mids that BUNDLE groups name, found without a walk over the groups.
use Rattle.std.specs.Prelude.{ℕ, List, [], ◌∷◌, ◌++◌, Option, Some, None}
use Rattle.std.specs.BTreeSet.{BTreeSet}
use Rattle.rtc_sdp_values.specs.MidSets.{HasMids}

-- the mids of groups, group by group
abbrev pub named_mids : List (List (List ℕ)) → List (List ℕ)
named_mids [] = []
named_mids (group ∷ groups) = group ++ named_mids groups

-- if there is a set, it has the mids that groups name
abbrev pub HasNamed : Option (BTreeSet (List ℕ)) → List (List (List ℕ)) → Type 0
HasNamed None groups = Unit {0}
HasNamed (Some found) groups = HasMids found (named_mids groups)
