-- The names of the streams of the lines in front, as a map keeps them. Contracts of inner functions cite this.
use Rattle.std.specs.Prelude.{ℕ, Bool, List, [], ◌∷◌, Option, Some, None, is_some, if◌then◌else◌}
use denote.Ref.{Bor}
use Rattle.std.specs.BTreeMap as tree
use Rattle.std.specs.BTreeMap.{BTreeMap}
use Rattle.std.specs.Cmp.Lexicographic.{slice_cmp}
use Rattle.std.specs.Ordering.{nat_cmp}
use Rattle.rtc_sdp_values.specs.declared.msid.Msid.{Msid}

abbrev pub is_found : BTreeMap (Bor (List ℕ)) ℕ → List ℕ → Bool
is_found found name = is_some (tree.get_by (λ (k : Bor (List ℕ)). slice_cmp nat_cmp name k.now) found)

-- the name, unless it was found
abbrev pub new_to : BTreeMap (Bor (List ℕ)) ℕ → Option Msid → List (List ℕ)
new_to found None = []
new_to found (Some msid) = if is_found found msid.stream_id then [] else msid.stream_id ∷ []
