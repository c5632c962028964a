-- A map from names to the place of their first `rid` attribute.
use Rattle.std.specs.Prelude.{◌≡◌, ℕ, List, take, Option, Some, None, option_map, slice_get}
use Rattle.std.specs.Ordering.{nat_cmp}
use Rattle.std.specs.Cmp.Lexicographic.{slice_cmp}
use Rattle.std.specs.BTreeMap as map
use Rattle.std.specs.BTreeMap.{BTreeMap}
use Rattle.rtc_wire_text.specs.Fields.{first}
use Rattle.rtc_sdp_attributes.specs.declared.rid_direction.RidDirection.{RidDirection}
use Rattle.rtc_sdp_attributes.specs.declared.rid_line.RidLine.{RidLine}
use Rattle.rtc_sdp_reader.specs.Layers.{Pairs, pairs_in, or_no_pairs}

-- the pairs at a place
abbrev pub pairs_at : List RidLine → Option ℕ → Option Pairs
pairs_at lines None = None
pairs_at lines (Some place) = Some (or_no_pairs (option_map (λ line. line.attributes) (slice_get lines place)))

-- the map has the place of the first attribute of each name among the first `count`
abbrev pub AreFirst : List RidLine → RidDirection → ℕ → BTreeMap (List ℕ) ℕ → Type 0
AreFirst lines direction count found = (rid : List ℕ) → pairs_at lines (map.get (slice_cmp nat_cmp) found rid)
    ≡ first (pairs_in direction rid) (take count lines)
