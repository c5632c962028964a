-- What updates say of the lines that they name.
use Rattle.std.specs.Prelude.{ℕ, ◌&&◌, not, nat_eq, if◌then◌else◌, Bool, false, List, [], ◌∷◌, Option, Some, None}
use Rattle.std.specs.Cmp.Lexicographic.{pointwise}
use Rattle.std.specs.List.{list_any}
use Rattle.rtc_sdp_values.specs.LineRow.{row_mid}
use Rattle.rtc_parts.specs.declared.media_update.MediaUpdate.{MediaUpdate}

-- two mids are the same, by their bytes
abbrev pub same_mid : List ℕ → List ℕ → Bool
same_mid a b = pointwise nat_eq a b

abbrev pub update_mid : MediaUpdate → List ℕ
update_mid update = row_mid update.row

-- the last of some updates whose row has a mid, or else what is given
abbrev pub latest : List ℕ → List MediaUpdate → Option MediaUpdate → Option MediaUpdate
latest mid [] held = held
latest mid (u ∷ us) held = latest mid us (if same_mid mid (update_mid u) then Some u else held)

-- a mid is removed by an update
abbrev pub removes : List ℕ → MediaUpdate → Bool
removes mid update = is_mid update.removed
  where
    is_mid : Option (List ℕ) → Bool
    is_mid None = false
    is_mid (Some other) = same_mid mid other

-- a mid is removed by some updates, and is in no row
abbrev pub removed_by : List MediaUpdate → List ℕ → Bool
removed_by updates mid = list_any (removes mid) updates && not (list_any (λ u. same_mid mid (update_mid u)) updates)

-- the line of a mid after some updates, from what it was before
abbrev pub line_after : List MediaUpdate → List ℕ → Option MediaUpdate → Option MediaUpdate
line_after updates mid before = latest mid updates (if removed_by updates mid then None else before)
