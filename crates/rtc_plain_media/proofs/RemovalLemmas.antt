-- Updates that remove no line.
use Rattle.std.proofs.Common.{◌≡◌, ℕ, Bool, true, false, Option, Some, None, List, [], ◌∷◌, is_some, refl, ap}
use Rattle.std.specs.List.{list_any}
use Rattle.rtc_parts.specs.declared.media_update.MediaUpdate.{MediaUpdate}
use Rattle.rtc_parts.specs.MediaUpdates.{removes, removed_by}
use Rattle.rtc_plain_media.specs.Lines.{Lines, removes_some, without_lines}
use Rattle.rtc_plain_media.specs.Streams.{Streams, without_streams}

removes_nothing : (mid : List ℕ) (u : MediaUpdate) (removed : Option (List ℕ)) → u.removed ≡ removed → is_some removed ≡ false → removes mid u ≡ false
removes_nothing mid u None is none = rw is refl
removes_nothing mid u (Some other) is none = absurd cc

none_removes : (us : List MediaUpdate) (mid : List ℕ) → list_any removes_some us ≡ false → list_any (removes mid) us ≡ false
none_removes [] mid none = refl
none_removes (u ∷ us) mid none = by (none_removes us mid) (removes_some u) refl none
  where
    by : (list_any removes_some us ≡ false → list_any (removes mid) us ≡ false) → (b : Bool) → removes_some u ≡ b → list_any removes_some (u ∷ us) ≡ false → list_any (removes mid) (u ∷ us) ≡ false
    by rest true is none = absurd (let wrong : true ≡ false = rw is at none in cc)
    by rest false is none = rw (removes_nothing mid u u.removed refl is) (rest (rw is at none))

none_removed : (us : List MediaUpdate) (mid : List ℕ) → list_any removes_some us ≡ false → removed_by us mid ≡ false
none_removed us mid none = rw (none_removes us mid none) refl

-- every line stays
pub all_lines_stay : (us : List MediaUpdate) (lines : Lines) → list_any removes_some us ≡ false → lines ≡ without_lines (removed_by us) lines
all_lines_stay us [] none = refl
all_lines_stay us (e ∷ lines) none = rw (none_removed us e.0.mid none) (ap (λ (l : Lines). e ∷ l) (all_lines_stay us lines none))

-- every stream stays
pub all_streams_stay : (us : List MediaUpdate) (rows : Streams) → list_any removes_some us ≡ false → rows ≡ without_streams (removed_by us) rows
all_streams_stay us [] none = refl
all_streams_stay us (row ∷ rows) none = rw (none_removed us row.mid none) (ap (λ (l : Streams). row ∷ l) (all_streams_stay us rows none))
