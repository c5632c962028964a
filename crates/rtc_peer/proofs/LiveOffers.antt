-- An offer that adds a line has a live one.
use Rattle.std.proofs.Common.{◌≡◌, ◌<◌, ◌||◌, ℕ, Bool, true, false, List, [], ◌∷◌, length, refl, sym, ◌∙◌, arith}
use Rattle.std.proofs.lemmas.List.Folds.{list_any-append}
use Rattle.rtc_sdp_values.specs.declared.line_row.LineRow.{LineRow}
use Rattle.rtc_change.specs.declared.change.Change.{Change}
use Rattle.rtc_change.specs.declared.change.Change.TheVariants.{AddMedia, AddApp, AddChannel, Direction, IceRestart}
use Rattle.rtc_change.specs.PendingOffer.{added_mids, added_rows}
use Rattle.rtc_peer.specs.Previews.{has_live_row, offers_live}

added_live : (place : ℕ) (changes : List Change) → 0 < length (added_mids changes) → has_live_row (added_rows place changes) ≡ true
added_live place [] some = absurd (omega (arith, some))
added_live place (AddMedia media ∷ changes) some = refl
added_live place (AddApp mid ∷ changes) some = refl
added_live place (AddChannel id config ∷ changes) some = added_live place changes some
added_live place (Direction mid dir ∷ changes) some = added_live place changes some
added_live place (IceRestart creds keeps ∷ changes) some = added_live place changes some

none_added : (place : ℕ) (changes : List Change) → length (added_mids changes) ≡ 0 → added_rows place changes ≡ []
none_added place [] none = refl
none_added place (AddMedia media ∷ changes) none = absurd (omega (arith, none))
none_added place (AddApp mid ∷ changes) none = absurd (omega (arith, none))
none_added place (AddChannel id config ∷ changes) none = none_added place changes none
none_added place (Direction mid dir ∷ changes) none = none_added place changes none
none_added place (IceRestart creds keeps ∷ changes) none = none_added place changes none

either_true : (a b : Bool) → b ≡ true → (a || b) ≡ true
either_true true b h = refl
either_true false b h = h

either_false : (a : Bool) → (a || false) ≡ a
either_false true = refl
either_false false = refl

pub live_added : (rows : List LineRow) (changes : List Change) → 0 < length (added_mids changes) → true ≡ offers_live rows changes
live_added rows changes some =
    let added = added_rows (length rows) changes in
    sym (list_any-append _ rows added ∙ either_true (has_live_row rows) (has_live_row added) (added_live (length rows) changes some))

pub live_held : (rows : List LineRow) (changes : List Change) → length (added_mids changes) ≡ 0 → has_live_row rows ≡ offers_live rows changes
live_held rows changes none =
    let gone : added_rows (length rows) changes ≡ [] = none_added (length rows) changes none in
    rw (gone, list_any-append) (sym (either_false (has_live_row rows)))
