-- The mids that groups name.
use Rattle.std.proofs.Common.{◌≡◌, ◌∙◌, ◌||◌, ℕ, Bool, List, [], ◌∷◌, refl, ap}
use Rattle.std.specs.Str.{bytes_eq}
use Rattle.std.proofs.lemmas.List.Folds.{list_any-append}
use Rattle.rtc_sdp_values.specs.Mids.{is_among, is_bundled}
use Rattle.rtc_peer_rows.specs.NamedMids.{named_mids}

-- a group names a mid where it is among those of all groups
pub named_is_bundled : (groups : List (List (List ℕ))) (mid : List ℕ) → is_among (named_mids groups) mid ≡ is_bundled groups mid
named_is_bundled [] mid = refl
named_is_bundled (group ∷ groups) mid =
    list_any-append (λ other. bytes_eq other mid) group (named_mids groups) ∙ ap (λ (b : Bool). is_among group mid || b) (named_is_bundled groups mid)
