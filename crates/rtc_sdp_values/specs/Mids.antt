-- Lists of mids (RFC 5888, section 4).
use Rattle.std.specs.Prelude.{◌≡◌, ℕ, Bool, true, false, List, [], ◌∷◌, if◌then◌else◌}
use Rattle.std.specs.List.{list_any}
use Rattle.std.specs.Str.{bytes_eq}

-- whether a mid is among these
abbrev pub is_among : List (List ℕ) → List ℕ → Bool
is_among mids mid = list_any (λ other. bytes_eq other mid) mids

-- no mid is repeated
abbrev pub AreDistinct : List (List ℕ) → Type 0
AreDistinct [] = Unit {0}
AreDistinct (mid ∷ mids) = (is_among mids mid ≡ false) × AreDistinct mids

-- the test for it
abbrev pub are_distinct : List (List ℕ) → Bool
are_distinct [] = true
are_distinct (mid ∷ mids) = if is_among mids mid then false else are_distinct mids

-- whether a BUNDLE group names a mid (RFC 8843, section 7)
abbrev pub is_bundled : List (List (List ℕ)) → List ℕ → Bool
is_bundled groups mid = list_any (λ group. is_among group mid) groups
