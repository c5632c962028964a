-- The message that acknowledges an open message (RFC 8832, section 5.2).
use Rattle.std.specs.Prelude.{ℕ, ◌≡◌, ◌≢◌, List, [], ◌∷◌}

-- the bytes begin with the type of an acknowledgement
abbrev pub IsAck : List ℕ → Type 0
IsAck [] = ⊥
IsAck (first ∷ rest) = first ≡ 0x02

-- they begin with another type
abbrev pub IsOtherMessage : List ℕ → Type 0
IsOtherMessage [] = ⊥
IsOtherMessage (first ∷ rest) = first ≢ 0x02
