-- What the datagrams of the plain agent begin with.
use Rattle.std.specs.Prelude.{ℕ, ◌<◌, List, [], ◌∷◌}

-- the first byte is below 2, so that a datagram is taken for a STUN message and for nothing else (RFC 7983, section 7)
abbrev pub BeginsBelowTwo : List ℕ → Type 0
BeginsBelowTwo [] = ⊥
BeginsBelowTwo (b ∷ bytes) = b < 2
