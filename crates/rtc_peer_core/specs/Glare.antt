-- Glare, which is two offers that cross (RFC 3264, section 4). A peer may have a role for them: a polite one rolls its own offer back, an
-- impolite one refuses the other (W3C WebRTC 1.0, section 10.7, perfect negotiation).
use Rattle.std.specs.Prelude.{◌&&◌, not, Bool, false, Option, Some, None}

abbrev pub is_impolite : Option Bool → Bool
is_impolite None = false
is_impolite (Some polite) = not polite

-- whether a peer of this role refuses any offer, given whether an offer of its own is pending
abbrev pub meets_glare : Option Bool → (outstanding : Bool) → Bool
meets_glare polite outstanding = is_impolite polite && outstanding
