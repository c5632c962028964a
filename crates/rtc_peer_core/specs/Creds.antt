-- Credentials that a peer draws.
use Rattle.std.specs.Prelude.{ℕ, ◌+◌, ◌/◌, ◌%◌, zero, suc, Bool, true, false, List, [], ◌∷◌, ◌++◌}
use Rattle.std.specs.Prelude.{if◌then◌else◌, nat_lt, Option, Some, None}
use Rattle.rtc_sdp_values.specs.declared.ice_creds.IceCreds.{IceCreds}
use Rattle.rtc_parts.specs.Draws.{Draws}

-- a digit of base 16, in lower case
abbrev pub lower_hex_digit : ℕ → ℕ
lower_hex_digit n = if nat_lt n 10 then 48 + n else 87 + n

-- the last so many digits of a number in base 16
abbrev pub hex_digits : ℕ → ℕ → List ℕ
hex_digits zero n = []
hex_digits (suc count) n = hex_digits count (n / 16) ++ lower_hex_digit (n % 16) ∷ []

-- the credentials of a draw: u and its 16 digits, and these digits twice
unfoldable pub drawn_creds : ℕ → IceCreds
drawn_creds n = record { ufrag = 117 ∷ hex_digits 16 n; pass = hex_digits 16 n ++ hex_digits 16 n }

module _ {N : Type 0} (draws : Draws N) where
  -- the restart of a peer that has to: with drawn credentials, and its candidates kept
  abbrev pub new_creds : N → Bool → Option (IceCreds × Bool)
  new_creds ids true = Some (drawn_creds (draws.drawn ids), true)
  new_creds ids false = None

  abbrev pub after_new_creds : N → Bool → N
  after_new_creds ids true = draws.after ids
  after_new_creds ids false = ids
