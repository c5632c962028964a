-- Names that a peer draws.
use Rattle.std.specs.Prelude.{◌+◌, ◌%◌, ◌^◌, ◌||◌, zero, suc, ℕ, Bool, List, [], ◌∷◌, ◌++◌, length, filter, take}
use Rattle.std.specs.Prelude.{if◌then◌else◌, Option, Some, None}
use Rattle.std.specs.Fmt.{decimal}
use Rattle.rtc_wire_text.specs.Tokens.{is_token_byte}
use Rattle.rtc_sdp_values.specs.declared.line_row.LineRow.{LineRow}
use Rattle.rtc_change.specs.declared.change.Change.{Change}
use Rattle.rtc_peer_rows.specs.Table.{has_mid}
use Rattle.rtc_change.specs.PendingOffer.{added_mids, adds_mid}
use Rattle.rtc_parts.specs.Draws.{Draws}

-- the mid of a number: m and its decimal
abbrev pub drawn_mid : ℕ → List ℕ
drawn_mid n = 109 ∷ decimal n

-- whether a row or a staged line has a mid
abbrev pub is_held : List LineRow → List Change → List ℕ → Bool
is_held rows staged mid = has_mid mid rows || adds_mid mid staged

-- the first mid counted on from a number that is not held, trying so many
unfoldable pub free_mid : (List ℕ → Bool) → ℕ → ℕ → List ℕ
free_mid held zero n = drawn_mid n
free_mid held (suc tries) n = if held (drawn_mid n) then free_mid held tries ((n + 1) % 2 ^ 32) else drawn_mid n

-- the mid of a draw that no row and no staged line has
abbrev pub next_mid : {N : Type 0} → Draws N → List LineRow → List Change → N → List ℕ
next_mid draws rows staged ids =
    free_mid (is_held rows staged) (length rows + length (added_mids staged)) (draws.drawn ids % 2 ^ 32)

-- what is kept of a name that is given: its token bytes, at most 64
abbrev pub kept_token_bytes : List ℕ → List ℕ
kept_token_bytes name = take 64 (filter is_token_byte name)

abbrev pub some_bytes : List ℕ → Option (List ℕ)
some_bytes [] = None
some_bytes (byte ∷ bytes) = Some (byte ∷ bytes)

-- a given name, if something is kept of it
abbrev pub kept_name : Option (List ℕ) → Option (List ℕ)
kept_name None = None
kept_name (Some name) = some_bytes (kept_token_bytes name)

-- the name that is given, or else one that is drawn: a prefix and a decimal
abbrev pub name_of : {N : Type 0} → Draws N → List ℕ → Option (List ℕ) → N → List ℕ
name_of draws prefix (Some name) ids = name
name_of draws prefix None ids = prefix ++ decimal (draws.drawn ids)

-- the numbers after that name
abbrev pub after_name : {N : Type 0} → Draws N → Option (List ℕ) → N → N
after_name draws (Some name) ids = ids
after_name draws None ids = draws.after ids
