-- Which line refuses a text: a function of the place of the line, what it says, and the lines behind it.
use Rattle.std.specs.Prelude.{ℕ, ◌+◌, ◌-◌, ◌^◌, min, Bool, true, false, not, List, [], ◌∷◌, Option, Some, None, if◌then◌else◌}
use Rattle.rtc_sdp_grammar.specs.declared.item.Item.{Item}
use Rattle.rtc_sdp_grammar.specs.declared.item.Item.TheVariants.{Blank, Bad, BadMedia, Version, Origin, Media, Malformed}
use Rattle.rtc_sdp_reader.specs.declared.place.Place.{Place}
use Rattle.rtc_sdp_reader.specs.declared.place.Place.TheVariants.{First, Second, Session, Line}
use Rattle.rtc_sdp_reader.specs.Parting.{counts, has_one_mid}

-- ---- one line
-- the first line that is not empty is `v=0`
abbrev pub is_refused_first : Item → Bool
is_refused_first Blank = false
is_refused_first Version = false
is_refused_first _ = true

-- the second is an `o=` line
abbrev pub is_refused_second : Item → Bool
is_refused_second Blank = false
is_refused_second (Origin id) = false
is_refused_second _ = true

-- later ones have a form, and a line part has one `mid` line
abbrev pub is_refused_later : Bool → Item → List Item → Bool
is_refused_later in_line Bad after = true
is_refused_later in_line BadMedia after = true
is_refused_later in_line (Media head) after = not (has_one_mid after)
is_refused_later in_line (Malformed level what) after = counts level in_line
is_refused_later in_line _ after = false

-- whether a line is refused at its place, with the lines `after` behind it
abbrev pub is_refused : Place → Item → List Item → Bool
is_refused First item after = is_refused_first item
is_refused Second item after = is_refused_second item
is_refused Session item after = is_refused_later false item after
is_refused Line item after = is_refused_later true item after

-- the place of the line behind it
abbrev pub next : Place → Item → Place
next First Version = Second
next Second (Origin id) = Session
next Session (Media head) = Line
next Session BadMedia = Line
next place _ = place

-- whether a text may end at a place: its first two lines are there
abbrev pub is_short : Place → Bool
is_short First = true
is_short Second = true
is_short Session = false
is_short Line = false

-- ---- the text
-- numbers of lines stop at the greatest of 32 bits
abbrev pub next_number : ℕ → ℕ
next_number n = min (n + 1) (2 ^ 32 - 1)

-- the number of the first refused line, if the line in front has number `n`
abbrev pub refused_from : Place → ℕ → List Item → Option ℕ
refused_from place n [] = if is_short place then Some (next_number n) else None
refused_from place n (item ∷ rest) =
    if is_refused place item rest then Some (next_number n) else refused_from (next place item) (next_number n) rest

-- the number of the first refused line, from 1; a text without its first two lines is refused behind its last
abbrev pub refused : List Item → Option ℕ
refused items = refused_from First 0 items
