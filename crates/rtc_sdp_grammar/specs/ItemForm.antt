-- What one line says by itself: a lower-case letter, `=` and a value (RFC 8866, section 5).
use Rattle.std.specs.Prelude.{ℕ, ◌==◌, Bool, ◌&&◌, List, [], ◌∷◌, length, map, Option, Some, None, if◌then◌else◌, codes}
use Rattle.std.specs.List.{list_all}
use Rattle.std.specs.Char.{is_ascii_lowercase}
use Rattle.std.specs.Str.{bytes_eq}
use Rattle.rtc_wire_text.specs.Cuts.{cut}
use Rattle.rtc_wire_text.specs.Lines.{lines}
use Rattle.rtc_wire_text.specs.Words.{words}
use Rattle.rtc_wire_text.specs.Numbers.{number}
use Rattle.rtc_sdp_attributes.specs.Forms.{is_filled, COLON, EQUALS}
use Rattle.rtc_sdp_grammar.specs.MediaForm.{media}
use Rattle.rtc_sdp_grammar.specs.Table.{attribute_item}
use Rattle.rtc_sdp_grammar.specs.declared.item.Item.{Item}
use Rattle.rtc_sdp_grammar.specs.declared.item.Item.TheVariants.{Blank, Bad, Skipped, Version, Origin}

-- ---- v=0 (RFC 8866, section 5.1)
abbrev pub version : List ℕ → Item
version value = if bytes_eq value (codes "0") then Version else Skipped

-- ---- o=: six words, of which the second is the session's number (RFC 8866, section 5.2)
abbrev pub origin_number : Option ℕ → Item
origin_number None = Skipped
origin_number (Some id) = Origin id

abbrev pub origin_words : List (List ℕ) → Item
origin_words (user ∷ id ∷ version ∷ network ∷ family ∷ address ∷ []) =
    if list_all is_filled (user ∷ version ∷ network ∷ family ∷ address ∷ []) then origin_number (number id) else Skipped
origin_words _ = Skipped

abbrev pub origin : List ℕ → Item
origin value = origin_words (words value)

-- ---- a=NAME and a=NAME:VALUE: the first colon ends the name (RFC 8866, section 5.13)
abbrev pub attribute_parts : List ℕ → Option (List ℕ × List ℕ) → Item
attribute_parts name None = attribute_item name None
attribute_parts name (Some parts) = attribute_item parts.0 (Some parts.1)

abbrev pub attribute : List ℕ → Item
attribute value = attribute_parts value (cut COLON value)

-- ---- a line by its letter
abbrev pub is_letter : List ℕ → Bool
is_letter name = length name == 1 && list_all is_ascii_lowercase name

abbrev pub lettered : List ℕ → List ℕ → Item
lettered name value =
    if bytes_eq name (codes "v") then version value
    else if bytes_eq name (codes "o") then origin value
    else if bytes_eq name (codes "m") then media value
    else if bytes_eq name (codes "a") then attribute value
    else if is_letter name then Skipped
    else Bad

abbrev pub line_parts : Option (List ℕ × List ℕ) → Item
line_parts None = Bad
line_parts (Some parts) = lettered parts.0 parts.1

-- what a line says
unfoldable pub item_of : List ℕ → Item
item_of [] = Blank
item_of (byte ∷ rest) = line_parts (cut EQUALS (byte ∷ rest))

-- what the lines of a text say, one by one
abbrev pub items_of : List ℕ → List Item
items_of text = map item_of (lines text)
