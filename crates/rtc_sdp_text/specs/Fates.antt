-- What becomes of each line of a text, by the table of attributes and the place of the line.
use Rattle.std.specs.Prelude.{ℕ, eqb, Bool, true, false, List, [], ◌∷◌, ◌++◌, Option, Some, None, if◌then◌else◌, codes}
use Rattle.std.specs.List.{list_any}
use Rattle.std.specs.Str.{bytes_eq}
use Rattle.rtc_wire_text.specs.Cuts.{cut}
use Rattle.rtc_sdp_attributes.specs.Forms.{COLON, EQUALS}
use Rattle.rtc_sdp_grammar.specs.Table.{Row, table}
use Rattle.rtc_sdp_grammar.specs.declared.attribute.Attribute.{Attribute}
use Rattle.rtc_sdp_grammar.specs.declared.attribute.Attribute.TheVariants.{
  SetupLine,
  DirectionLine,
  UfragLine,
  PasswordLine,
  FingerprintLine,
  MessageSizeLine,
  SctpInitLine,
  StreamLine,
  LayerListLine,
  OtherGroup,
}
use Rattle.rtc_sdp_grammar.specs.declared.item.Item.{Item}
use Rattle.rtc_sdp_grammar.specs.declared.item.Item.TheVariants.{Bad, BadMedia, Skipped, Media, Says, Malformed as MalformedItem}
use Rattle.rtc_sdp_reader.specs.declared.place.Place.{Place}
use Rattle.rtc_sdp_reader.specs.declared.place.Place.TheVariants.{First, Second, Session, Line}
use Rattle.rtc_sdp_reader.specs.Parting.{counts}
use Rattle.rtc_sdp_text.specs.declared.cause.Cause.{Cause}
use Rattle.rtc_sdp_text.specs.declared.cause.Cause.TheVariants.{NoVersion, NoOrigin, NoForm, Malformed, NotOneMid}
use Rattle.rtc_sdp_text.specs.declared.fate.Fate.{Fate}
use Rattle.rtc_sdp_text.specs.declared.fate.Fate.TheVariants.{Frame, Kept, UnknownName, CameBefore, NotOfItsForm, NotHere}

-- ---- a line that says nothing: another line of the frame, an attribute of no row, or one that has not the form of its row
abbrev pub is_named : List Row → List ℕ → Bool
is_named rows name = list_any (λ row. bytes_eq name row.name) rows

abbrev pub unsaid : List ℕ → Fate
unsaid name = if is_named table name then NotOfItsForm else UnknownName

abbrev pub unsaid_attribute : List ℕ → Option (List ℕ × List ℕ) → Fate
unsaid_attribute value None = unsaid value
unsaid_attribute value (Some parts) = unsaid parts.0

abbrev pub lettered_fate : Option (List ℕ × List ℕ) → Fate
lettered_fate None = Frame
lettered_fate (Some parts) = if bytes_eq parts.0 (codes "a") then unsaid_attribute parts.1 (cut COLON parts.1) else Frame

abbrev pub unsaid_fate : List ℕ → Fate
unsaid_fate line = lettered_fate (cut EQUALS line)

-- ---- attributes of which the first in a part counts, by a number for each kind
abbrev pub once_number : Attribute → Option ℕ
once_number (SetupLine setup) = Some 1
once_number (DirectionLine dir) = Some 2
once_number (UfragLine ufrag) = Some 3
once_number (PasswordLine password) = Some 4
once_number (FingerprintLine fingerprint) = Some 5
once_number (MessageSizeLine size) = Some 6
once_number (SctpInitLine chunk) = Some 7
once_number (StreamLine msid) = Some 8
once_number (LayerListLine list) = Some 9
once_number _ = None

-- the number is among those that were seen
abbrev pub did_come : List ℕ → Option ℕ → Bool
did_come came None = false
did_come came (Some number) = list_any (eqb number) came

abbrev pub counted_fate : List ℕ → Attribute → Fate
counted_fate came OtherGroup = UnknownName
counted_fate came attribute = if did_come came (once_number attribute) then CameBefore else Kept

-- ---- a line that does not refuse the text, behind lines of its part that said `came`
abbrev pub is_in_line : Place → Bool
is_in_line Line = true
is_in_line _ = false

abbrev pub item_fate : Place → List ℕ → List ℕ → Item → Fate
item_fate place came line Skipped = unsaid_fate line
item_fate place came line (Says level attribute) = if counts level (is_in_line place) then counted_fate came attribute else NotHere
item_fate place came line (MalformedItem level what) = NotHere
item_fate place came line _ = Frame

-- ---- the line that refuses the text
abbrev pub later_cause : Item → Cause
later_cause Bad = NoForm
later_cause (Media head) = NotOneMid
later_cause _ = Malformed

abbrev pub cause : Place → Item → Cause
cause First item = NoVersion
cause Second item = NoOrigin
cause Session item = later_cause item
cause Line item = later_cause item

-- ---- what was seen in a part, with a line of it
abbrev pub with_kind_number : List ℕ → Option ℕ → List ℕ
with_kind_number came None = came
with_kind_number came (Some number) = came ++ number ∷ []

abbrev pub came_with : Place → List ℕ → Item → List ℕ
came_with place came (Media head) = []
came_with place came BadMedia = []
came_with place came (Says level attribute) =
    if counts level (is_in_line place) then with_kind_number came (once_number attribute) else came
came_with place came _ = came
