-- The parts of a session description: lines up to the first `m=` line are the session part, and each `m=` line begins a line part (RFC
-- 8866, section 5).
use Rattle.std.specs.Prelude.{ℕ, ◌==◌, Bool, true, false, not, List, [], ◌∷◌, length, filter, Option, Some, None, if◌then◌else◌}
use Rattle.std.specs.List.{filter_map}
use Rattle.rtc_sdp_grammar.specs.declared.attribute.Attribute.{Attribute}
use Rattle.rtc_sdp_grammar.specs.declared.attribute.Attribute.TheVariants.{MidLine}
use Rattle.rtc_sdp_grammar.specs.declared.item.Item.{Item}
use Rattle.rtc_sdp_grammar.specs.declared.item.Item.TheVariants.{BadMedia, Media, Says, Malformed}
use Rattle.rtc_sdp_grammar.specs.declared.level.Level.{Level}
use Rattle.rtc_sdp_grammar.specs.declared.level.Level.TheVariants.{SessionLevel, MediaLevel, AnyLevel}
use Rattle.rtc_sdp_grammar.specs.declared.strict.Strict.{Strict}
use Rattle.rtc_sdp_grammar.specs.declared.strict.Strict.TheVariants.{Mid}

-- the lines in front of the next `m=` line, well formed or not
abbrev pub inner : List Item → List Item
inner [] = []
inner (Media head ∷ rest) = []
inner (BadMedia ∷ rest) = []
inner (item ∷ rest) = item ∷ inner rest

-- whether an attribute of a level counts, in a line part or in the session part
abbrev pub counts : Level → Bool → Bool
counts SessionLevel in_line = not in_line
counts MediaLevel in_line = in_line
counts AnyLevel in_line = true

abbrev pub attribute_here : Bool → Item → Option Attribute
attribute_here in_line (Says level attribute) = if counts level in_line then Some attribute else None
attribute_here in_line _ = None

-- the attributes that count in the part that continues with these lines
abbrev pub attributes : Bool → List Item → List Attribute
attributes in_line items = filter_map (attribute_here in_line) (inner items)

-- ---- `mid` lines, well formed or not
abbrev pub names_line : Attribute → Bool
names_line (MidLine mid) = true
names_line _ = false

abbrev pub is_mid_fault : Strict → Bool
is_mid_fault Mid = true
is_mid_fault _ = false

abbrev pub is_mid_line : Item → Bool
is_mid_line (Says level attribute) = names_line attribute
is_mid_line (Malformed level what) = is_mid_fault what
is_mid_line _ = false

-- how many are in front of the next `m=` line
abbrev pub mid_lines : List Item → ℕ
mid_lines after = length (filter is_mid_line (inner after))

abbrev pub has_one_mid : List Item → Bool
has_one_mid after = mid_lines after == 1
