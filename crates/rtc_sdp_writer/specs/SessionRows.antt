-- The text of a value. A group of the session is not written as it is: the group names the lines with a port.
use Rattle.std.specs.Prelude.{ℕ, Bool, true, false, not, List, [], ◌∷◌, ◌++◌, map, filter, Option, Some, None, if◌then◌else◌, codes}
use Rattle.std.specs.List.{list_any}
use Rattle.std.specs.Str.{bytes_eq}
use Rattle.rtc_wire_text.specs.Lines.{text_of}
use Rattle.rtc_sdp_values.specs.declared.msid.Msid.{Msid}
use Rattle.rtc_sdp_values.specs.declared.media_line.MediaLine.{MediaLine}
use Rattle.rtc_sdp_values.specs.declared.sdp.Sdp.{Sdp}
use Rattle.rtc_sdp_grammar.specs.LineTexts.{origin_line, group_line}
use Rattle.rtc_sdp_grammar.specs.MediaTexts.{semantic_line}
use Rattle.rtc_sdp_writer.specs.Rows.{in_order, single}
use Rattle.rtc_sdp_writer.specs.MediaRows.{shown_stream}
use Rattle.rtc_sdp_writer.specs.LineRows.{all_line_rows}

-- the mids of lines that are not disabled, in order
abbrev pub enabled_mids : List MediaLine → List (List ℕ)
enabled_mids lines = map (λ line. line.mid) (filter (λ line. not line.disabled) lines)

-- ---- the names of the streams of lines that are not disabled
abbrev pub is_stream : List ℕ → Option Msid → Bool
is_stream name None = false
is_stream name (Some msid) = bytes_eq msid.stream_id name

-- the name, unless a line in front has it
abbrev pub new_name : List MediaLine → Option Msid → List (List ℕ)
new_name front None = []
new_name front (Some msid) = if list_any (λ line. is_stream msid.stream_id (shown_stream line)) front then [] else msid.stream_id ∷ []

abbrev pub names_behind : List MediaLine → List MediaLine → List (List ℕ)
names_behind front [] = []
names_behind front (line ∷ rest) = new_name front (shown_stream line) ++ names_behind (front ++ line ∷ []) rest

-- each once, in order
abbrev pub stream_names : List MediaLine → List (List ℕ)
stream_names lines = names_behind [] lines

-- ---- the lines of the session part behind the `o=` line
abbrev pub lite_lines : Bool → List (List ℕ)
lite_lines true = single (codes "a=ice-lite")
lite_lines false = []

unfoldable pub session_groups : Sdp → List (List (List ℕ))
session_groups sdp =
    single (codes "s=-")
    ∷ (single (codes "t=0 0")
    ∷ (single (group_line (enabled_mids sdp.lines))
    ∷ (single (codes "a=extmap-allow-mixed")
    ∷ (single (semantic_line (stream_names sdp.lines))
    ∷ (lite_lines sdp.ice_lite
    ∷ [])))))

-- the lines of the session part
abbrev pub session_rows : Sdp → List (List ℕ)
session_rows sdp = codes "v=0" ∷ (origin_line sdp.id ∷ in_order (session_groups sdp))

-- the lines of a text
abbrev pub sdp_rows : Sdp → List (List ℕ)
sdp_rows sdp = codes "v=0" ∷ (origin_line sdp.id ∷ (in_order (session_groups sdp) ++ all_line_rows sdp.lines))

-- the text of a value: each line ends with CR and LF
unfoldable pub written_sdp : Sdp → List ℕ
written_sdp sdp = text_of (sdp_rows sdp)
