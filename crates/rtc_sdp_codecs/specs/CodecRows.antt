-- The codecs and header extensions of a configuration, and what a setting leaves of them.
use Rattle.std.specs.Prelude.{ℕ, ◌==◌, Bool, not, if◌then◌else◌, List, [], ◌∷◌, ◌++◌, filter}
use Rattle.std.specs.Str.{bytes_eq}
use Rattle.std.specs.List.{list_any}
use Rattle.rtc_wire_text.specs.LetterCase.{lower}
use Rattle.rtc_sdp_values.specs.declared.codec_config.CodecConfig.{CodecConfig}
use Rattle.rtc_sdp_values.specs.declared.extension.Extension.{Extension}
use Rattle.rtc_sdp_values.specs.declared.extension_map.ExtensionMap.{ExtensionMap}
use Rattle.rtc_sdp_values.specs.declared.payload_row.PayloadRow.{PayloadRow}
use Rattle.rtc_sdp_codecs.specs.Codec.{default_rows}

-- whether a row is of the codec of a name, the case of letters aside (RFC 6838, section 4.2)
abbrev pub is_of_codec : List ℕ → PayloadRow → Bool
is_of_codec codec row = bytes_eq (lower row.codec) (lower codec)

-- the rows of other codecs
abbrev pub without_codec : List ℕ → List PayloadRow → List PayloadRow
without_codec codec = filter (λ row. not (is_of_codec codec row))

-- an enabled row becomes the last one, in place of those of its codec; if it is disabled, those of its codec are removed
abbrev pub rows_with : PayloadRow → Bool → List PayloadRow → List PayloadRow
rows_with row on rows = without_codec row.codec rows ++ (if on then row ∷ [] else [])

abbrev pub codecs_with : PayloadRow → Bool → CodecConfig → CodecConfig
codecs_with row on codecs = record codecs { rows = rows_with row on codecs.rows }

-- the codecs if nothing is set; redundant packets repeat the packet before them
abbrev pub default_codecs : CodecConfig
default_codecs = record { rows = default_rows; red_distances = 1 ∷ [] }

-- those of the distances that are listed
abbrev pub listed_distances : List ℕ → List ℕ → List ℕ
listed_distances listed = filter (λ distance. list_any (λ other. other == distance) listed)

-- the packet before is always repeated, and of those from 2 to 10 back the listed ones, each once, in ascending order (RFC 2198)
abbrev pub repeated_distances : List ℕ → List ℕ
repeated_distances listed = 1 ∷ listed_distances listed (2 ∷ 3 ∷ 4 ∷ 5 ∷ 6 ∷ 7 ∷ 8 ∷ 9 ∷ 10 ∷ [])

-- an extension becomes the last one, in place of that of its number (RFC 8285, section 4.2)
abbrev pub extensions_with : ℕ → Extension → ExtensionMap → ExtensionMap
extensions_with id extension map = record { rows = filter (λ row. not (row.0 == id)) map.rows ++ (id, extension) ∷ [] }
