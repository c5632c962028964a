-- What the lines of a text say.
use Rattle.std.proofs.Common.{◌≤◌, ℕ, Bool, true, false, ◌&&◌, cond, eqb, List, [], ◌∷◌, map, Option, Some, None}
use Rattle.std.specs.Prelude.{codes, IfSome}
use Rattle.std.specs.List.{AllByRecursion, list_all}
use Rattle.std.specs.Str.{bytes_eq}
use Rattle.rtc_wire_text.specs.Cuts.{cut, Lacks}
use Rattle.rtc_wire_text.specs.Fields.{each}
use Rattle.rtc_wire_text.specs.Lines.{lines}
use Rattle.rtc_wire_text.specs.Numbers.{number, number_up_to}
use Rattle.rtc_wire_text.specs.Tokens.{is_token}
use Rattle.rtc_wire_text.specs.Words.{words}
use Rattle.rtc_sdp_values.specs.declared.line_kind.LineKind.{LineKind}
use Rattle.rtc_sdp_values.specs.declared.line_kind.LineKind.TheVariants.{Audio, Video, Application, Unknown}
use Rattle.rtc_sdp_attributes.specs.Forms.{is_filled}
use Rattle.rtc_sdp_grammar.specs.declared.item.Item.TheVariants.{Bad, BadMedia, Skipped, Version, Media}
use Rattle.rtc_sdp_grammar.specs.MediaForm.{line_kind_of, port_of, with_numbers, media_of, is_channel_protocol, of_kind, at_port, media_words, media}
use Rattle.rtc_sdp_grammar.specs.ItemForm.{version, origin_number, origin_words, origin, attribute_parts, attribute as attribute_line, is_letter, lettered, line_parts, item_of, items_of}
use Rattle.rtc_sdp_writer.proofs.Lacking.{CutLacks, cut_lacks, lines_lack}
use Rattle.rtc_sdp_writer.proofs.ReadForms.{at_most_is, each_gives, all_units}
use Rattle.rtc_sdp_writer.proofs.ReadLayers.{once_all, once_apart}
use Rattle.rtc_sdp_writer.proofs.ReadTable.{IsItemRead, attribute_read}

-- ---- lines
attribute_line_read : (value : List ℕ) → Lacks 10 value → IsItemRead (attribute_line value)
attribute_line_read value lacks = by (cut 58 value) (cut_lacks 58 value)
  where
    by : (found : Option (List ℕ × List ℕ)) → CutLacks 58 value found → IsItemRead (attribute_parts value found)
    by None h = attribute_read value None tt
    by (Some halves) h = attribute_read halves.0 (Some halves.1) (h.behinds 10 lacks)

version_read : (value : List ℕ) → IsItemRead (version value)
version_read value = by (bytes_eq value (codes "0"))
  where
    by : (b : Bool) → IsItemRead (cond b Version Skipped)
    by true = tt
    by false = tt

number_read : (found : Option ℕ) → IsItemRead (origin_number found)
number_read None = tt
number_read (Some id) = tt

origin_read : (fields : List (List ℕ)) → IsItemRead (origin_words fields)
origin_read [] = tt
origin_read (a ∷ []) = tt
origin_read (a ∷ b ∷ []) = tt
origin_read (a ∷ b ∷ c ∷ []) = tt
origin_read (a ∷ b ∷ c ∷ d ∷ []) = tt
origin_read (a ∷ b ∷ c ∷ d ∷ e ∷ []) = tt
origin_read (a ∷ b ∷ c ∷ d ∷ e ∷ f ∷ []) = by (list_all is_filled (a ∷ c ∷ d ∷ e ∷ f ∷ []))
  where
    by : (t : Bool) → IsItemRead (cond t (origin_number (number b)) Skipped)
    by true = number_read (number b)
    by false = tt
origin_read (a ∷ b ∷ c ∷ d ∷ e ∷ f ∷ g ∷ more) = tt

numbers_read : (kind : LineKind) (disabled : Bool) (formats : List (List ℕ)) → IsItemRead (with_numbers kind disabled (each (number_up_to 127) formats))
numbers_read kind disabled formats =
    by (each (number_up_to 127) formats)
    (each_gives (number_up_to 127) (λ w. Unit {0}) (λ n. n ≤ 127) (λ field u. at_most_is 127 (number field)) formats (all_units formats))
  where
    by : (found : Option (List ℕ)) → IfSome found (AllByRecursion (λ n. n ≤ 127)) → IsItemRead (with_numbers kind disabled found)
    by None h = tt
    by (Some numbers) h = (once_all eqb (λ n. n ≤ 127) numbers h, once_apart eqb numbers)

media_of_read : (kind : LineKind) (disabled : Bool) (protocol : List ℕ) (formats : List (List ℕ)) → IsItemRead (media_of kind disabled protocol formats)
media_of_read kind disabled protocol formats = by (bytes_eq protocol (codes "UDP/TLS/RTP/SAVPF"))
  where
    by : (b : Bool) → IsItemRead (cond b (with_numbers kind disabled (each (number_up_to 127) formats)) BadMedia)
    by true = numbers_read kind disabled formats
    by false = tt

no_formats : (b : Bool) (kind : LineKind) (disabled : Bool) → IsItemRead (cond b (Media (record { kind = kind; disabled = disabled; formats = [] })) BadMedia)
no_formats true kind disabled = (tt, tt)
no_formats false kind disabled = tt

kind_read : (kind : LineKind) (disabled : Bool) (protocol : List ℕ) (formats : List (List ℕ)) → IsItemRead (of_kind kind disabled protocol formats)
kind_read Audio disabled protocol formats = media_of_read Audio disabled protocol formats
kind_read Video disabled protocol formats = media_of_read Video disabled protocol formats
kind_read Application disabled protocol formats = no_formats (is_channel_protocol protocol && list_all is_token formats) Application disabled
kind_read Unknown disabled protocol formats = no_formats (is_filled protocol && list_all is_filled formats) Unknown disabled

port_read : (kind : List ℕ) (port : Option ℕ) (protocol : List ℕ) (formats : List (List ℕ)) → IsItemRead (at_port kind port protocol formats)
port_read kind None protocol formats = tt
port_read kind (Some port) protocol formats = by (is_token kind)
  where
    by : (b : Bool) → IsItemRead (cond b (of_kind (line_kind_of kind) (eqb port 0) protocol formats) BadMedia)
    by true = kind_read (line_kind_of kind) (eqb port 0) protocol formats
    by false = tt

media_read : (fields : List (List ℕ)) → IsItemRead (media_words fields)
media_read [] = tt
media_read (a ∷ []) = tt
media_read (a ∷ b ∷ []) = tt
media_read (kind ∷ port ∷ protocol ∷ formats) = port_read kind (port_of port) protocol formats

lettered_read : (name value : List ℕ) → Lacks 10 value → IsItemRead (lettered name value)
lettered_read name value lacks =
    by (bytes_eq name (codes "v")) (bytes_eq name (codes "o")) (bytes_eq name (codes "m")) (bytes_eq name (codes "a")) (is_letter name)
  where
    by : (v o m a l : Bool)
        → IsItemRead (cond v (version value) (cond o (origin value) (cond m (media value) (cond a (attribute_line value) (cond l Skipped Bad)))))
    by true o m a l = version_read value
    by false true m a l = origin_read (words value)
    by false false true a l = media_read (words value)
    by false false false true l = attribute_line_read value lacks
    by false false false false true = tt
    by false false false false false = tt

line_read : (line : List ℕ) → Lacks 10 line → IsItemRead (item_of line)
unfolding item_of
line_read [] lacks = tt
line_read (b ∷ bs) lacks = by (cut 61 (b ∷ bs)) (cut_lacks 61 (b ∷ bs))
  where
    by : (found : Option (List ℕ × List ℕ)) → CutLacks 61 (b ∷ bs) found → IsItemRead (line_parts found)
    by None h = tt
    by (Some halves) h = lettered_read halves.0 halves.1 (h.behinds 10 lacks)

lines_read : (rows : List (List ℕ)) → AllByRecursion (λ line. Lacks 10 line) rows → AllByRecursion IsItemRead (map item_of rows)
lines_read [] h = tt
lines_read (row ∷ rows) h = (line_read row h.0, lines_read rows h.1)

-- what the lines of any text say
pub items_read : (text : List ℕ) → AllByRecursion IsItemRead (items_of text)
items_read text = lines_read (lines text) (lines_lack text)
