-- The line that begins a line part: m=KIND PORT PROTO FORMATS (RFC 8866, section 5.14; the protocols are our profile's).
use Rattle.std.specs.Prelude.{ℕ, ◌==◌, Bool, ◌&&◌, ◌||◌, eqb, List, [], ◌∷◌, Option, Some, None, if◌then◌else◌, codes}
use Rattle.std.specs.List.{list_all}
use Rattle.std.specs.Str.{bytes_eq}
use Rattle.rtc_wire_text.specs.Cuts.{cut}
use Rattle.rtc_wire_text.specs.Fields.{each}
use Rattle.rtc_wire_text.specs.Words.{words}
use Rattle.rtc_wire_text.specs.Tokens.{is_token}
use Rattle.rtc_wire_text.specs.Numbers.{is_numeral, number_up_to}
use Rattle.rtc_sdp_attributes.specs.Forms.{is_filled, SLASH}
use Rattle.rtc_sdp_values.specs.declared.line_kind.LineKind.{LineKind}
use Rattle.rtc_sdp_values.specs.declared.line_kind.LineKind.TheVariants.{Audio, Video, Application, Unknown}
use Rattle.rtc_wire_text.specs.Once.{each_once}
use Rattle.rtc_sdp_grammar.specs.declared.item.Item.{Item}
use Rattle.rtc_sdp_grammar.specs.declared.item.Item.TheVariants.{BadMedia, Media}

-- ---- KIND: a token, of which three are known
abbrev pub line_kind_of : List ℕ → LineKind
line_kind_of word =
    if bytes_eq word (codes "audio") then Audio
    else if bytes_eq word (codes "video") then Video
    else if bytes_eq word (codes "application") then Application
    else Unknown

-- ---- PORT: digits up to 65535, and maybe a slash and digits
abbrev pub port_parts : List ℕ → Option (List ℕ × List ℕ) → Option ℕ
port_parts word None = number_up_to 65535 word
port_parts word (Some parts) = if is_numeral parts.1 then number_up_to 65535 parts.0 else None

abbrev pub port_of : List ℕ → Option ℕ
port_of word = port_parts word (cut SLASH word)

-- ---- PROTO and FORMATS, by kind
abbrev pub head : LineKind → Bool → List ℕ → Item
head kind disabled formats = Media (record { kind = kind; disabled = disabled; formats = formats })

abbrev pub with_numbers : LineKind → Bool → Option (List ℕ) → Item
with_numbers kind disabled None = BadMedia
with_numbers kind disabled (Some numbers) = head kind disabled (each_once eqb numbers)

-- audio and video: each format is a number up to 127, and one that is repeated is skipped
abbrev pub media_of : LineKind → Bool → List ℕ → List (List ℕ) → Item
media_of kind disabled protocol formats =
    if bytes_eq protocol (codes "UDP/TLS/RTP/SAVPF") then with_numbers kind disabled (each (number_up_to 127) formats) else BadMedia

abbrev pub is_channel_protocol : List ℕ → Bool
is_channel_protocol protocol =
    bytes_eq protocol (codes "UDP/DTLS/SCTP") || bytes_eq protocol (codes "TCP/DTLS/SCTP") || bytes_eq protocol (codes "DTLS/SCTP")

-- the m-line of data channels: the formats are any tokens
abbrev pub application_of : Bool → List ℕ → List (List ℕ) → Item
application_of disabled protocol formats =
    if is_channel_protocol protocol && list_all is_token formats then head Application disabled [] else BadMedia

-- other kinds: neither is looked at
abbrev pub unknown_of : Bool → List ℕ → List (List ℕ) → Item
unknown_of disabled protocol formats =
    if is_filled protocol && list_all is_filled formats then head Unknown disabled [] else BadMedia

abbrev pub of_kind : LineKind → Bool → List ℕ → List (List ℕ) → Item
of_kind Audio = media_of Audio
of_kind Video = media_of Video
of_kind Application = application_of
of_kind Unknown = unknown_of

abbrev pub at_port : List ℕ → Option ℕ → List ℕ → List (List ℕ) → Item
at_port kind None protocol formats = BadMedia
at_port kind (Some port) protocol formats = if is_token kind then of_kind (line_kind_of kind) (port == 0) protocol formats else BadMedia

abbrev pub media_words : List (List ℕ) → Item
media_words (kind ∷ port ∷ protocol ∷ formats) = at_port kind (port_of port) protocol formats
media_words _ = BadMedia

-- what an `m=` line says: words parted by single spaces, none of them empty; one without this form is an `m=` line too
abbrev pub media : List ℕ → Item
media value = media_words (words value)
