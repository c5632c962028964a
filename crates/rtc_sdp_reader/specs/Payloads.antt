-- The formats of a media line, from its list of payload types and its `rtpmap` and `fmtp` attributes.
use Rattle.std.specs.Prelude.{ℕ, ◌==◌, Bool, true, false, not, ◌||◌, List, [], map, Option, Some, None, option_map, if◌then◌else◌, codes}
use Rattle.std.specs.List.{filter_map}
use Rattle.std.specs.Str.{bytes_eq}
use Rattle.rtc_wire_text.specs.Fields.{first}
use Rattle.rtc_wire_text.specs.LetterCase.{lower}
use Rattle.rtc_sdp_values.specs.declared.pt.Pt.{Pt}
use Rattle.rtc_sdp_values.specs.declared.payload_row.PayloadRow.{PayloadRow}
use Rattle.rtc_sdp_attributes.specs.declared.fmtp.Fmtp.{Fmtp}
use Rattle.rtc_sdp_attributes.specs.declared.rtpmap.Rtpmap.{Rtpmap}
use Rattle.rtc_sdp_attributes.specs.AttributeForms.{apt, red_primary}
use Rattle.rtc_sdp_reader.specs.declared.link.Link.{Link}

-- ---- what a payload type is: the first `rtpmap` and the first `fmtp` of its number count

pub record PayloadEntry : Type 0 where
  pub codec : Rtpmap
  pub fmtp : List ℕ

abbrev pub codec_for : ℕ → Rtpmap → Option Rtpmap
codec_for pt codec = if codec.pt.0 == pt then Some codec else None

abbrev pub parameters_for : ℕ → Fmtp → Option Fmtp
parameters_for pt fmtp = if fmtp.pt.0 == pt then Some fmtp else None

abbrev pub fmtp_text_for : ℕ → Fmtp → Option (List ℕ)
fmtp_text_for pt fmtp = if fmtp.pt.0 == pt then Some fmtp.text else None

abbrev pub or_empty : Option (List ℕ) → List ℕ
or_empty None = []
or_empty (Some text) = text

abbrev pub fmtp_for : List Fmtp → ℕ → List ℕ
fmtp_for fmtps pt = or_empty (first (fmtp_text_for pt) fmtps)

abbrev pub entry_of : List Rtpmap → List Fmtp → ℕ → Option PayloadEntry
entry_of codecs fmtps pt = option_map (λ codec. record { codec = codec; fmtp = fmtp_for fmtps pt }) (first (codec_for pt) codecs)

-- the payload types of the list that have a codec, in its order
abbrev pub entries : List ℕ → List Rtpmap → List Fmtp → List PayloadEntry
entries formats codecs fmtps = filter_map (entry_of codecs fmtps) formats

-- ---- what a payload type serves: rtx names its primary by `apt` (RFC 4588, section 8.1), red by its first number (RFC 2198, section 5)

-- the codec has this name, in letters of either case
abbrev pub is_codec_named : List ℕ → List ℕ → Bool
is_codec_named codec name = bytes_eq (lower codec) name

abbrev pub is_rtx_codec : List ℕ → Bool
is_rtx_codec codec = is_codec_named codec (codes "rtx")

abbrev pub is_red : List ℕ → Bool
is_red codec = is_codec_named codec (codes "red")

abbrev pub link : ℕ → Option ℕ → Option ℕ → Link
link pt rtx_of red_of = record { pt = pt; rtx_of = rtx_of; red_of = red_of }

abbrev pub link_of : PayloadEntry → Link
link_of entry =
    if is_rtx_codec entry.codec.codec then link entry.codec.pt.0 (apt entry.fmtp) None
    else if is_red entry.codec.codec then link entry.codec.pt.0 None (red_primary entry.fmtp)
    else link entry.codec.pt.0 None None

abbrev pub serves : ℕ → Option ℕ → Bool
serves pt None = false
serves pt (Some primary) = primary == pt

abbrev pub served_by : Bool → ℕ → Option Pt
served_by true number = Some (record { 0 = number })
served_by false number = None

-- the first retransmission of a payload type, and the first of its redundant packets
abbrev pub rtx_among : ℕ → List Link → Option Pt
rtx_among pt = first (λ l. served_by (serves pt l.rtx_of) l.pt)

abbrev pub red_among : ℕ → List Link → Option Pt
red_among pt = first (λ l. served_by (serves pt l.red_of) l.pt)

-- ---- the rows: rtx and red are in the fields of their primary, and have no row of their own

abbrev pub is_primary : List ℕ → Bool
is_primary codec = not (is_rtx_codec codec || is_red codec)

abbrev pub row_made : List Link → Rtpmap → List ℕ → PayloadRow
row_made links codec fmtp = record {
  pt = codec.pt;
  rtx = rtx_among codec.pt.0 links;
  red = red_among codec.pt.0 links;
  codec = codec.codec;
  clock = codec.clock;
  channels = codec.channels;
  fmtp = fmtp;
}

abbrev pub payload_row_of : List Link → PayloadEntry → Option PayloadRow
payload_row_of links entry = if is_primary entry.codec.codec then Some (row_made links entry.codec entry.fmtp) else None

abbrev pub rows_of : List PayloadEntry → List PayloadRow
rows_of all = filter_map (payload_row_of (map link_of all)) all

unfoldable pub payload_rows : List ℕ → List Rtpmap → List Fmtp → List PayloadRow
payload_rows formats codecs fmtps = rows_of (entries formats codecs fmtps)
