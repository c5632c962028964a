-- The codecs that a configuration can enable: the row of each, and those that are enabled by default.
use Rattle.std.specs.Prelude.{ℕ, Bool, true, false, if◌then◌else◌, List, [], ◌∷◌, filter, map, Option, Some, None, option_map, codes}
use Rattle.rtc_sdp_values.specs.declared.payload_row.PayloadRow.{PayloadRow}
use Rattle.rtc_sdp_codecs.specs.declared.codec.Codec.{Codec}
use Rattle.rtc_sdp_codecs.specs.declared.codec.Codec.TheVariants.{
  Opus,
  Pcmu,
  Pcma,
  G722,
  ComfortNoise,
  AmrWb,
  Vp8,
  H264,
  H265,
  H266,
  Vp9,
  Av1,
}

-- a row of the table: name, payload types (its own, of retransmissions, of redundant packets), ticks a second, channels, parameters
abbrev pub table_row : List ℕ → ℕ → Option ℕ → Option ℕ → ℕ → ℕ → List ℕ → PayloadRow
table_row codec pt rtx red clock channels fmtp = record {
  pt = record { 0 = pt };
  rtx = option_map (λ n. record { 0 = n }) rtx;
  red = option_map (λ n. record { 0 = n }) red;
  codec = codec;
  clock = clock;
  channels = channels;
  fmtp = fmtp;
}

-- the row of each codec, with its redundant packets: those of Opus by RFC 7587, section 7, of H.264 with several units a packet
abbrev pub full_row : Codec → PayloadRow
full_row Opus = table_row (codes "opus") 111 None (Some 63) 48000 2 (codes "minptime=10;useinbandfec=1")
full_row Pcmu = table_row (codes "PCMU") 0 None (Some 62) 8000 1 []
full_row Pcma = table_row (codes "PCMA") 8 None (Some 61) 8000 1 []
full_row G722 = table_row (codes "G722") 9 None (Some 60) 8000 1 []
full_row ComfortNoise = table_row (codes "CN") 13 None None 8000 1 []
full_row AmrWb = table_row (codes "AMR-WB") 114 None None 16000 1 []
full_row Vp8 = table_row (codes "VP8") 96 (Some 97) None 90000 1 []
full_row H264 = table_row (codes "H264") 102 (Some 103) None 90000 1 (codes "packetization-mode=1")
full_row H265 = table_row (codes "H265") 104 (Some 105) None 90000 1 []
full_row H266 = table_row (codes "H266") 106 (Some 107) None 90000 1 []
full_row Vp9 = table_row (codes "VP9") 98 (Some 99) None 90000 1 []
full_row Av1 = table_row (codes "AV1") 45 (Some 46) None 90000 1 []

-- the codecs in the order of the table
abbrev pub all_codecs : List Codec
all_codecs =
    Opus ∷ Pcmu ∷ Pcma ∷ G722 ∷ ComfortNoise ∷ AmrWb ∷ Vp8 ∷ H264 ∷ H265 ∷ H266 ∷ Vp9 ∷ Av1 ∷ []

-- whether a codec is enabled if nothing is set
abbrev pub is_on : Codec → Bool
is_on Opus = true
is_on Pcmu = false
is_on Pcma = false
is_on G722 = false
is_on ComfortNoise = false
is_on AmrWb = false
is_on Vp8 = true
is_on H264 = true
is_on H265 = true
is_on H266 = false
is_on Vp9 = true
is_on Av1 = true

-- the row of a codec, with redundant packets (RFC 2198) or without
abbrev pub codec_row_with : Bool → Codec → PayloadRow
codec_row_with red codec = record (full_row codec) { red = if red then (full_row codec).red else None }

-- the rows that are there if nothing is set, none of them with redundant packets
abbrev pub default_rows : List PayloadRow
default_rows = map (codec_row_with false) (filter is_on all_codecs)
