-- Rows of examples, computed: what is enabled by default, what settings leave, and what lines have.
use Rattle.std.proofs.Common.{◌≡◌, true, false, List, [], ◌∷◌, map, Some, None, codes, refl}
use Rattle.rtc_sdp_values.specs.ExtensionMap.{standard_rows}
use Rattle.rtc_sdp_values.specs.declared.extension.Extension.TheVariants.{AudioLevel, RtpMid}
use Rattle.rtc_sdp_values.specs.declared.media_kind.MediaKind.TheVariants.{Audio, Video}
use Rattle.rtc_sdp_values.specs.declared.payload_row.PayloadRow.{PayloadRow}
use Rattle.rtc_sdp_codecs.specs.Codec.{table_row, full_row, codec_row_with, default_rows}
use Rattle.rtc_sdp_codecs.specs.CodecRows.{rows_with, repeated_distances}
use Rattle.rtc_sdp_codecs.specs.LineFormats.{rows_of_kind, matched_rows, extensions_of_kind, shared_extensions}
use Rattle.rtc_sdp_codecs.specs.declared.codec.Codec.TheVariants.{Opus, Pcmu, Vp8, H264}

-- ---- the defaults
six_by_default : default_rows ≡
    table_row (codes "opus") 111 None None 48000 2 (codes "minptime=10;useinbandfec=1")
    ∷ table_row (codes "VP8") 96 (Some 97) None 90000 1 []
    ∷ table_row (codes "H264") 102 (Some 103) None 90000 1 (codes "packetization-mode=1")
    ∷ table_row (codes "H265") 104 (Some 105) None 90000 1 []
    ∷ table_row (codes "VP9") 98 (Some 99) None 90000 1 []
    ∷ table_row (codes "AV1") 45 (Some 46) None 90000 1 []
    ∷ []
six_by_default = refl

-- ---- settings
enabled_goes_last : map (λ row. row.pt.0) (rows_with (codec_row_with true Opus) true default_rows) ≡ 96 ∷ 102 ∷ 104 ∷ 98 ∷ 45 ∷ 111 ∷ []
enabled_goes_last = refl

disabled_goes : map (λ row. row.pt.0) (rows_with (codec_row_with false H264) false default_rows) ≡ 111 ∷ 96 ∷ 104 ∷ 98 ∷ 45 ∷ []
disabled_goes = refl

first_row_of_all : rows_with (codec_row_with true Pcmu) true [] ≡ table_row (codes "PCMU") 0 None (Some 62) 8000 1 [] ∷ []
first_row_of_all = refl

distances_in_order : repeated_distances (10 ∷ 11 ∷ 0 ∷ 3 ∷ 3 ∷ []) ≡ 1 ∷ 3 ∷ 10 ∷ []
distances_in_order = refl

no_distance : repeated_distances [] ≡ 1 ∷ []
no_distance = refl

-- ---- lines that this side adds
audio_by_default : map (λ row. row.pt.0) (rows_of_kind Audio default_rows) ≡ 111 ∷ []
audio_by_default = refl

video_by_default : map (λ row. row.pt.0) (rows_of_kind Video default_rows) ≡ 96 ∷ 102 ∷ 104 ∷ 98 ∷ 45 ∷ []
video_by_default = refl

audio_extensions : map (λ row. row.0) (extensions_of_kind Audio standard_rows) ≡ 1 ∷ 2 ∷ 3 ∷ 4 ∷ []
audio_extensions = refl

video_extensions : map (λ row. row.0) (extensions_of_kind Video standard_rows) ≡ 2 ∷ 3 ∷ 4 ∷ 10 ∷ 11 ∷ 13 ∷ []
video_extensions = refl

-- ---- lines of the other side
-- the audio line of a browser's offer: opus with redundant packets, G722, PCMU
browser_rows : List PayloadRow
browser_rows =
    table_row (codes "opus") 111 None (Some 63) 48000 2 (codes "minptime=10;useinbandfec=1")
    ∷ table_row (codes "G722") 9 None None 8000 1 []
    ∷ table_row (codes "PCMU") 0 None None 8000 1 []
    ∷ []

answers_a_browser : matched_rows Audio default_rows browser_rows ≡
    table_row (codes "opus") 111 None None 48000 2 (codes "minptime=10;useinbandfec=1") ∷ []
unfolding browser_rows
answers_a_browser = refl

-- a peer with VP8 before H264, and an offer with H264, VP8 and VP9 by other numbers
own_order_and_their_numbers : matched_rows Video (full_row Vp8 ∷ full_row H264 ∷ [])
    (table_row (codes "h264") 120 (Some 121) None 90000 1 (codes "profile-level-id=42e01f")
    ∷ table_row (codes "VP8") 100 None None 90000 1 []
    ∷ table_row (codes "VP9") 101 None None 90000 1 []
    ∷ [])
    ≡ table_row (codes "VP8") 100 None None 90000 1 []
    ∷ table_row (codes "H264") 120 (Some 121) None 90000 1 (codes "packetization-mode=1")
    ∷ []
own_order_and_their_numbers = refl

another_clock_fits_not : matched_rows Audio (full_row Opus ∷ []) (table_row (codes "opus") 111 None None 16000 2 [] ∷ []) ≡ []
another_clock_fits_not = refl

their_numbers : shared_extensions standard_rows ((9, RtpMid) ∷ (5, AudioLevel) ∷ []) ≡ (9, RtpMid) ∷ (5, AudioLevel) ∷ []
their_numbers = refl

not_shared : shared_extensions ((1, AudioLevel) ∷ []) ((9, RtpMid) ∷ (5, AudioLevel) ∷ []) ≡ (5, AudioLevel) ∷ []
not_shared = refl
