-- The payload rows and header extensions of a media line (RFC 3264, sections 5.1 and 6.1).
use Rattle.std.specs.Prelude.{ℕ, ◌==◌, Bool, ◌&&◌, if◌then◌else◌, List, [], ◌∷◌, filter, Option, Some, None, codes}
use Rattle.std.specs.Str.{bytes_eq}
use Rattle.std.specs.List.{filter_map, list_any}
use Rattle.rtc_wire_text.specs.Fields.{first}
use Rattle.rtc_wire_text.specs.LetterCase.{lower}
use Rattle.rtc_sdp_values.specs.Extension.{same_extension, suits_audio, suits_video}
use Rattle.rtc_sdp_values.specs.MediaKind.{same_kind}
use Rattle.rtc_sdp_values.specs.declared.extension.Extension.{Extension}
use Rattle.rtc_sdp_values.specs.declared.media_kind.MediaKind.{MediaKind}
use Rattle.rtc_sdp_values.specs.declared.media_kind.MediaKind.TheVariants.{Audio, Video}
use Rattle.rtc_sdp_values.specs.declared.payload_row.PayloadRow.{PayloadRow}
use Rattle.rtc_sdp_values.specs.declared.pt.Pt.{Pt}

-- ---- a line that this side adds
-- the codecs of video; every other is one of audio
abbrev pub video_codecs : List (List ℕ)
video_codecs =
    codes "VP8" ∷ codes "H264" ∷ codes "H265" ∷ codes "H266" ∷ codes "VP9" ∷ codes "AV1" ∷ []

abbrev pub is_video_codec : List ℕ → Bool
is_video_codec codec = list_any (λ name. bytes_eq (lower name) (lower codec)) video_codecs

abbrev pub payload_kind : PayloadRow → MediaKind
payload_kind row = if is_video_codec row.codec then Video else Audio

-- the rows of a kind, in their order
abbrev pub rows_of_kind : MediaKind → List PayloadRow → List PayloadRow
rows_of_kind kind = filter (λ row. same_kind (payload_kind row) kind)

abbrev pub suits_kind : MediaKind → Extension → Bool
suits_kind Audio extension = suits_audio extension
suits_kind Video extension = suits_video extension

-- the extensions that a line of a kind has, in their order
abbrev pub extensions_of_kind : MediaKind → List (ℕ × Extension) → List (ℕ × Extension)
extensions_of_kind kind = filter (λ row. suits_kind kind row.1)

-- ---- a line that the other side has sent
-- one codec, with one clock and number of channels; the case of letters in its name does not count
abbrev pub is_same_format : PayloadRow → PayloadRow → Bool
is_same_format row theirs = bytes_eq (lower row.codec) (lower theirs.codec) && row.clock == theirs.clock && row.channels == theirs.channels

-- the other side's number of a repair, if this side has such a repair too
abbrev pub number_of_both : Option Pt → Option Pt → Option Pt
number_of_both None theirs = None
number_of_both (Some ours) theirs = theirs

-- a row with the numbers that the other side has for it
abbrev pub with_numbers_of : PayloadRow → PayloadRow → PayloadRow
with_numbers_of theirs row =
    record row { pt = theirs.pt; rtx = number_of_both row.rtx theirs.rtx; red = number_of_both row.red theirs.red }

-- with the numbers of the first row of the other side that has its format
abbrev pub matched_row : List PayloadRow → PayloadRow → Option PayloadRow
matched_row remote row = first (λ theirs. if is_same_format row theirs then Some (with_numbers_of theirs row) else None) remote

-- the rows of a kind that the other side has too, best first
abbrev pub matched_rows : MediaKind → List PayloadRow → List PayloadRow → List PayloadRow
matched_rows kind rows remote = filter_map (matched_row remote) (rows_of_kind kind rows)

-- whether this side has an extension of the other side
abbrev pub is_shared : List (ℕ × Extension) → ℕ × Extension → Bool
is_shared rows theirs = list_any (λ row. same_extension row.1 theirs.1) rows

-- the other side's extensions that this side has too, with its numbers
abbrev pub shared_extensions : List (ℕ × Extension) → List (ℕ × Extension) → List (ℕ × Extension)
shared_extensions rows remote = filter (is_shared rows) remote
