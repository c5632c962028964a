-- The formats, codecs and parameters that are written for payload rows, and the rows that are read back.
use Rattle.std.specs.Prelude.{◌≡◌, ℕ, ◌≤◌, ◌==◌, false, List, [], ◌∷◌, ◌++◌, Option, Some, None, IfSome, codes}
use Rattle.rtc_wire_text.specs.Once.{IsApart}
use Rattle.rtc_sdp_values.specs.declared.pt.Pt.{Pt}
use Rattle.rtc_sdp_values.specs.declared.payload_row.PayloadRow.{PayloadRow}
use Rattle.rtc_sdp_attributes.specs.declared.fmtp.Fmtp.{Fmtp}
use Rattle.rtc_sdp_attributes.specs.declared.rtpmap.Rtpmap.{Rtpmap}
use Rattle.rtc_sdp_attributes.specs.AttributeTexts.{apt_text, red_text}
use Rattle.rtc_sdp_reader.specs.Payloads.{is_rtx_codec, is_red}

-- one for a number that is there
abbrev pub optional_number : {A : Type 0} → (ℕ → A) → Option Pt → List A
optional_number made None = []
optional_number made (Some pt) = made pt.0 ∷ []

abbrev pub itself : ℕ → ℕ
itself pt = pt

abbrev pub codec_row : PayloadRow → List ℕ → ℕ → Rtpmap
codec_row row name pt = record { pt = record { 0 = pt }; codec = name; clock = row.clock; channels = row.channels }

-- a retransmission is written with its clock alone
abbrev pub rtx_row : PayloadRow → ℕ → Rtpmap
rtx_row row pt = record { pt = record { 0 = pt }; codec = codes "rtx"; clock = row.clock; channels = 1 }

abbrev pub fmtp_row : List ℕ → ℕ → Fmtp
fmtp_row text pt = record { pt = record { 0 = pt }; text = text }

-- no line if the text is empty
abbrev pub own_fmtp : ℕ → List ℕ → List Fmtp
own_fmtp pt [] = []
own_fmtp pt (b ∷ bs) = fmtp_row (b ∷ bs) pt ∷ []

-- the numbers in the list of the m-line: red, pt, rtx of each row
abbrev pub row_formats : PayloadRow → List ℕ
row_formats row = optional_number itself row.red ++ (row.pt.0 ∷ optional_number itself row.rtx)

abbrev pub formats_of : List PayloadRow → List ℕ
formats_of [] = []
formats_of (row ∷ rest) = row_formats row ++ formats_of rest

-- the codecs, in the order of their lines
abbrev pub row_codecs : PayloadRow → List Rtpmap
row_codecs row =
    codec_row row row.codec row.pt.0 ∷ (optional_number (codec_row row (codes "red")) row.red ++ optional_number (rtx_row row) row.rtx)

abbrev pub codecs_of : List PayloadRow → List Rtpmap
codecs_of [] = []
codecs_of (row ∷ rest) = row_codecs row ++ codecs_of rest

-- the parameters, in the order of their lines
abbrev pub row_fmtps : PayloadRow → List Fmtp
row_fmtps row =
    own_fmtp row.pt.0 row.fmtp ++ (optional_number (fmtp_row (red_text row.pt.0)) row.red
    ++ optional_number (fmtp_row (apt_text row.pt.0)) row.rtx)

abbrev pub fmtps_of : List PayloadRow → List Fmtp
fmtps_of [] = []
fmtps_of (row ∷ rest) = row_fmtps row ++ fmtps_of rest

abbrev pub IsPayloadType : Pt → Type 0
IsPayloadType pt = pt.0 ≤ 127

-- what is read back: payload types up to 127, and a codec that is neither rtx nor red
pub record IsPlainPayload (row : PayloadRow) : Type 0 where
  pub pt : row.pt.0 ≤ 127
  pub rtx : IfSome row.rtx IsPayloadType
  pub red : IfSome row.red IsPayloadType
  pub not_rtx : is_rtx_codec row.codec ≡ false
  pub not_red : is_red row.codec ≡ false

-- no number is repeated, over pt, rtx and red
abbrev pub AreApart : List PayloadRow → Type 0
AreApart rows = IsApart (λ x y. x == y) (formats_of rows)
