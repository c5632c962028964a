-- Which number denotes which header extension (RFC 8285, section 5).
use Rattle.std.specs.Prelude.{ℕ, ◌==◌, List, [], ◌∷◌, Option, Some, None, if◌then◌else◌}
use Rattle.rtc_wire_text.specs.Fields.{first}
use Rattle.rtc_sdp_values.specs.declared.extension.Extension.{Extension}
use Rattle.rtc_sdp_values.specs.declared.extension.Extension.TheVariants.{
  AudioLevel,
  AbsoluteSendTime,
  TransportSequenceNumber,
  RtpMid,
  RtpStreamId,
  RepairedRtpStreamId,
  VideoOrientation,
}
use Rattle.rtc_sdp_values.specs.Extension.{same_extension}

-- the default rows of a peer
abbrev pub standard_rows : List (ℕ × Extension)
standard_rows =
    (1, AudioLevel) ∷ (2, AbsoluteSendTime) ∷ (3, TransportSequenceNumber) ∷ (4, RtpMid)
    ∷ (10, RtpStreamId) ∷ (11, RepairedRtpStreamId) ∷ (13, VideoOrientation) ∷ []

-- the number of the first row that has the extension
abbrev pub id_of : Extension → List (ℕ × Extension) → Option ℕ
id_of extension = first (λ row. if same_extension row.1 extension then Some row.0 else None)

-- the extension of the first row that has the number
abbrev pub lookup : ℕ → List (ℕ × Extension) → Option Extension
lookup id = first (λ row. if row.0 == id then Some row.1 else None)
