-- Codecs and header extensions that the media lines of a peer carry whole: what is written of them is read back.
use Rattle.std.specs.Prelude.{◌≡◌, ℕ, ◌==◌, ◌≤◌, true, false, List, [], ◌∷◌, ◌++◌, Option, Some, None, codes}
use Rattle.std.specs.List.{AllByRecursion}
use Rattle.std.specs.Str.{bytes_eq}
use Rattle.rtc_wire_text.specs.Cuts.{Lacks}
use Rattle.rtc_wire_text.specs.LetterCase.{lower}
use Rattle.rtc_wire_text.specs.Once.{IsApart}
use Rattle.rtc_wire_text.specs.Tokens.{is_token}
use Rattle.rtc_sdp_values.specs.declared.extension.Extension.{Extension}
use Rattle.rtc_sdp_values.specs.declared.payload_row.PayloadRow.{PayloadRow}
use Rattle.rtc_sdp_values.specs.declared.pt.Pt.{Pt}
use Rattle.rtc_sdp_codecs.specs.LineFormats.{is_same_format}

-- ---- payload types
abbrev pub repair_numbers : Option Pt → List ℕ
repair_numbers None = []
repair_numbers (Some pt) = pt.0 ∷ []

-- the payload types of a row: of its redundant packets, its own, and of its retransmissions
abbrev pub payload_numbers : PayloadRow → List ℕ
payload_numbers row = repair_numbers row.red ++ (row.pt.0 ∷ repair_numbers row.rtx)

abbrev pub all_payload_numbers : List PayloadRow → List ℕ
all_payload_numbers [] = []
all_payload_numbers (row ∷ rest) = payload_numbers row ++ all_payload_numbers rest

-- payload types have seven bits (RFC 3550, section 5.1), and none is repeated
pub record AreDistinctNumbers (rows : List PayloadRow) : Type 0 where
  pub small : AllByRecursion (λ number. number ≤ 127) (all_payload_numbers rows)
  pub apart : IsApart (λ x y. x == y) (all_payload_numbers rows)

-- ---- rows
-- a codec of its own, which is a token (RFC 8866, section 6.6), and parameters on one line
pub record IsFormedRow (row : PayloadRow) : Type 0 where
  pub codec : is_token row.codec ≡ true
  pub not_rtx : bytes_eq (lower row.codec) (codes "rtx") ≡ false
  pub not_red : bytes_eq (lower row.codec) (codes "red") ≡ false
  pub clock : row.clock ≤ 4294967295
  pub channels : row.channels ≤ 255
  pub fmtp : Lacks 10 row.fmtp

-- such rows, each with payload types and a format of its own
pub record AreFormedRows (rows : List PayloadRow) : Type 0 where
  pub each : AllByRecursion IsFormedRow rows
  pub numbers : AreDistinctNumbers rows
  pub formats : IsApart is_same_format rows

-- ---- header extensions, with numbers of one byte that is not 0 (RFC 8285, section 4.3)
abbrev pub IsFormedExtension : ℕ × Extension → Type 0
IsFormedExtension row = (1 ≤ row.0) × (row.0 ≤ 255)

abbrev pub AreFormedExtensions : List (ℕ × Extension) → Type 0
AreFormedExtensions rows = AllByRecursion IsFormedExtension rows
