-- What signalling delivers of a session description (SDP): its bytes. It is written when it is sent, and what was written is read when it
-- is received. A foreign one is what anybody wrote.
use Rattle.std.specs.Prelude.{◌≡◌, ℕ, List, All, Option, Some, None, Result, Ok, Err}
use Rattle.rtc_sdp_values.specs.declared.sdp.Sdp.{Sdp}
use Rattle.rtc_sdp_reader.specs.Reading.{reading}
use Rattle.rtc_sdp_writer.specs.AsRead.{as_read}
use Rattle.rtc_sdp_writer.specs.SessionRows.{written_sdp}
use Rattle.rtc_run_history.specs.declared.kept.Kept.{Kept}

-- nothing if there is no such SDP, the number of the first line that refuses what was written, or what is read
pub data Signalled : Type 0 where
  NotMade : Signalled
  Unreadable : ℕ → Signalled
  Readable : Sdp → Signalled

abbrev pub arrival : Result Sdp ℕ → Signalled
arrival (Ok sdp) = Readable sdp
arrival (Err line) = Unreadable line

-- what arrives of an SDP that is sent
unfoldable pub signalled : Sdp → Signalled
signalled sdp = arrival (reading (written_sdp sdp))

abbrev pub signalled_if : Option Sdp → Signalled
signalled_if None = NotMade
signalled_if (Some sdp) = signalled sdp

-- what arrives of a text that anybody wrote
unfoldable pub foreign : List ℕ → Signalled
foreign text = arrival (reading text)

-- what is read, if anything is
abbrev pub sdp_read : Signalled → Option Sdp
sdp_read NotMade = None
sdp_read (Unreadable line) = None
sdp_read (Readable sdp) = Some sdp

-- it is read again, with the SSRCs that its written lines give
abbrev pub ReadsBack : Sdp → Type 0
ReadsBack sdp = signalled sdp ≡ Readable (as_read sdp)

-- so is each that is kept
abbrev pub AllReadBack : List Kept → Type 0
AllReadBack sdps = All (λ kept. ReadsBack kept.sdp) sdps
