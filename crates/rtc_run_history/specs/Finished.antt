-- What a finished round leaves at its two ends (RFC 8829, sections 5.10 and 5.11).
use Rattle.std.specs.Prelude.{◌≡◌, ◌⊎◌, ◌&&◌, ◌||◌, not, Bool, true, false, List, ◌++◌, if◌then◌else◌, Option, Some, None}
use Rattle.std.specs.List.{AllZip}
use Rattle.rtc_sdp_values.specs.Direction.{inverse_of}
use Rattle.rtc_sdp_values.specs.LineRow.{row_mid}
use Rattle.rtc_sdp_values.specs.declared.direction.Direction.{Direction}
use Rattle.rtc_sdp_values.specs.declared.direction.Direction.TheVariants.{SendRecv, SendOnly, RecvOnly, Inactive}
use Rattle.rtc_sdp_values.specs.declared.line_row.LineRow.{LineRow}
use Rattle.rtc_sdp_values.specs.declared.line_row.LineRow.TheVariants.{Media, App}
use Rattle.rtc_peer_rows.specs.Table.{row_of}
use Rattle.rtc_change.specs.TableAfter.{is_inactive, was_stopped}

-- two media rows of one mid and kind, or two rows of data channels
abbrev pub AreSameLine : LineRow → LineRow → Type 0
AreSameLine (Media place mid kind dir stopped remote_created) (Media place' mid' kind' dir' stopped' remote_created') =
    (mid' ≡ mid) × (kind' ≡ kind)
AreSameLine (App place mid) (App place' mid') = Unit {0}
AreSameLine row other = ⊥

-- the tables have as many rows, and at each place the same line
abbrev pub Equal : List LineRow → List LineRow → Type 0
Equal rows others = AllZip AreSameLine rows others

-- a media line is stopped at both ends, or live at both with inverse directions; an m-line of data channels has no direction
abbrev pub AreMirrored : LineRow → LineRow → Type 0
AreMirrored (Media place mid kind dir stopped remote_created) (Media place' mid' kind' dir' stopped' remote_created') =
    ((stopped ≡ true) × (stopped' ≡ true)) ⊎ ((stopped ≡ false) × (stopped' ≡ false) × (dir' ≡ inverse_of dir))
AreMirrored (App place mid) (App place' mid') = Unit {0}
AreMirrored row other = ⊥

abbrev pub is_recv_only : Direction → Bool
is_recv_only RecvOnly = true
is_recv_only SendRecv = false
is_recv_only SendOnly = false
is_recv_only Inactive = false

-- whether the answerer keeps a line inactive that it added itself: an offer to receive only does not make it send
abbrev pub stays_silent : Direction → Option LineRow → Bool
stays_silent offered None = false
stays_silent offered (Some (Media place mid kind dir stopped remote_created)) =
    is_recv_only offered && (not remote_created && is_inactive dir)
stays_silent offered (Some (App place mid)) = false

-- the direction that both sides agree on: the offered one, but inactive if the line is stopped or remains silent
abbrev pub agreed_dir : Direction → Bool → Option LineRow → Direction
agreed_dir offered stopped before = if stopped || stays_silent offered before then Inactive else offered

-- An offered row, the answerer's earlier row of its mid, if any, and the row that the answer leaves at the offerer.
abbrev pub Agreed : LineRow → Option LineRow → LineRow → Type 0
Agreed (Media place mid kind dir stopped remote_created) before after =
    after ≡ Media place mid kind (agreed_dir dir (stopped || was_stopped before) before) (stopped || was_stopped before) remote_created
Agreed (App place mid) before (App place' mid') = place' ≡ place
Agreed (App place mid) before (Media place' mid' kind dir stopped remote_created) = ⊥

-- What a finished round leaves: the answerer's rows before and after its answer, and the offerer's rows afterwards.
pub record FinishedRound (offered added before answerer after : List LineRow) : Type 0 where
  -- the offered rows, then the added ones, in order, each as agreed
  pub agreed : AllZip (λ row left. Agreed row (row_of before (row_mid row)) left) (offered ++ added) after
  pub equal : Equal answerer after
  pub mirrored : AllZip AreMirrored answerer after
