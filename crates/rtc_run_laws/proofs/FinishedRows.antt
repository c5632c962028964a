-- The rows that a round leaves at its two ends, where the answerer took the offer and the offerer takes the answer.
use Rattle.std.specs.List.{AllZip}
use Rattle.std.proofs.Common.{◌≡◌, ◌+◌, ℕ, Bool, true, false, not, ◌&&◌, ◌||◌, List, [], ◌∷◌, map, Option, Some, None, refl, sym, ◌∙◌, ap, subst, ◌⊎◌, inl, inr, zero, suc}
use Rattle.std.specs.Prelude.{slice_get, if◌then◌else◌}
use Rattle.rtc_sdp_values.specs.Direction.{inverse_of, inverse_of-inverse_of}
use Rattle.rtc_sdp_values.specs.LineRow.{row_mid}
use Rattle.rtc_sdp_values.specs.declared.direction.Direction.{Direction}
use Rattle.rtc_sdp_values.specs.declared.direction.Direction.TheVariants.{SendRecv, SendOnly, RecvOnly, Inactive}
use Rattle.rtc_sdp_values.specs.declared.line_row.LineRow.{LineRow}
use Rattle.rtc_sdp_values.specs.declared.line_row.LineRow.TheVariants.{Media, App}
use Rattle.rtc_sdp_values.specs.declared.media_kind.MediaKind.{MediaKind}
use Rattle.rtc_sdp_values.specs.declared.media_kind.MediaKind.TheVariants.{Audio, Video}
use Rattle.rtc_peer_rows.specs.Table.{Rising, row_of}
use Rattle.rtc_change.specs.TableAfter.{is_inactive, is_send_only, was_stopped, was_remote, stays_inactive, media_after, row_after, rows_after}
use Rattle.rtc_run_history.specs.Finished.{AreSameLine, Equal, AreMirrored, is_recv_only, stays_silent, Agreed}
use Rattle.rtc_run_history.specs.SaidRows.{row_said}

-- ---- directions

abbrev dir_or : Bool → Direction → Direction
dir_or quiet dir = if quiet then Inactive else dir

either_inactive : (quiet : Bool) → dir_or quiet Inactive ≡ Inactive
either_inactive true = refl
either_inactive false = refl

-- an offer to receive alone asks the answerer to send
asks_to_send : (dir : Direction) → is_send_only (inverse_of dir) ≡ is_recv_only dir
asks_to_send SendRecv = refl
asks_to_send SendOnly = refl
asks_to_send RecvOnly = refl
asks_to_send Inactive = refl

and_swap : (a b c : Bool) → (a && (b && c)) ≡ (c && (a && b))
and_swap true true true = refl
and_swap true true false = refl
and_swap true false true = refl
and_swap true false false = refl
and_swap false true true = refl
and_swap false true false = refl
and_swap false false true = refl
and_swap false false false = refl

silent_alike : (dir : Direction) (before : Option LineRow) → stays_inactive dir before ≡ stays_silent dir before
silent_alike dir None = refl
silent_alike dir (Some (App place mid)) = refl
silent_alike dir (Some (Media place mid kind own stopped remote_created)) =
    ap (λ asks. not remote_created && (is_inactive own && asks)) (asks_to_send dir) ∙ and_swap (not remote_created) (is_inactive own) (is_recv_only dir)

-- a line that is answered in the direction that was asked never turns to sending against its creator
never_turns : (dir : Direction) → (is_inactive dir && is_send_only (inverse_of (inverse_of dir))) ≡ false
never_turns SendRecv = refl
never_turns SendOnly = refl
never_turns RecvOnly = refl
never_turns Inactive = refl

and_false : (a b : Bool) → b ≡ false → (a && b) ≡ false
and_false true b is = is
and_false false b is = refl

-- the direction that the answer leaves, where a line is stopped or silent at the answerer or neither
dir_left : (dir : Direction) (stopped silent mine : Bool)
    → dir_or (stopped || (mine && (is_inactive dir && is_send_only (inverse_of (dir_or (stopped || silent) (inverse_of dir)))))) (inverse_of (dir_or (stopped || silent) (inverse_of dir)))
    ≡ dir_or (stopped || silent) dir
dir_left dir true silent mine = refl
dir_left dir false true mine = either_inactive (mine && (is_inactive dir && false))
dir_left dir false false mine = rw (and_false mine _ (never_turns dir)) (inverse_of-inverse_of dir)

-- ---- one media row

-- the offerer's row of an offered line: the row itself, or none where the offer adds it
abbrev pub IsKnown : List LineRow → LineRow → Type 0
IsKnown rows (Media place mid kind dir stopped remote_created) =
    (row_of rows mid ≡ Some (Media place mid kind dir stopped remote_created)) ⊎ ((row_of rows mid ≡ None) × (stopped ≡ false) × (remote_created ≡ false))
IsKnown rows (App place mid) = Unit {0}

-- the row that an answerer leaves of an offered one
answer_row : (place : ℕ) (mid : List ℕ) (kind : MediaKind) (dir : Direction) (stopped remote_created : Bool) (before : Option LineRow)
    → media_after true place kind (row_said (Media place mid kind dir stopped remote_created)) before
    ≡ Media place mid kind (dir_or ((stopped || was_stopped before) || stays_silent dir before) (inverse_of dir)) (stopped || was_stopped before) (was_remote true before)
answer_row place mid kind dir stopped remote_created before =
    ap (λ silent. Media place mid kind (dir_or ((stopped || was_stopped before) || silent) (inverse_of dir)) (stopped || was_stopped before) (was_remote true before)) (silent_alike dir before)

or_itself : (stopped other : Bool) → ((stopped || other) || stopped) ≡ (stopped || other)
or_itself true other = refl
or_itself false true = refl
or_itself false false = refl

or_nothing : (a : Bool) → (a || false) ≡ a
or_nothing true = refl
or_nothing false = refl

-- the row that is left of an answered one
left_row : (place : ℕ) (mid : List ℕ) (kind : MediaKind) (dir : Direction) (stopped remote_created other silent there : Bool) (own : Option LineRow)
    → (own ≡ Some (Media place mid kind dir stopped remote_created)) ⊎ ((own ≡ None) × (stopped ≡ false) × (remote_created ≡ false))
    → media_after false place kind (row_said (Media place mid kind (dir_or ((stopped || other) || silent) (inverse_of dir)) (stopped || other) there)) own
    ≡ Media place mid kind (dir_or ((stopped || other) || silent) dir) (stopped || other) remote_created
left_row place mid kind dir stopped remote_created other silent there own (inl known) =
    rw (known, or_itself stopped other) (ap (λ d. Media place mid kind d (stopped || other) remote_created) (dir_left dir (stopped || other) silent (not remote_created)))
left_row place mid kind dir stopped remote_created other silent there own (inr new) =
    rw (new.0, new.1, new.2, or_nothing other) (ap (λ d. Media place mid kind d other false) (dir_left dir other silent false))

mirrored : (dir : Direction) (stopped silent : Bool)
    → ((stopped ≡ true) × (stopped ≡ true)) ⊎ ((stopped ≡ false) × (stopped ≡ false) × (dir_or (stopped || silent) dir ≡ inverse_of (dir_or (stopped || silent) (inverse_of dir))))
mirrored dir true silent = inl (refl, refl)
mirrored dir false true = inr (refl, refl, refl)
mirrored dir false false = inr (refl, refl, sym (inverse_of-inverse_of dir))

-- What an offered row becomes at the answerer, and then at the offerer.
record RowFinished (before : List LineRow) (row answer left : LineRow) : Type 0 where
  agreed : Agreed row (row_of before (row_mid row)) left
  same : AreSameLine answer left
  mirrored : AreMirrored answer left

media_finished : (place : ℕ) (mid : List ℕ) (kind : MediaKind) (dir : Direction) (stopped remote_created : Bool) (before : List LineRow) (own : Option LineRow) (answer left : LineRow)
    → (own ≡ Some (Media place mid kind dir stopped remote_created)) ⊎ ((own ≡ None) × (stopped ≡ false) × (remote_created ≡ false))
    → answer ≡ media_after true place kind (row_said (Media place mid kind dir stopped remote_created)) (row_of before mid)
    → left ≡ media_after false place kind (row_said answer) own
    → RowFinished before (Media place mid kind dir stopped remote_created) answer left
media_finished place mid kind dir stopped remote_created before own answer left known answered taken =
    let b : Option LineRow = row_of before mid in
    let there : LineRow = Media place mid kind (dir_or ((stopped || was_stopped b) || stays_silent dir b) (inverse_of dir)) (stopped || was_stopped b) (was_remote true b) in
    let here : LineRow = Media place mid kind (dir_or ((stopped || was_stopped b) || stays_silent dir b) dir) (stopped || was_stopped b) remote_created in
    let answer_is : answer ≡ there = answered ∙ answer_row place mid kind dir stopped remote_created b in
    let left_is : left ≡ here = taken ∙ ap (λ row. media_after false place kind (row_said row) own) answer_is ∙ left_row place mid kind dir stopped remote_created (was_stopped b) (stays_silent dir b) (was_remote true b) own known in
    rw (answer_is, left_is) (record { agreed = refl; same = (refl, refl); mirrored = mirrored dir (stopped || was_stopped b) (stays_silent dir b) })

row_finished : (offerer before : List LineRow) (place : ℕ) (row : LineRow) → Rising place (row ∷ []) → IsKnown offerer row
    → RowFinished before row (row_after before true place (row_said row)) (row_after offerer false place (row_said (row_after before true place (row_said row))))
row_finished offerer before place (Media at mid Audio dir stopped remote_created) rising known =
    subst (λ (n : ℕ). RowFinished before (Media at mid Audio dir stopped remote_created) (row_after before true n (row_said (Media at mid Audio dir stopped remote_created))) (row_after offerer false n (row_said (row_after before true n (row_said (Media at mid Audio dir stopped remote_created)))))) rising.0
    (media_finished at mid Audio dir stopped remote_created before (row_of offerer mid) _ _ known refl refl)
row_finished offerer before place (Media at mid Video dir stopped remote_created) rising known =
    subst (λ (n : ℕ). RowFinished before (Media at mid Video dir stopped remote_created) (row_after before true n (row_said (Media at mid Video dir stopped remote_created))) (row_after offerer false n (row_said (row_after before true n (row_said (Media at mid Video dir stopped remote_created)))))) rising.0
    (media_finished at mid Video dir stopped remote_created before (row_of offerer mid) _ _ known refl refl)
row_finished offerer before place (App at mid) rising known = record { agreed = sym rising.0; same = tt; mirrored = tt }

-- ---- whole tables

abbrev pub AllKnown : List LineRow → List LineRow → Type 0
AllKnown offerer [] = Unit {0}
AllKnown offerer (row ∷ rows) = IsKnown offerer row × AllKnown offerer rows

-- What offered rows become at the answerer, and then at the offerer.
pub record RowsFinished (before rows answer left : List LineRow) : Type 0 where
  pub agreed : AllZip (λ row after. Agreed row (row_of before (row_mid row)) after) rows left
  pub equal : Equal answer left
  pub mirrored : AllZip AreMirrored answer left

pub rows_finished : (offerer before : List LineRow) (place : ℕ) (rows : List LineRow) → Rising place rows → AllKnown offerer rows
    → RowsFinished before rows (rows_after before true place (map row_said rows)) (rows_after offerer false place (map row_said (rows_after before true place (map row_said rows))))
rows_finished offerer before place [] rising known = record { agreed = tt; equal = tt; mirrored = tt }
rows_finished offerer before place (row ∷ rows) rising known =
    let first = row_finished offerer before place row (rising.0, tt) known.0 in
    let rest = rows_finished offerer before (place + 1) rows rising.1 known.1 in
    record { agreed = (first.agreed, rest.agreed); equal = (first.same, rest.equal); mirrored = (first.mirrored, rest.mirrored) }

-- rows of which each is known
pub known_each : (offerer rows : List LineRow) → ((k : ℕ) (row : LineRow) → slice_get rows k ≡ Some row → IsKnown offerer row) → AllKnown offerer rows
known_each offerer [] each = tt
known_each offerer (row ∷ rows) each = (each zero row refl, known_each offerer rows (λ k other there. each (suc k) other there))
