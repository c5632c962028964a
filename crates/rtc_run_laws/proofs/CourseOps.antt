-- Ops as a course sees them: what they leave, stage and add is said by the rows without their mids. They leave the names of rows.
use Rattle.std.proofs.Common.{◌≡◌, ◌+◌, ℕ, Bool, true, false, not, ◌||◌, List, [], ◌∷◌, map, Option, Some, None, refl, sym, ◌∙◌, ap, subst, zero, suc}
use Rattle.std.specs.Prelude.{slice_get, is_some, option_map}
use Rattle.std.specs.List.{list_any}
use Rattle.rtc_sdp_values.specs.Direction.{same_direction}
use Rattle.rtc_sdp_values.specs.declared.direction.Direction.{Direction}
use Rattle.rtc_sdp_values.specs.declared.line_row.LineRow.{LineRow}
use Rattle.rtc_sdp_values.specs.declared.line_row.LineRow.TheVariants.{Media, App}
use Rattle.rtc_peer_rows.specs.RowChanges.{RowChange, directed_row, stopped_row, row_after_change, changed_at, is_changed, media_mid}
use Rattle.rtc_peer_rows.proofs.RowChangeLemmas.{KeepsRow, directed_row_keeps, stopped_row_keeps, changed_at_alike}
use Rattle.rtc_channels.specs.Channels.{Channels}
use Rattle.rtc_run_history.specs.declared.op.Op.{Op}
use Rattle.rtc_run_history.specs.declared.op.Op.TheVariants.{AddMedia, SetDirection, StopMedia, AddChannel, IceRestart}
use Rattle.rtc_run_history.specs.declared.op_answer.OpAnswer.{OpAnswer}
use Rattle.rtc_run_history.specs.declared.op_answer.OpAnswer.TheVariants.{Mid, Changed, NoLine, Channel, BadChannel, Alloc as OpAlloc, Creds}
use Rattle.rtc_run_history.specs.Memory.{answers_lack}
use Rattle.rtc_run_history.specs.Answers.{has_app_row, added, do_stage, do_need_offer, with_numbered, is_bad}
use Rattle.rtc_run_history.specs.Sound.{Midway, HasNoLine, OpsAnswered}
use Rattle.rtc_run_history.specs.CourseRows.{unnamed, rows_after_ops, must_offer, adding_answer, do_add_channel}
use Rattle.rtc_run_laws.proofs.OpRows.{ops_keep, has_app-alike}
use Rattle.rtc_run_laws.proofs.RowNames.{SameName, Aligned, aligned_self}

-- ---- changes of rows without mids

-- A change does the same to a row without its mid, and nothing to a row that is not of media.
record IsSeen (change : RowChange) : Type 0 where
  same : (row : LineRow) → change (unnamed row) ≡ option_map unnamed (change row)
  media : (row : LineRow) → media_mid (Some row) ≡ None → change row ≡ None

turned_seen : (dir : Direction) → IsSeen (directed_row dir)
turned_seen dir = record { same = same; media = media }
  where
    same : (row : LineRow) → directed_row dir (unnamed row) ≡ option_map unnamed (directed_row dir row)
    same (Media place mid kind own true remote_created) = refl
    same (Media place mid kind own false remote_created) = by (same_direction own dir) refl
      where
        by : (alike : Bool) → same_direction own dir ≡ alike
            → directed_row dir (unnamed (Media place mid kind own false remote_created)) ≡ option_map unnamed (directed_row dir (Media place mid kind own false remote_created))
        by true is = rw is refl
        by false is = rw is refl
    same (App place mid) = refl

    media : (row : LineRow) → media_mid (Some row) ≡ None → directed_row dir row ≡ None
    media (Media place mid kind own stopped remote_created) none = absurd (cc)
    media (App place mid) none = refl

halted_seen : IsSeen stopped_row
halted_seen = record { same = same; media = media }
  where
    same : (row : LineRow) → stopped_row (unnamed row) ≡ option_map unnamed (stopped_row row)
    same (Media place mid kind own true remote_created) = refl
    same (Media place mid kind own false remote_created) = refl
    same (App place mid) = refl

    media : (row : LineRow) → media_mid (Some row) ≡ None → stopped_row row ≡ None
    media (Media place mid kind own stopped remote_created) none = absurd (cc)
    media (App place mid) none = refl

row_seen : (change : RowChange) → IsSeen change → (row : LineRow) → unnamed (row_after_change change row) ≡ row_after_change change (unnamed row)
row_seen change seen row = by (change row) refl
  where
    by : (found : Option LineRow) → change row ≡ found → unnamed (row_after_change change row) ≡ row_after_change change (unnamed row)
    by None is = rw (seen.same row, is) refl
    by (Some changed) is = rw (seen.same row, is) refl

is_some_mapped : (found : Option LineRow) → is_some (option_map unnamed found) ≡ is_some found
is_some_mapped None = refl
is_some_mapped (Some row) = refl

rows_seen : (change : RowChange) → IsSeen change → (place : ℕ) (rows : List LineRow) → map unnamed (changed_at change place rows) ≡ changed_at change place (map unnamed rows)
rows_seen change seen place [] = refl
rows_seen change seen zero (row ∷ rows) = ap (λ first. first ∷ map unnamed rows) (row_seen change seen row)
rows_seen change seen (suc place) (row ∷ rows) = ap (λ rest. unnamed row ∷ rest) (rows_seen change seen place rows)

changed_seen : (change : RowChange) → IsSeen change → (place : ℕ) (rows : List LineRow) → is_changed change (slice_get (map unnamed rows) place) ≡ is_changed change (slice_get rows place)
changed_seen change seen place [] = refl
changed_seen change seen zero (row ∷ rows) = ap is_some (seen.same row) ∙ is_some_mapped (change row)
changed_seen change seen (suc place) (row ∷ rows) = changed_seen change seen place rows

-- where no media row stands, nothing is changed
unchanged : (change : RowChange) → IsSeen change → (place : ℕ) (rows : List LineRow) → HasNoLine place rows → (changed_at change place rows ≡ rows) × (is_changed change (slice_get rows place) ≡ false)
unchanged change seen place [] none = (refl, refl)
unchanged change seen zero (row ∷ rows) none = rw (seen.media row none) (refl, refl)
unchanged change seen (suc place) (row ∷ rows) none = let rest = unchanged change seen place rows none in (ap (λ list. row ∷ list) rest.0, rest.1)

-- ---- ops

-- an answer tells of no channel that is refused, up to what is asked for
abbrev pub AreFine : List OpAnswer → Type 0
AreFine answers = list_any is_bad answers ≡ false

-- the mid of a line of data channels as a course sees it
abbrev pub seen_app : Option (List ℕ) → Option (List ℕ)
seen_app None = None
seen_app (Some mid) = Some []

-- What ops that are all answered, each channel by a number, leave, stage and add, as a course sees it.
pub record AreSeen (rows : List LineRow) (app : Option (List ℕ)) (ops : List Op) (answers : List OpAnswer) (after : List LineRow) : Type 0 where
  pub left : map unnamed after ≡ rows_after_ops ops (map unnamed rows)
  pub staged : do_need_offer (has_app_row rows) answers ≡ must_offer ops (map unnamed rows)
  pub adds : (place : ℕ) → map unnamed (added app place ops answers) ≡ added (seen_app app) place ops (map adding_answer ops)
  -- and where ops add no channel, what is staged has to be offered
  pub alone : do_add_channel ops ≡ false → do_stage answers ≡ do_need_offer (has_app_row rows) answers

-- whether there is a line of data channels, as a course sees it
pub app_seen : (rows : List LineRow) → has_app_row (map unnamed rows) ≡ has_app_row rows
app_seen [] = refl
app_seen (Media place mid kind dir stopped remote_created ∷ rows) = app_seen rows
app_seen (App place mid ∷ rows) = refl

-- one op that changes a row, and the ones after it
record IsSetSeen (change : RowChange) (place : ℕ) (rows : List LineRow) (ops : List Op) (answers : List OpAnswer) (after : List LineRow) (changed : Bool) : Type 0 where
  left : map unnamed after ≡ rows_after_ops ops (changed_at change place (map unnamed rows))
  staged : (changed || do_need_offer (has_app_row rows) answers) ≡ (is_changed change (slice_get (map unnamed rows) place) || must_offer ops (changed_at change place (map unnamed rows)))
  alone : do_add_channel ops ≡ false → (changed || do_stage answers) ≡ (changed || do_need_offer (has_app_row rows) answers)

set_seen : (change : RowChange) → KeepsRow change → IsSeen change → (place : ℕ) (rows : List LineRow) (app : Option (List ℕ)) (ops : List Op) (answers : List OpAnswer) (after : List LineRow) (changed : Bool) → changed ≡ is_changed change (slice_get rows place)
    → AreSeen (changed_at change place rows) app ops answers after → IsSetSeen change place rows ops answers after changed
set_seen change keeps seen place rows app ops answers after changed is rest =
    let same : map unnamed (changed_at change place rows) ≡ changed_at change place (map unnamed rows) = rows_seen change seen place rows in
    let has : has_app_row (changed_at change place rows) ≡ has_app_row rows = has_app-alike rows (changed_at change place rows) (changed_at_alike change keeps place rows) in
    record {
      left = rest.left ∙ ap (rows_after_ops ops) same;
      staged = ap (λ b. b || do_need_offer (has_app_row rows) answers) (is ∙ sym (changed_seen change seen place rows))
          ∙ ap (λ b. is_changed change (slice_get (map unnamed rows) place) || b) (ap (λ (b : Bool). do_need_offer b answers) (sym has) ∙ rest.staged ∙ ap (must_offer ops) same);
      alone = λ none. ap (λ b. changed || b) (rest.alone none ∙ ap (λ (b : Bool). do_need_offer b answers) has);
    }

-- the same where no media row stands at the place
unset_seen : (change : RowChange) → KeepsRow change → IsSeen change → (place : ℕ) (rows : List LineRow) (app : Option (List ℕ)) (ops : List Op) (answers : List OpAnswer) (after : List LineRow) → HasNoLine place rows
    → AreSeen rows app ops answers after → IsSetSeen change place rows ops answers after false
unset_seen change keeps seen place rows app ops answers after none rest =
    let quiet = unchanged change seen place rows none in
    set_seen change keeps seen place rows app ops answers after false (sym quiet.1) (subst (λ (list : List LineRow). AreSeen list app ops answers after) (sym quiet.0) rest)

-- a channel has to be offered where there is no line of data channels
channel_seen : (rows : List LineRow) (ops : List Op) (answers : List OpAnswer) → do_need_offer (has_app_row rows) answers ≡ must_offer ops (map unnamed rows)
    → (not (has_app_row rows) || do_need_offer (has_app_row rows) answers) ≡ (not (has_app_row (map unnamed rows)) || must_offer ops (map unnamed rows))
channel_seen rows ops answers rest = rw (app_seen rows) (ap (λ b. not (has_app_row rows) || b) rest)

pub ops_seen : (rows : List LineRow) (held : List (List ℕ)) (app : Option (List ℕ)) (channels : Channels) (numbers : List ℕ) (ops : List Op) (answers : List OpAnswer) (after : List LineRow)
    → OpsAnswered (record { rows = rows; held = held; app = app; channels = channels; numbers = numbers }) ops answers after → answers_lack answers ≡ false → AreFine answers → AreSeen rows app ops answers after
ops_seen rows held app channels numbers [] [] after answered enough fine = record { left = ap (map unnamed) answered; staged = refl; adds = λ place. refl; alone = λ none. refl }
ops_seen rows held app channels numbers (AddMedia kind dir ∷ ops) (Mid mid ∷ answers) after answered enough fine =
    let rest = ops_seen rows (mid ∷ held) app channels numbers ops answers after answered.1 enough fine in
    record { left = rest.left; staged = refl; adds = λ place. ap (λ more. Media place [] kind dir false false ∷ more) (rest.adds (place + 1)); alone = λ none. refl }
ops_seen rows held app channels numbers (SetDirection at dir ∷ ops) (NoLine ∷ answers) after answered enough fine =
    let rest = ops_seen rows held app channels numbers ops answers after answered.1 enough fine in
    let here = unset_seen (directed_row dir) (directed_row_keeps dir) (turned_seen dir) at rows app ops answers after answered.0 rest in
    record { left = here.left; staged = here.staged; adds = rest.adds; alone = here.alone }
ops_seen rows held app channels numbers (SetDirection at dir ∷ ops) (Changed changed ∷ answers) after answered enough fine =
    let rest = ops_seen (changed_at (directed_row dir) at rows) held app channels numbers ops answers after answered.1 enough fine in
    let here = set_seen (directed_row dir) (directed_row_keeps dir) (turned_seen dir) at rows app ops answers after changed answered.0.1 rest in
    record { left = here.left; staged = here.staged; adds = rest.adds; alone = here.alone }
ops_seen rows held app channels numbers (StopMedia at ∷ ops) (NoLine ∷ answers) after answered enough fine =
    let rest = ops_seen rows held app channels numbers ops answers after answered.1 enough fine in
    let here = unset_seen stopped_row stopped_row_keeps halted_seen at rows app ops answers after answered.0 rest in
    record { left = here.left; staged = here.staged; adds = rest.adds; alone = here.alone }
ops_seen rows held app channels numbers (StopMedia at ∷ ops) (Changed changed ∷ answers) after answered enough fine =
    let rest = ops_seen (changed_at stopped_row at rows) held app channels numbers ops answers after answered.1 enough fine in
    let here = set_seen stopped_row stopped_row_keeps halted_seen at rows app ops answers after changed answered.0.1 rest in
    record { left = here.left; staged = here.staged; adds = rest.adds; alone = here.alone }
ops_seen rows held None channels numbers (AddChannel config ∷ ops) (Channel id ∷ answers) after answered enough fine =
    let rest = ops_seen rows held None (with_numbered id config channels) (id ∷ numbers) ops answers after answered.2 enough fine in
    record { left = rest.left; staged = channel_seen rows ops answers rest.staged; adds = rest.adds; alone = λ none. absurd (cc) }
ops_seen rows held (Some mid) channels numbers (AddChannel config ∷ ops) (Channel id ∷ answers) after answered enough fine =
    let rest = ops_seen rows (mid ∷ held) None (with_numbered id config channels) (id ∷ numbers) ops answers after answered.2 enough fine in
    record {
      left = rest.left;
      staged = channel_seen rows ops answers rest.staged;
      adds = λ place. ap (λ more. App place [] ∷ more) (rest.adds (place + 1));
      alone = λ none. absurd (cc);
    }
ops_seen rows held app channels numbers (AddChannel config ∷ ops) (BadChannel ∷ answers) after answered enough fine = absurd (cc)
ops_seen rows held app channels numbers (AddMedia kind dir ∷ ops) (OpAlloc ∷ []) after answered enough fine = absurd (cc)
ops_seen rows held app channels numbers (SetDirection at dir ∷ ops) (OpAlloc ∷ []) after answered enough fine = absurd (cc)
ops_seen rows held app channels numbers (StopMedia at ∷ ops) (OpAlloc ∷ []) after answered enough fine = absurd (cc)
ops_seen rows held app channels numbers (AddChannel config ∷ ops) (OpAlloc ∷ []) after answered enough fine = absurd (cc)
ops_seen rows held app channels numbers (IceRestart keep ∷ ops) (Creds creds ∷ answers) after answered enough fine =
    let rest = ops_seen rows held app channels numbers ops answers after answered enough fine in
    record { left = rest.left; staged = refl; adds = rest.adds; alone = λ none. refl }
ops_seen rows held app channels numbers (IceRestart keep ∷ ops) (OpAlloc ∷ []) after answered enough fine = absurd (cc)
ops_seen rows held app channels numbers ops answers after answered enough fine = absurd answered

-- ---- names

turned_name : (dir : Direction) (first row : LineRow) → SameName first row → SameName first (row_after_change (directed_row dir) row)
turned_name dir (Media place mid kind own stopped remote_created) (Media p m k d true r) same = same
turned_name dir (Media place mid kind own stopped remote_created) (Media p m k d false r) same = by (same_direction d dir) refl
  where
    by : (alike : Bool) → same_direction d dir ≡ alike → SameName (Media place mid kind own stopped remote_created) (row_after_change (directed_row dir) (Media p m k d false r))
    by true is = rw is same
    by false is = rw is same
turned_name dir (App place mid) (App p m) same = same
turned_name dir first row same = absurd same

halted_name : (first row : LineRow) → SameName first row → SameName first (row_after_change stopped_row row)
halted_name (Media place mid kind own stopped remote_created) (Media p m k d true r) same = same
halted_name (Media place mid kind own stopped remote_created) (Media p m k d false r) same = same
halted_name (App place mid) (App p m) same = same
halted_name first row same = absurd same

names_kept : (change : RowChange) → ((first row : LineRow) → SameName first row → SameName first (row_after_change change row)) → (first : List LineRow) (place : ℕ) (rows : List LineRow) → Aligned first rows
    → Aligned first (changed_at change place rows)
names_kept change keeps [] place [] same = tt
names_kept change keeps (row ∷ first) zero (other ∷ rows) same = (keeps row other same.0, same.1)
names_kept change keeps (row ∷ first) (suc place) (other ∷ rows) same = (same.0, names_kept change keeps first place rows same.1)
names_kept change keeps first place rows same = absurd same

-- ops leave the names of rows
pub ops_aligned : (m : Midway) (ops : List Op) (answers : List OpAnswer) (after : List LineRow) → OpsAnswered m ops answers after → Aligned m.rows after
ops_aligned m ops answers after answered =
    ops_keep (Aligned m.rows) (λ dir. names_kept (directed_row dir) (turned_name dir) m.rows) (names_kept stopped_row halted_name m.rows) m ops answers after answered (aligned_self m.rows)
