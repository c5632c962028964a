-- The first row of each side stays live where no op stops it, so that each SDP of a round has a live line.
use Rattle.std.proofs.Common.{◌≡◌, ℕ, Bool, true, false, List, [], ◌∷◌, ◌++◌, map, Some, refl, sym, ◌∙◌, ap, subst, zero, suc, length, ◌≢◌}
use Rattle.rtc_sdp_values.specs.Direction.{same_direction}
use Rattle.rtc_sdp_values.specs.LineRow.{row_mid}
use Rattle.rtc_sdp_values.specs.declared.direction.Direction.{Direction}
use Rattle.rtc_sdp_values.specs.declared.line_row.LineRow.{LineRow}
use Rattle.rtc_sdp_values.specs.declared.line_row.LineRow.TheVariants.{Media, App}
use Rattle.rtc_sdp_values.specs.declared.media_kind.MediaKind.TheVariants.{Audio, Video}
use Rattle.rtc_peer_rows.specs.RowChanges.{directed_row, stopped_row, row_after_change, changed_at}
use Rattle.rtc_peer_rows.specs.Table.{IsTable, row_of}
use Rattle.rtc_change.specs.TableAfter.{rows_after, row_after}
use Rattle.rtc_peer_rows.proofs.TableLemmas.{row_of_its_mid}
use Rattle.rtc_peer_core.specs.MadeSdp.{is_stopped}
use Rattle.rtc_run_history.specs.declared.op.Op.{Op}
use Rattle.rtc_run_history.specs.declared.op.Op.TheVariants.{AddMedia, SetDirection, StopMedia, AddChannel, IceRestart}
use Rattle.rtc_run_history.specs.declared.op_answer.OpAnswer.{OpAnswer}
use Rattle.rtc_run_history.specs.declared.op_answer.OpAnswer.TheVariants.{Mid, Changed, NoLine, Channel, BadChannel, Alloc as OpAlloc, Creds}
use Rattle.rtc_run_history.specs.CourseRows.{do_stop_first}
use Rattle.rtc_run_history.specs.SaidRows.{row_said, are_live}
use Rattle.rtc_run_history.specs.Sound.{Midway, holding_mid, having_rows, having_channel, OpsAnswered}
use Rattle.rtc_run_laws.proofs.AddedRows.{AreAdded}
use Rattle.rtc_run_laws.proofs.RowNames.{SameName}
use Rattle.rtc_run_laws.proofs.RowsFollow.{Follows}

-- the first row, if there is one, is live
abbrev pub KeepsLive : List LineRow → Type 0
KeepsLive [] = Unit {0}
KeepsLive (row ∷ rows) = is_stopped row ≡ false

-- there is a first row, and it is live
abbrev pub StartsLive : List LineRow → Type 0
StartsLive [] = ⊥
StartsLive (row ∷ rows) = is_stopped row ≡ false

pub starts_are_live : (rows : List LineRow) → StartsLive rows → are_live rows ≡ true
starts_are_live [] live = absurd live
starts_are_live (row ∷ rows) live = rw live refl

pub starts_keep : (rows : List LineRow) → StartsLive rows → KeepsLive rows
starts_keep [] live = absurd live
starts_keep (row ∷ rows) live = live

-- ---- ops

turned_live : (dir : Direction) (row : LineRow) → is_stopped row ≡ false → is_stopped (row_after_change (directed_row dir) row) ≡ false
turned_live dir (Media place mid kind own true remote_created) live = absurd (cc)
turned_live dir (Media place mid kind own false remote_created) live = by (same_direction own dir) refl
  where
    by : (same : Bool) → same_direction own dir ≡ same → is_stopped (row_after_change (directed_row dir) (Media place mid kind own false remote_created)) ≡ false
    by true is = rw is refl
    by false is = rw is refl
turned_live dir (App place mid) live = live

turned_keep : (dir : Direction) (place : ℕ) (rows : List LineRow) → KeepsLive rows → KeepsLive (changed_at (directed_row dir) place rows)
turned_keep dir place [] live = tt
turned_keep dir zero (row ∷ rows) live = turned_live dir row live
turned_keep dir (suc place) (row ∷ rows) live = live

halted_keep : (place : ℕ) (rows : List LineRow) → KeepsLive rows → KeepsLive (changed_at stopped_row (suc place) rows)
halted_keep place [] live = tt
halted_keep place (row ∷ rows) live = live

-- ops that do not stop the first row leave it live
pub ops_live : (m : Midway) (ops : List Op) (answers : List OpAnswer) (after : List LineRow) → OpsAnswered m ops answers after → do_stop_first ops ≡ false → KeepsLive m.rows → KeepsLive after
ops_live m [] [] after answered stays live = subst KeepsLive (sym answered) live
ops_live m (AddMedia kind dir ∷ ops) (Mid mid ∷ answers) after answered stays live = ops_live (holding_mid mid m) ops answers after answered.1 stays live
ops_live m (AddMedia kind dir ∷ ops) (OpAlloc ∷ []) after answered stays live = subst KeepsLive (sym answered) live
ops_live m (SetDirection place dir ∷ ops) (NoLine ∷ answers) after answered stays live = ops_live m ops answers after answered.1 stays live
ops_live m (SetDirection place dir ∷ ops) (Changed changed ∷ answers) after answered stays live = ops_live (having_rows (changed_at (directed_row dir) place m.rows) m) ops answers after answered.1 stays (turned_keep dir place m.rows live)
ops_live m (SetDirection place dir ∷ ops) (OpAlloc ∷ []) after answered stays live = subst KeepsLive (sym answered) live
ops_live m (StopMedia zero ∷ ops) answers after answered stays live = absurd (cc)
ops_live m (StopMedia (suc place) ∷ ops) (NoLine ∷ answers) after answered stays live = ops_live m ops answers after answered.1 stays live
ops_live m (StopMedia (suc place) ∷ ops) (Changed changed ∷ answers) after answered stays live = ops_live (having_rows (changed_at stopped_row (suc place) m.rows) m) ops answers after answered.1 stays (halted_keep place m.rows live)
ops_live m (StopMedia (suc place) ∷ ops) (OpAlloc ∷ []) after answered stays live = subst KeepsLive (sym answered) live
ops_live m (AddChannel config ∷ ops) (Channel id ∷ answers) after answered stays live = ops_live (having_channel id config m) ops answers after answered.2 stays live
ops_live m (AddChannel config ∷ ops) (BadChannel ∷ answers) after answered stays live = ops_live m ops answers after answered.1 stays live
ops_live m (AddChannel config ∷ ops) (OpAlloc ∷ []) after answered stays live = subst KeepsLive (sym answered) live
ops_live m (IceRestart keep ∷ ops) (Creds creds ∷ answers) after answered stays live = ops_live m ops answers after answered stays live
ops_live m (IceRestart keep ∷ ops) (OpAlloc ∷ []) after answered stays live = subst KeepsLive (sym answered) live
ops_live m ops answers after answered stays live = absurd answered

-- rows that are added are live
added_live : (may : Bool) (held : List (List ℕ)) (place : ℕ) (rows : List LineRow) → AreAdded may held place rows → KeepsLive rows
added_live may held place [] new = tt
added_live may held place (Media at mid kind dir stopped remote_created ∷ rows) new = new.0.live
added_live may held place (App at mid ∷ rows) new = refl

-- an offer of at least one row starts with a live row
pub offer_live : (after : List LineRow) (may : Bool) (held : List (List ℕ)) (place : ℕ) (more : List LineRow) → KeepsLive after → AreAdded may held place more → length (after ++ more) ≢ 0 → StartsLive (after ++ more)
offer_live (row ∷ after) may held place more live new some = live
offer_live [] may held place [] live new some = absurd (some refl)
offer_live [] may held place (row ∷ more) live new some = added_live may held place (row ∷ more) new

-- ---- SDPs

known_live : (rows : List LineRow) (offer : Bool) (own row : LineRow) → row_of rows (row_mid own) ≡ Some own → SameName own row → is_stopped own ≡ false → is_stopped row ≡ false
    → is_stopped (row_after rows offer 0 (row_said row)) ≡ false
known_live rows offer (Media p m k d s r) (Media at mid Audio dir stopped remote_created) there same own_live live =
    let found : row_of rows mid ≡ Some (Media p m k d s r) = ap (row_of rows) same.0 ∙ there in rw (found, live, own_live) refl
known_live rows offer (Media p m k d s r) (Media at mid Video dir stopped remote_created) there same own_live live =
    let found : row_of rows mid ≡ Some (Media p m k d s r) = ap (row_of rows) same.0 ∙ there in rw (found, live, own_live) refl
known_live rows offer (App p m) (App at mid) there same own_live live = refl
known_live rows offer own row there same own_live live = absurd same

-- an SDP that goes on from rows, and starts with a live line, leaves a live first row where theirs was live
pub text_live : (rows : List LineRow) (offer : Bool) (more : List LineRow) → IsTable rows → Follows rows rows more → KeepsLive rows → StartsLive more → StartsLive (rows_after rows offer 0 (map row_said more))
text_live rows offer [] table follows live starts = absurd starts
text_live (own ∷ rows) offer (row ∷ more) table follows live starts = known_live (own ∷ rows) offer own row (row_of_its_mid (own ∷ rows) 0 own table.distinct refl) follows.0 live starts
text_live [] offer (Media at mid Audio dir stopped remote_created ∷ more) table follows live starts = rw starts refl
text_live [] offer (Media at mid Video dir stopped remote_created ∷ more) table follows live starts = rw starts refl
text_live [] offer (App at mid ∷ more) table follows live starts = refl
