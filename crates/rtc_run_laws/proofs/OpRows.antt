-- What ops leave of the rows that they act on: rows change where they stand, and none does where no op sets or stops a line.
use Rattle.std.proofs.Common.{◌≡◌, ℕ, Bool, true, false, List, [], ◌∷◌, map, refl, sym, ◌∙◌, subst}
use Rattle.std.specs.List.{list_any}
use Rattle.rtc_sdp_values.specs.LineRow.{row_mid}
use Rattle.rtc_sdp_values.specs.declared.direction.Direction.{Direction}
use Rattle.rtc_sdp_values.specs.declared.line_row.LineRow.{LineRow}
use Rattle.rtc_peer_rows.specs.RowChanges.{RowChange, directed_row, stopped_row, changed_at}
use Rattle.rtc_peer_rows.specs.Table.{IsTable, is_app}
use Rattle.rtc_peer_rows.proofs.RowChangeLemmas.{KeepsRow, directed_row_keeps, stopped_row_keeps, changed_at_alike, table_alike, AreAlike}
use Rattle.rtc_run_history.specs.declared.op.Op.{Op}
use Rattle.rtc_run_history.specs.declared.op.Op.TheVariants.{AddMedia, SetDirection, StopMedia, AddChannel, IceRestart}
use Rattle.rtc_run_history.specs.declared.op_answer.OpAnswer.{OpAnswer}
use Rattle.rtc_run_history.specs.declared.op_answer.OpAnswer.TheVariants.{Mid, Changed, NoLine, Channel, BadChannel, Creds, Alloc as OpAlloc}
use Rattle.rtc_run_history.specs.Answers.{has_app_row}
use Rattle.rtc_run_history.specs.Rounds.{sets_line}
use Rattle.rtc_run_history.specs.Sound.{Midway, holding_mid, having_rows, having_channel, OpsAnswered}

-- a fact that the change of a row at a place keeps
abbrev pub IsKeptBy : RowChange → (List LineRow → Type 0) → Type 0
IsKeptBy change P = (place : ℕ) (rows : List LineRow) → P rows → P (changed_at change place rows)

-- A fact of rows that both changes keep is one of the rows that ops leave.
pub ops_keep : (P : List LineRow → Type 0) → ((dir : Direction) → IsKeptBy (directed_row dir) P) → IsKeptBy stopped_row P
    → (m : Midway) (ops : List Op) (answers : List OpAnswer) (after : List LineRow) → OpsAnswered m ops answers after → P m.rows → P after
ops_keep P turns halts m [] [] after answered holds = subst P (sym answered) holds
ops_keep P turns halts m (AddMedia kind dir ∷ ops) (Mid mid ∷ answers) after answered holds = ops_keep P turns halts (holding_mid mid m) ops answers after answered.1 holds
ops_keep P turns halts m (AddMedia kind dir ∷ ops) (OpAlloc ∷ []) after answered holds = subst P (sym answered) holds
ops_keep P turns halts m (SetDirection place dir ∷ ops) (NoLine ∷ answers) after answered holds = ops_keep P turns halts m ops answers after answered.1 holds
ops_keep P turns halts m (SetDirection place dir ∷ ops) (Changed changed ∷ answers) after answered holds =
    ops_keep P turns halts (having_rows (changed_at (directed_row dir) place m.rows) m) ops answers after answered.1 (turns dir place m.rows holds)
ops_keep P turns halts m (SetDirection place dir ∷ ops) (OpAlloc ∷ []) after answered holds = subst P (sym answered) holds
ops_keep P turns halts m (StopMedia place ∷ ops) (NoLine ∷ answers) after answered holds = ops_keep P turns halts m ops answers after answered.1 holds
ops_keep P turns halts m (StopMedia place ∷ ops) (Changed changed ∷ answers) after answered holds =
    ops_keep P turns halts (having_rows (changed_at stopped_row place m.rows) m) ops answers after answered.1 (halts place m.rows holds)
ops_keep P turns halts m (StopMedia place ∷ ops) (OpAlloc ∷ []) after answered holds = subst P (sym answered) holds
ops_keep P turns halts m (AddChannel config ∷ ops) (Channel id ∷ answers) after answered holds = ops_keep P turns halts (having_channel id config m) ops answers after answered.2 holds
ops_keep P turns halts m (AddChannel config ∷ ops) (BadChannel ∷ answers) after answered holds = ops_keep P turns halts m ops answers after answered.1 holds
ops_keep P turns halts m (AddChannel config ∷ ops) (OpAlloc ∷ []) after answered holds = subst P (sym answered) holds
ops_keep P turns halts m (IceRestart keep ∷ ops) (Creds creds ∷ answers) after answered holds = ops_keep P turns halts m ops answers after answered holds
ops_keep P turns halts m (IceRestart keep ∷ ops) (OpAlloc ∷ []) after answered holds = subst P (sym answered) holds
ops_keep P turns halts m ops answers after answered holds = absurd answered

-- where no op sets or stops a line, the rows stay
pub unset_rows : (m : Midway) (ops : List Op) (answers : List OpAnswer) (after : List LineRow) → OpsAnswered m ops answers after → list_any sets_line ops ≡ false → after ≡ m.rows
unset_rows m [] [] after answered unset = answered
unset_rows m (AddMedia kind dir ∷ ops) (Mid mid ∷ answers) after answered unset = unset_rows (holding_mid mid m) ops answers after answered.1 unset
unset_rows m (AddMedia kind dir ∷ ops) (OpAlloc ∷ []) after answered unset = answered
unset_rows m (SetDirection place dir ∷ ops) answers after answered unset = absurd (cc)
unset_rows m (StopMedia place ∷ ops) answers after answered unset = absurd (cc)
unset_rows m (AddChannel config ∷ ops) (Channel id ∷ answers) after answered unset = unset_rows (having_channel id config m) ops answers after answered.2 unset
unset_rows m (AddChannel config ∷ ops) (BadChannel ∷ answers) after answered unset = unset_rows m ops answers after answered.1 unset
unset_rows m (AddChannel config ∷ ops) (OpAlloc ∷ []) after answered unset = answered
unset_rows m (IceRestart keep ∷ ops) (Creds creds ∷ answers) after answered unset = unset_rows m ops answers after answered unset
unset_rows m (IceRestart keep ∷ ops) (OpAlloc ∷ []) after answered unset = answered
unset_rows m ops answers after answered unset = absurd answered

-- ---- what each change keeps

table_changed : (change : RowChange) → KeepsRow change → IsKeptBy change IsTable
table_changed change keeps place rows table = table_alike rows (changed_at change place rows) (changed_at_alike change keeps place rows) table

-- ops leave a table of a table
pub ops_table : (m : Midway) (ops : List Op) (answers : List OpAnswer) (after : List LineRow) → OpsAnswered m ops answers after → IsTable m.rows → IsTable after
ops_table m ops answers after answered table = ops_keep IsTable (λ dir. table_changed (directed_row dir) (directed_row_keeps dir)) (table_changed stopped_row stopped_row_keeps) m ops answers after answered table

mids_alike : (rows others : List LineRow) → AreAlike rows others → map row_mid others ≡ map row_mid rows
mids_alike [] [] alike = refl
mids_alike (row ∷ rows) (other ∷ others) alike = rw (alike.0.mid, mids_alike rows others alike.1) refl
mids_alike [] (other ∷ others) alike = absurd alike
mids_alike (row ∷ rows) [] alike = absurd alike

mids_changed : (first : List LineRow) (change : RowChange) → KeepsRow change → IsKeptBy change (λ rows. map row_mid rows ≡ map row_mid first)
mids_changed first change keeps place rows same = mids_alike rows (changed_at change place rows) (changed_at_alike change keeps place rows) ∙ same

-- ops leave the mids
pub ops_mids : (m : Midway) (ops : List Op) (answers : List OpAnswer) (after : List LineRow) → OpsAnswered m ops answers after → map row_mid after ≡ map row_mid m.rows
ops_mids m ops answers after answered =
    ops_keep (λ others. map row_mid others ≡ map row_mid m.rows) (λ dir. mids_changed m.rows (directed_row dir) (directed_row_keeps dir)) (mids_changed m.rows stopped_row stopped_row_keeps) m ops answers after answered refl

-- whether there is a line of data channels
pub has_app-alike : (rows others : List LineRow) → AreAlike rows others → has_app_row others ≡ has_app_row rows
has_app-alike [] [] alike = refl
has_app-alike (row ∷ rows) (other ∷ others) alike = by (is_app row) refl alike.0.app (has_app-alike rows others alike.1)
  where
    by : (here : Bool) → is_app row ≡ here → is_app other ≡ is_app row → has_app_row others ≡ has_app_row rows → has_app_row (other ∷ others) ≡ has_app_row (row ∷ rows)
    by true is same rest = rw (same, is) refl
    by false is same rest = rw (same, is) rest
has_app-alike [] (other ∷ others) alike = absurd alike
has_app-alike (row ∷ rows) [] alike = absurd alike
