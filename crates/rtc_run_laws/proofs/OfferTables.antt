-- The rows that ops leave and those that they add are a table.
use Rattle.std.proofs.Common.{◌≡◌, ℕ, true, false, List, ◌++◌, map, length, Option, refl, sym, subst}
use Rattle.std.specs.Prelude.{is_some}
use Rattle.rtc_sdp_values.specs.LineRow.{row_mid}
use Rattle.rtc_sdp_values.specs.declared.line_row.LineRow.{LineRow}
use Rattle.rtc_peer_rows.specs.Table.{IsTable}
use Rattle.rtc_run_history.specs.declared.side.Side.{Side}
use Rattle.rtc_run_history.specs.declared.op.Op.{Op}
use Rattle.rtc_run_history.specs.declared.op_answer.OpAnswer.{OpAnswer}
use Rattle.rtc_run_history.specs.declared.table.Table.{Table}
use Rattle.rtc_run_history.specs.Answers.{has_app_row, added}
use Rattle.rtc_run_history.specs.Past.{Entry, MadeSdp, before, new_app, numbers_told}
use Rattle.rtc_run_history.specs.Sound.{OpsAnswered, at_first}
use Rattle.rtc_peer_core.specs.Stance.{Stance}
use Rattle.rtc_run_laws.proofs.OpRows.{ops_table, ops_mids}
use Rattle.rtc_run_laws.proofs.AddedRows.{AreAdded, ops_add, offered_table}

-- where there is a line of data channels, none is added
pub app_unneeded : (rows : List LineRow) (said : List MadeSdp) → has_app_row rows ≡ true → is_some (new_app rows said) ≡ false
app_unneeded rows said there = rw there refl

-- what ops stage is new beside the rows that they leave
pub ops_new : {E : Type 0} → (s : Stance) (past : List (Entry E)) (at : Side) (app : Option (List ℕ)) (ops : List Op) (answers : List OpAnswer) (after : List LineRow) (place : ℕ) → OpsAnswered (at_first s at past app) ops answers after
    → AreAdded (is_some app) (map row_mid after) place (added app place ops answers)
ops_new s past at app ops answers after place answered =
    subst (λ (held : List (List ℕ)). AreAdded (is_some app) held place (added app place ops answers)) (sym (ops_mids (at_first s at past app) ops answers after answered))
    (ops_add (before at past) (map row_mid (before at past)) app s.channels (numbers_told at past) ops answers after place answered)

-- The rows of an offer are a table.
pub offer_table : {E : Type 0} → (s : Stance) (past : List (Entry E)) (at : Side) (ops : List Op) (answers : List OpAnswer) (table : Table) (said : List MadeSdp) → IsTable (before at past)
    → OpsAnswered (at_first s at past (new_app table.lines said)) ops answers table.lines → IsTable (table.lines ++ added (new_app table.lines said) (length table.lines) ops answers)
offer_table s past at ops answers table said is answered =
    offered_table table.lines (added (new_app table.lines said) (length table.lines) ops answers) (is_some (new_app table.lines said))
    (ops_table (at_first s at past (new_app table.lines said)) ops answers table.lines answered is) (app_unneeded table.lines said)
    (ops_new s past at (new_app table.lines said) ops answers table.lines (length table.lines) answered)
