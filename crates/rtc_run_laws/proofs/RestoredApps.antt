-- Rows that are restored have a line of data channels where they had one.
use Rattle.std.specs.List.{list_any}
use Rattle.std.proofs.Common.{◌≡◌, ◌∙◌, List, [], ◌∷◌, refl, sym}
use Rattle.rtc_sdp_values.specs.declared.direction.Direction.{Direction}
use Rattle.rtc_sdp_values.specs.declared.line_row.LineRow.{LineRow}
use Rattle.rtc_peer_rows.specs.RowChanges.{all_restored, changed_of, dir_restored, restored_row}
use Rattle.rtc_peer_rows.specs.Table.{is_app}
use Rattle.rtc_peer_rows.proofs.RowChangeLemmas.{AreAlike, changed_of_alike, restored_row_keeps}
use Rattle.rtc_peer_core.specs.Undo.{RowBefore}
use Rattle.rtc_run_history.specs.Answers.{has_app_row}
use Rattle.rtc_run_laws.proofs.AddedRows.{app_is_found}

apps_alike : (rows others : List LineRow) → AreAlike rows others → list_any is_app others ≡ list_any is_app rows
apps_alike [] [] alike = refl
apps_alike (row ∷ rows) (other ∷ others) alike = rw (alike.0.app, apps_alike rows others alike.1) refl
apps_alike [] (other ∷ others) alike = absurd alike
apps_alike (row ∷ rows) [] alike = absurd alike

-- rows that are alike have such a line, or both have none
pub app_alike : (rows others : List LineRow) → AreAlike rows others → has_app_row others ≡ has_app_row rows
app_alike rows others alike = app_is_found others ∙ apps_alike rows others alike ∙ sym (app_is_found rows)

pub restored_app : (undo : List RowBefore) (rows : List LineRow) → has_app_row (all_restored undo rows) ≡ has_app_row rows
restored_app [] rows = refl
restored_app (was ∷ more) rows =
    let to : Direction = dir_restored was.1 was.2 in
    restored_app more (changed_of (restored_row to was.2) was.0 rows)
    ∙ app_alike rows (changed_of (restored_row to was.2) was.0 rows) (changed_of_alike (restored_row to was.2) (restored_row_keeps to was.2) was.0 rows)
