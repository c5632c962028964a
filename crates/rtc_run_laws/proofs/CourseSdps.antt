-- Texts as a course sees them: the rows that an SDP leaves are said by the rows and lines without their mids.
use Rattle.std.proofs.Common.{◌≡◌, ◌+◌, ℕ, Bool, List, [], ◌∷◌, map, Some, None, refl, ◌∙◌, ap}
use Rattle.std.specs.Prelude.{slice_get}
use Rattle.rtc_sdp_values.specs.declared.line_row.LineRow.{LineRow}
use Rattle.rtc_sdp_values.specs.declared.line_row.LineRow.TheVariants.{Media, App}
use Rattle.rtc_sdp_values.specs.declared.media_kind.MediaKind.TheVariants.{Audio, Video}
use Rattle.rtc_peer_rows.specs.Table.{IsTable, row_of}
use Rattle.rtc_change.specs.TableAfter.{rows_after, row_after}
use Rattle.rtc_peer_rows.proofs.TableLemmas.{row_of_its_mid}
use Rattle.rtc_run_history.specs.SaidRows.{row_said}
use Rattle.rtc_run_history.specs.CourseRows.{unnamed, course_row_after, course_rows_after}
use Rattle.rtc_run_laws.proofs.FinishedRounds.{none_of_mid}
use Rattle.rtc_run_laws.proofs.RowNames.{SameName}
use Rattle.rtc_run_laws.proofs.RowsFollow.{NewRow, Follows, IsLeft, all_left, first_left, next_left, none_left}

known_taken : (rows : List LineRow) (offer : Bool) (place : ℕ) (own row : LineRow) → IsTable rows → slice_get rows place ≡ Some own → SameName own row
    → unnamed (row_after rows offer place (row_said row)) ≡ course_row_after offer place (Some (unnamed own)) (unnamed row)
known_taken rows offer place (Media p m k d s r) (Media at mid Audio dir stopped remote_created) table there same =
    let found : row_of rows mid ≡ Some (Media p m k d s r) = ap (row_of rows) same.0 ∙ row_of_its_mid rows place (Media p m k d s r) table.distinct there in rw found refl
known_taken rows offer place (Media p m k d s r) (Media at mid Video dir stopped remote_created) table there same =
    let found : row_of rows mid ≡ Some (Media p m k d s r) = ap (row_of rows) same.0 ∙ row_of_its_mid rows place (Media p m k d s r) table.distinct there in rw found refl
known_taken rows offer place (App p m) (App at mid) table there same = refl
known_taken rows offer place own row table there same = absurd same

new_taken : (rows : List LineRow) (offer : Bool) (place : ℕ) (row : LineRow) → NewRow rows row → unnamed (row_after rows offer place (row_said row)) ≡ course_row_after offer place None (unnamed row)
new_taken rows offer place (Media at mid Audio dir stopped remote_created) new = let found : row_of rows mid ≡ None = none_of_mid rows mid (row_of rows mid) refl new in rw found refl
new_taken rows offer place (Media at mid Video dir stopped remote_created) new = let found : row_of rows mid ≡ None = none_of_mid rows mid (row_of rows mid) refl new in rw found refl
new_taken rows offer place (App at mid) new = refl

left_taken : (rows : List LineRow) (offer : Bool) (place : ℕ) (left more : List LineRow) → IsTable rows → IsLeft rows place left → Follows rows left more
    → map unnamed (rows_after rows offer place (map row_said more)) ≡ course_rows_after offer place (map unnamed left) (map unnamed more)
left_taken rows offer place [] [] table at follows = refl
left_taken rows offer place [] (row ∷ more) table at follows =
    ap (λ first. first ∷ map unnamed (rows_after rows offer (place + 1) (map row_said more))) (new_taken rows offer place row follows.0)
    ∙ ap (λ rest. course_row_after offer place None (unnamed row) ∷ rest) (left_taken rows offer (place + 1) [] more table (none_left rows place at) follows.1)
left_taken rows offer place (own ∷ left) [] table at follows = absurd follows
left_taken rows offer place (own ∷ left) (row ∷ more) table at follows =
    ap (λ first. first ∷ map unnamed (rows_after rows offer (place + 1) (map row_said more))) (known_taken rows offer place own row table (first_left rows place (own ∷ left) at) follows.0)
    ∙ ap (λ rest. course_row_after offer place (Some (unnamed own)) (unnamed row) ∷ rest) (left_taken rows offer (place + 1) left more table (next_left rows place own left at) follows.1)

-- the rows that are left of an SDP that goes on from a table
pub sdp_accepted : (rows : List LineRow) (offer : Bool) (more : List LineRow) → IsTable rows → Follows rows rows more
    → map unnamed (rows_after rows offer 0 (map row_said more)) ≡ course_rows_after offer 0 (map unnamed rows) (map unnamed more)
sdp_accepted rows offer more table follows = left_taken rows offer 0 rows more table (all_left rows) follows
