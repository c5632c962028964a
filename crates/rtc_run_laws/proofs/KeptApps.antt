-- The line of data channels stays where a session description is accepted.
use Rattle.std.proofs.Common.{◌≡◌, ◌∙◌, ◌+◌, ◌||◌, ℕ, Bool, true, false, List, [], ◌∷◌, ◌++◌, drop, length, Option, Some, None, refl, sym, arith}
use Rattle.std.specs.Prelude.{slice_get}
use Rattle.std.specs.List.{list_any}
use Rattle.std.specs.Option.{option_or}
use Rattle.std.proofs.lemmas.Bool.{eqb-true}
use Rattle.rtc_sdp_values.specs.Sdp.{is_application}
use Rattle.rtc_sdp_values.specs.declared.direction.Direction.{Direction}
use Rattle.rtc_sdp_values.specs.declared.line_kind.LineKind.{LineKind}
use Rattle.rtc_sdp_values.specs.declared.line_kind.LineKind.TheVariants.{Audio, Video, Application, Unknown}
use Rattle.rtc_sdp_values.specs.declared.line_row.LineRow.{LineRow}
use Rattle.rtc_sdp_values.specs.declared.line_row.LineRow.TheVariants.{Media, App}
use Rattle.rtc_sdp_values.specs.declared.media_kind.MediaKind.{MediaKind}
use Rattle.rtc_sdp_values.specs.declared.media_kind.MediaKind.TheVariants.{Audio as AudioMedia, Video as VideoMedia}
use Rattle.rtc_sdp_values.specs.declared.sdp.Sdp.{Sdp}
use Rattle.rtc_peer_rows.specs.declared.parsed_line.ParsedLine.{ParsedLine}
use Rattle.rtc_peer_rows.specs.ParsedLines.{parsed_lines}
use Rattle.rtc_peer_rows.specs.Table.{IsTable, Rising, is_of, row_of, is_app}
use Rattle.rtc_peer_rows.specs.Verdict.{first_refusal, line_refusal, media_refusal}
use Rattle.rtc_peer_rows.proofs.TableLemmas.{row_at_place}
use Rattle.rtc_change.specs.Held.{Held, Asked}
use Rattle.rtc_change.specs.Plans.{is_offer, verdict}
use Rattle.rtc_change.specs.TableAfter.{table_after, rows_after, row_after}
use Rattle.rtc_change.proofs.VerdictLemmas.{unrefused}
use Rattle.rtc_run_history.specs.Answers.{has_app_row}
use Rattle.rtc_run_laws.proofs.AddedRows.{app_is_found}
use Rattle.rtc_run_laws.proofs.RowsFollow.{IsLeft, all_left, first_left, next_left}

-- at its place no line of media is allowed
no_media : (rows : List LineRow) (offer : Bool) (place : ℕ) (kind : MediaKind) (mid : List ℕ) (found : Option LineRow) (p : ℕ) (own : List ℕ) → Rising 0 rows
    → slice_get rows place ≡ Some (App p own) → row_of rows mid ≡ found → media_refusal rows offer place kind mid ≡ None → ⊥
no_media rows offer place kind mid None p own rising there is allowed =
    let stands = rw (is, there) at allowed in cc
no_media rows offer place kind mid (Some (App q other)) p own rising there is allowed =
    let stands = rw is at allowed in cc
no_media rows offer place kind mid (Some (Media q other k dir stopped remote_created)) p own rising there is allowed =
    let stands = rw is at allowed in
    let at : q ≡ place = grind (arith, eqb-true) in
    let here : slice_get rows place ≡ Some (Media q other k dir stopped remote_created) =
    row_at_place (is_of mid) 0 rows (Media q other k dir stopped remote_created) place rising is (omega (arith, at)) in
    cc

line_app : (rows : List LineRow) (offer came : Bool) (place : ℕ) (line : ParsedLine) (p : ℕ) (own : List ℕ) → Rising 0 rows
    → slice_get rows place ≡ Some (App p own) → line_refusal rows offer came place line ≡ None → is_app (row_after rows offer place line) ≡ true
line_app rows offer came place line p own rising there = by line.kind line.mid line.dir line.rejected
  where
    by : (kind : LineKind) (mid : List ℕ) (dir : Direction) (rejected : Bool)
        → let line : ParsedLine = record { kind = kind; mid = mid; dir = dir; rejected = rejected } in
        line_refusal rows offer came place line ≡ None → is_app (row_after rows offer place line) ≡ true
    by Audio mid dir rejected allowed = absurd (no_media rows offer place AudioMedia mid (row_of rows mid) p own rising there refl allowed)
    by Video mid dir rejected allowed = absurd (no_media rows offer place VideoMedia mid (row_of rows mid) p own rising there refl allowed)
    by Application mid dir rejected allowed = refl
    by Unknown mid dir rejected allowed = absurd (cc)

neither : {A : Type 0} (one next : Option A) → option_or one next ≡ None → (one ≡ None) × (next ≡ None)
neither None next none = (refl, none)
neither (Some first) next none = absurd (cc)

or_true : (b : Bool) → (b || true) ≡ true
or_true true = refl
or_true false = refl

rows_keep : (rows : List LineRow) (offer came : Bool) (place : ℕ) (said : List ParsedLine) (left : List LineRow) → Rising 0 rows → IsLeft rows place left
    → first_refusal rows offer came place said ≡ None → list_any is_app left ≡ true
    → list_any is_app (rows_after rows offer place said ++ drop (length said) left) ≡ true
rows_keep rows offer came place [] [] rising at allowed has = absurd (cc)
rows_keep rows offer came place (line ∷ said) [] rising at allowed has = absurd (cc)
rows_keep rows offer came place [] (row ∷ left) rising at allowed has = has
rows_keep rows offer came place (line ∷ said) (row ∷ left) rising at allowed has =
    let parts = neither _ _ allowed in
    by row (first_left rows place (row ∷ left) at) has
    (rows_keep rows offer (came || is_application line.kind) (place + 1) said left rising (next_left rows place row left at) parts.1) parts.0
  where
    rest : List LineRow
    rest = rows_after rows offer (place + 1) said ++ drop (length said) left

    by : (own : LineRow) → slice_get rows place ≡ Some own → list_any is_app (own ∷ left) ≡ true → (list_any is_app left ≡ true → list_any is_app rest ≡ true)
        → line_refusal rows offer came place line ≡ None → list_any is_app (row_after rows offer place line ∷ rest) ≡ true
    by (App p own) there has more allowed = rw (line_app rows offer came place line p own rising there allowed) refl
    by (Media p own kind dir stopped remote_created) there has more allowed = rw (more has) (or_true (is_app (row_after rows offer place line)))

-- A session description that is not refused leaves it to a side that has it.
pub app_stays : (held : Held) (asked : Option Asked) (sdp : Sdp) → IsTable held.lines → verdict held asked sdp ≡ None → has_app_row held.lines ≡ true
    → has_app_row (table_after held.lines (parsed_lines sdp) (is_offer asked)) ≡ true
app_stays held asked sdp table none has =
    app_is_found (table_after held.lines (parsed_lines sdp) (is_offer asked))
    ∙ rows_keep held.lines (is_offer asked) false 0 (parsed_lines sdp) held.lines table.rising (all_left held.lines) (unrefused held asked sdp none).allowed
    (sym (app_is_found held.lines) ∙ has)
