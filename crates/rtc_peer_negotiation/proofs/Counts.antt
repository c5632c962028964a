-- A plan has a row for each line of its text.
use Rattle.std.proofs.Common.{◌≡◌, ◌≤◌, List, Bool, length, max, Option, Result, Ok, Err, arith, ap}
use Rattle.std.specs.Prelude.{IfOk}
use Rattle.std.proofs.lemmas.List.{length-map}
use Rattle.rtc_sdp_values.specs.declared.line_row.LineRow.{LineRow}
use Rattle.rtc_sdp_values.specs.declared.sdp.Sdp.{Sdp}
use Rattle.rtc_peer_rows.specs.declared.plan.Plan.{Plan}
use Rattle.rtc_change.specs.declared.refusal.Refusal.{Refusal}
use Rattle.rtc_change.specs.Held.{Held, Asked}
use Rattle.rtc_change.specs.Plans.{PlansSdp, is_offer}
use Rattle.rtc_peer_rows.specs.ParsedLines.{parsed_lines, parsed_line}
use Rattle.rtc_change.specs.TableAfter.{table_after}
use Rattle.rtc_change.proofs.TableAfterLemmas.{length_table_after}

lines_of_taken : (rows : List LineRow) (text : Sdp) (offer : Bool) → length text.lines ≤ length (table_after rows (parsed_lines text) offer)
lines_of_taken rows text offer =
    let all : length (table_after rows (parsed_lines text) offer) ≡ max (length rows) (length (parsed_lines text)) = length_table_after rows (parsed_lines text) offer in
    let said : length (parsed_lines text) ≡ length text.lines = length-map text.lines (parsed_line text.groups) in
    omega arith

pub planned_count : (held : Held) (asked : Option Asked) (text : Sdp) (result : Result Plan Refusal) → PlansSdp held asked text result → IfOk result (λ plan. length text.lines ≤ length plan.rows)
planned_count held asked text (Ok plan) h =
    let rows : plan.rows ≡ table_after held.lines (parsed_lines text) (is_offer asked) = ap (λ p. p.rows) h.1 in
    let most : length text.lines ≤ length (table_after held.lines (parsed_lines text) (is_offer asked)) = lines_of_taken held.lines text (is_offer asked) in
    let same : length plan.rows ≡ length (table_after held.lines (parsed_lines text) (is_offer asked)) = ap length rows in
    omega arith
planned_count held asked text (Err refusal) h = tt
