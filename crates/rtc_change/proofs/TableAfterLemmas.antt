-- The table that a text leaves is a table again.
use Rattle.std.proofs.Common.{◌≡◌, ◌+◌, ◌<◌, ◌⊎◌, ℕ, Bool, true, false, ◌||◌, List, [], ◌∷◌, ◌++◌, drop, map, length, Option, Some, None, refl, subst, inl, inr, arith, suc, ◌-◌, max, add-one, add-zero, length-append, length-drop}
use Rattle.std.specs.List.{list_any}
use Rattle.std.specs.Str.{bytes_eq}
use Rattle.std.proofs.lemmas.Slice.Eq.{bytes_eq-Decides}
use Rattle.std.proofs.lemmas.Bool.{eqb-true, or_parts, or_from, both_ways, false_from_ne_true}
use Rattle.std.proofs.lemmas.List.{drop-drop}
use Rattle.std.proofs.lemmas.List.Folds.{list_any-append}
use Rattle.rtc_sdp_values.specs.LineRow.{row_place, row_mid}
use Rattle.rtc_sdp_values.specs.declared.direction.Direction.{Direction}
use Rattle.rtc_sdp_values.specs.declared.line_row.LineRow.{LineRow}
use Rattle.rtc_sdp_values.specs.declared.line_row.LineRow.TheVariants.{Media, App}
use Rattle.rtc_sdp_values.specs.declared.media_kind.MediaKind.{MediaKind}
use Rattle.rtc_sdp_values.specs.declared.media_kind.MediaKind.TheVariants.{Audio as AudioMedia, Video as VideoMedia}
use Rattle.rtc_sdp_values.specs.declared.line_kind.LineKind.{LineKind}
use Rattle.rtc_sdp_values.specs.declared.line_kind.LineKind.TheVariants.{Audio, Video, Application, Unknown}
use Rattle.rtc_peer_rows.specs.declared.parsed_line.ParsedLine.{ParsedLine}
use Rattle.rtc_peer_rows.specs.Table.{IsTable, Rising, Distinct, OneApp, NoMore, is_of, has_mid, row_of, is_app, app_of}
use Rattle.rtc_sdp_values.specs.Mids.{AreDistinct, is_among}
use Rattle.rtc_peer_rows.specs.declared.why.Why.{Why}
use Rattle.std.specs.Option.{option_or}
use Rattle.rtc_sdp_values.specs.Sdp.{is_application}
use Rattle.rtc_peer_rows.specs.Verdict.{first_refusal, line_refusal, media_refusal, app_refusal}
use Rattle.rtc_change.specs.TableAfter.{table_after, rows_after, row_after, app_mid}
use Rattle.rtc_peer_rows.proofs.TableLemmas.{found_at, found_passes, none_passes, rising_drop, distinct_drop, one_app_drop, none_drop, none_drop_more, passes_among, found_fails, none_one_app}

-- a mid is that of the row at a place, or it is a line's and no row has it
abbrev pub Origin : List LineRow → ℕ → List ℕ → List ℕ → Type 0
Origin rows place parsed mid =
    ((row : LineRow) × (drop place rows ≡ row ∷ drop (suc place) rows) × (row_mid row ≡ mid))
    ⊎ ((mid ≡ parsed) × (has_mid mid rows ≡ false))

media_origin : (rows : List LineRow) (offer : Bool) (place : ℕ) (kind : MediaKind) (mid : List ℕ) (found : Option LineRow)
    → Rising 0 rows → row_of rows mid ≡ found → media_refusal rows offer place kind mid ≡ None → Origin rows place mid mid
media_origin rows offer place kind mid None rising is allowed = inr (refl, none_passes (is_of mid) rows is)
media_origin rows offer place kind mid (Some (App p m)) rising is allowed =
    let stands = rw is at allowed in absurd (cc)
media_origin rows offer place kind mid (Some (Media p m k dir stopped remote_created)) rising is allowed =
    let stands = rw is at allowed in
    let at : p ≡ 0 + place = grind (arith, eqb-true) in
    inl (
      Media p m k dir stopped remote_created,
      found_at (is_of mid) 0 rows _ place rising is at,
      (bytes_eq-Decides m mid).0 (found_passes (is_of mid) rows _ is),
    )

app_origin : (rows : List LineRow) (came : Bool) (place : ℕ) (mid : List ℕ) (found : Option LineRow)
    → Rising 0 rows → app_of rows ≡ found → app_refusal rows came place mid ≡ None → Origin rows place mid (app_mid mid found)
app_origin rows came place mid None rising is allowed =
    let stands = rw is at allowed in inr (refl, grind arith)
app_origin rows came place mid (Some row) rising is allowed =
    let stands = rw is at allowed in
    let at : row_place row ≡ 0 + place = grind (arith, eqb-true) in
    inl (row, found_at is_app 0 rows row place rising is at, refl)

origin : (rows : List LineRow) (offer came : Bool) (place : ℕ) (parsed : ParsedLine)
    → Rising 0 rows → line_refusal rows offer came place parsed ≡ None → Origin rows place parsed.mid (row_mid (row_after rows offer place parsed))
origin rows offer came place parsed rising = by parsed.kind parsed.mid parsed.dir parsed.rejected
  where
    by : (kind : LineKind) (mid : List ℕ) (dir : Direction) (rejected : Bool)
        → let line : ParsedLine = record { kind = kind; mid = mid; dir = dir; rejected = rejected } in
        line_refusal rows offer came place line ≡ None → Origin rows place mid (row_mid (row_after rows offer place line))
    by Audio mid dir rejected allowed = media_origin rows offer place AudioMedia mid (row_of rows mid) rising refl allowed
    by Video mid dir rejected allowed = media_origin rows offer place VideoMedia mid (row_of rows mid) rising refl allowed
    by Application mid dir rejected allowed = app_origin rows came place mid (app_of rows) rising refl allowed
    by Unknown mid dir rejected allowed = absurd (cc)

-- the parts of a refusal that does not come
neither : (rows : List LineRow) (offer came : Bool) (place : ℕ) (line : ParsedLine) (parsed : List ParsedLine)
    → first_refusal rows offer came place (line ∷ parsed) ≡ None
    → (line_refusal rows offer came place line ≡ None) × (first_refusal rows offer (came || is_application line.kind) (place + 1) parsed ≡ None)
neither rows offer came place line parsed allowed = none_of _ _ allowed
  where
    none_of : (one next : Option Why) → option_or one next ≡ None → (one ≡ None) × (next ≡ None)
    none_of None next allowed = (refl, allowed)
    none_of (Some why) next allowed = absurd (cc)

mid_apart : (rows : List LineRow) (offer : Bool) (place : ℕ) (mid : List ℕ) (line : ParsedLine)
    → has_mid mid rows ≡ false → bytes_eq line.mid mid ≡ false → is_of mid (row_after rows offer place line) ≡ false
mid_apart rows offer place mid line unheld = by line.kind line.mid line.dir line.rejected
  where
    by_app : (own : List ℕ) (found : Option LineRow) → app_of rows ≡ found → bytes_eq own mid ≡ false → bytes_eq (app_mid own found) mid ≡ false
    by_app own None is apart = apart
    by_app own (Some row) is apart = found_fails is_app (is_of mid) rows row is unheld

    by : (kind : LineKind) (own : List ℕ) (dir : Direction) (rejected : Bool) → bytes_eq own mid ≡ false
        → is_of mid (row_after rows offer place (record { kind = kind; mid = own; dir = dir; rejected = rejected })) ≡ false
    by Audio own dir rejected apart = apart
    by Video own dir rejected apart = apart
    by Application own dir rejected apart = by_app own (app_of rows) refl apart
    by Unknown own dir rejected apart = apart

-- a mid that no row and no line has is in no row afterwards
pub unheld_apart : (rows : List LineRow) (offer : Bool) (place : ℕ) (mid : List ℕ) (parsed : List ParsedLine) (n : ℕ)
    → has_mid mid rows ≡ false → is_among (map (λ line. line.mid) parsed) mid ≡ false
    → has_mid mid (rows_after rows offer place parsed ++ drop n rows) ≡ false
unheld_apart rows offer place mid [] n unheld unsaid = none_drop (is_of mid) n rows unheld
unheld_apart rows offer place mid (line ∷ parsed) n unheld unsaid =
    let parts = or_parts _ _ unsaid in
    or_from _ _ (mid_apart rows offer place mid line unheld parts.0) (unheld_apart rows offer (place + 1) mid parsed n unheld parts.1)

-- the mid of a row before these places is in no row afterwards
held_apart : (rows : List LineRow) (offer came : Bool) (place : ℕ) (mid : List ℕ) (parsed : List ParsedLine) (n : ℕ)
    → Rising 0 rows → has_mid mid rows ≡ true → has_mid mid (drop place rows) ≡ false
    → first_refusal rows offer came place parsed ≡ None → n ≡ place + length parsed
    → has_mid mid (rows_after rows offer place parsed ++ drop n rows) ≡ false
held_apart rows offer came place mid [] n rising held before allowed count = rw (count, add-zero) before
held_apart rows offer came place mid (line ∷ parsed) n rising held before allowed count =
    let parts = neither rows offer came place line parsed allowed in
    or_from _ _
    (by (row_mid (row_after rows offer place line)) (origin rows offer came place line rising parts.0))
    (held_apart rows offer _ (place + 1) mid parsed n rising held (rw add-one (none_drop_more (is_of mid) place rows before)) parts.1 (omega arith))
  where
    by : (own : List ℕ) → Origin rows place line.mid own → bytes_eq own mid ≡ false
    by own (inl (row, at, same)) = subst (λ (bytes : List ℕ). bytes_eq bytes mid ≡ false) same ((or_parts _ _ (rw at at before)).0)
    by own (inr (same, unheld)) = false_from_ne_true _ (λ equal. both_ways (has_mid mid rows) (subst (λ (bytes : List ℕ). has_mid bytes rows ≡ false) ((bytes_eq-Decides own mid).0 equal) unheld) held)

distinct_after : (rows : List LineRow) (offer came : Bool) (place : ℕ) (parsed : List ParsedLine) (n : ℕ)
    → Rising 0 rows → Distinct rows → first_refusal rows offer came place parsed ≡ None → AreDistinct (map (λ line. line.mid) parsed)
    → n ≡ place + length parsed → Distinct (rows_after rows offer place parsed ++ drop n rows)
distinct_after rows offer came place [] n rising distinct allowed mids count = distinct_drop n rows distinct
distinct_after rows offer came place (line ∷ parsed) n rising distinct allowed mids count =
    let parts = neither rows offer came place line parsed allowed in
    let later : n ≡ (place + 1) + length parsed = omega arith in (
      by parts.1 later _ (origin rows offer came place line rising parts.0),
      distinct_after rows offer _ (place + 1) parsed n rising distinct parts.1 mids.1 later,
    )
  where
    by : first_refusal rows offer (came || is_application line.kind) (place + 1) parsed ≡ None → n ≡ (place + 1) + length parsed
        → (own : List ℕ) → Origin rows place line.mid own → has_mid own (rows_after rows offer (place + 1) parsed ++ drop n rows) ≡ false
    by rest later own (inl (row, at, same)) =
        let alone = subst Distinct at (distinct_drop place rows distinct) in
        let held = passes_among (is_of (row_mid row)) place rows (drop (suc place) rows) row at ((bytes_eq-Decides (row_mid row) (row_mid row)).1 refl) in
        subst (λ (bytes : List ℕ). has_mid bytes (rows_after rows offer (place + 1) parsed ++ drop n rows) ≡ false) same
        (held_apart rows offer _ (place + 1) (row_mid row) parsed n rising held (rw add-one alone.0) rest later)
    by rest later own (inr (same, unheld)) =
        unheld_apart rows offer (place + 1) own parsed n unheld (rw same mids.0)

rising_after : (rows : List LineRow) (offer : Bool) (place : ℕ) (parsed : List ParsedLine) (n : ℕ)
    → Rising 0 rows → n ≡ place + length parsed → Rising place (rows_after rows offer place parsed ++ drop n rows)
rising_after rows offer place [] n rising count = subst (λ (at : ℕ). Rising at (drop n rows)) (omega arith) (rising_drop 0 n rows rising)
rising_after rows offer place (line ∷ parsed) n rising count =
    (at line.kind line.mid line.dir line.rejected, rising_after rows offer (place + 1) parsed n rising (omega arith))
  where
    at : (kind : LineKind) (mid : List ℕ) (dir : Direction) (rejected : Bool)
        → row_place (row_after rows offer place (record { kind = kind; mid = mid; dir = dir; rejected = rejected })) ≡ place
    at Audio mid dir rejected = refl
    at Video mid dir rejected = refl
    at Application mid dir rejected = refl
    at Unknown mid dir rejected = refl

-- after an application line of the text no other is allowed
no_more_apps : (rows : List LineRow) (offer : Bool) (place : ℕ) (parsed : List ParsedLine)
    → first_refusal rows offer true place parsed ≡ None → list_any is_app (rows_after rows offer place parsed) ≡ false
no_more_apps rows offer place [] allowed = refl
no_more_apps rows offer place (line ∷ parsed) allowed =
    let parts = neither rows offer true place line parsed allowed in
    or_from _ _ (by line.kind line.mid line.dir line.rejected parts.0) (no_more_apps rows offer (place + 1) parsed parts.1)
  where
    by_app : (mid : List ℕ) (found : Option LineRow) → app_of rows ≡ found → app_refusal rows true place mid ≡ None → ⊥
    by_app mid None is allowed = let stands = rw is at allowed in cc
    by_app mid (Some row) is allowed = let stands = rw is at allowed in grind arith

    by : (kind : LineKind) (mid : List ℕ) (dir : Direction) (rejected : Bool)
        → let parsed : ParsedLine = record { kind = kind; mid = mid; dir = dir; rejected = rejected } in
        line_refusal rows offer true place parsed ≡ None → is_app (row_after rows offer place parsed) ≡ false
    by Audio mid dir rejected allowed = refl
    by Video mid dir rejected allowed = refl
    by Application mid dir rejected allowed = absurd (by_app mid (app_of rows) refl allowed)
    by Unknown mid dir rejected allowed = absurd (cc)

-- past the place of an application line there is no row of data channels
none_past : (rows : List LineRow) (came : Bool) (place n : ℕ) (mid : List ℕ) (found : Option LineRow)
    → Rising 0 rows → OneApp rows → app_of rows ≡ found → app_refusal rows came place mid ≡ None → place < n → list_any is_app (drop n rows) ≡ false
none_past rows came place n mid None rising one is allowed past = none_drop is_app n rows (none_passes is_app rows is)
none_past rows came place n mid (Some row) rising one is allowed past =
    let stands = rw is at allowed in
    let here : row_place row ≡ 0 + place = grind (arith, eqb-true) in
    let at = found_at is_app 0 rows row place rising is here in
    let last = subst OneApp at (one_app_drop place rows one) in
    let none : NoMore true (drop (suc place) rows) = subst (λ (app : Bool). NoMore app (drop (suc place) rows)) (found_passes is_app rows row is) last.0 in
    let end : suc place + (n - suc place) ≡ n = omega arith in
    subst (λ (from : ℕ). list_any is_app (drop from rows) ≡ false) end
    (rw (← drop-drop (n - suc place) (suc place) rows) (none_drop is_app (n - suc place) (drop (suc place) rows) none))

one_app_after : (rows : List LineRow) (offer : Bool) (place : ℕ) (parsed : List ParsedLine) (n : ℕ)
    → Rising 0 rows → OneApp rows → first_refusal rows offer false place parsed ≡ None
    → n ≡ place + length parsed → OneApp (rows_after rows offer place parsed ++ drop n rows)
one_app_after rows offer place [] n rising one allowed count = one_app_drop n rows one
one_app_after rows offer place (line ∷ parsed) n rising one allowed count =
    let parts = neither rows offer false place line parsed allowed in
    let more = λ (rest : first_refusal rows offer false (place + 1) parsed ≡ None). one_app_after rows offer (place + 1) parsed n rising one rest (omega arith) in
    by line.kind line.mid line.dir line.rejected more parts.0 parts.1
  where
    by : (kind : LineKind) (mid : List ℕ) (dir : Direction) (rejected : Bool)
        → (first_refusal rows offer false (place + 1) parsed ≡ None → OneApp (rows_after rows offer (place + 1) parsed ++ drop n rows))
        → let line : ParsedLine = record { kind = kind; mid = mid; dir = dir; rejected = rejected } in
        line_refusal rows offer false place line ≡ None → first_refusal rows offer (false || is_application kind) (place + 1) parsed ≡ None
        → OneApp (row_after rows offer place line ∷ (rows_after rows offer (place + 1) parsed ++ drop n rows))
    by Audio mid dir rejected more allowed rest = (tt, more rest)
    by Video mid dir rejected more allowed rest = (tt, more rest)
    by Application mid dir rejected more allowed rest =
        let none : list_any is_app (rows_after rows offer (place + 1) parsed ++ drop n rows) ≡ false =
        rw (list_any-append is_app (rows_after rows offer (place + 1) parsed) (drop n rows))
        (or_from _ _ (no_more_apps rows offer (place + 1) parsed rest)
        (none_past rows false place n mid (app_of rows) rising one refl allowed (omega arith))) in
        (none, none_one_app _ none)
    by Unknown mid dir rejected more allowed rest = absurd (cc)

-- the table that a text leaves is a table, where no line is refused and the lines have distinct mids
pub table_after_is_table : (rows : List LineRow) (offer : Bool) (parsed : List ParsedLine)
    → IsTable rows → first_refusal rows offer false 0 parsed ≡ None → AreDistinct (map (λ line. line.mid) parsed) → IsTable (table_after rows parsed offer)
table_after_is_table rows offer parsed table allowed mids = record {
  rising = rising_after rows offer 0 parsed (length parsed) table.rising (omega arith);
  distinct = distinct_after rows offer false 0 parsed (length parsed) table.rising table.distinct allowed mids (omega arith);
  one_app = one_app_after rows offer 0 parsed (length parsed) table.rising table.one_app allowed (omega arith);
}

pub length_rows_after : (rows : List LineRow) (offer : Bool) (place : ℕ) (parsed : List ParsedLine) → length (rows_after rows offer place parsed) ≡ length parsed
length_rows_after rows offer place [] = refl
length_rows_after rows offer place (line ∷ parsed) = grind (arith, length_rows_after rows offer (place + 1) parsed)

-- the table that a text leaves has a row for each line, and no row fewer than before
pub length_table_after : (rows : List LineRow) (parsed : List ParsedLine) (offer : Bool) → length (table_after rows parsed offer) ≡ max (length rows) (length parsed)
length_table_after rows parsed offer =
    rw (length-append (rows_after rows offer 0 parsed) (drop (length parsed) rows), length_rows_after rows offer 0 parsed, length-drop (length parsed) rows) (omega arith)

-- a bound on the rows and the lines is one on the rows afterwards
pub few_table_after : (rows : List LineRow) (parsed : List ParsedLine) (offer : Bool) (bound : ℕ)
    → length rows < bound → length parsed < bound → length (table_after rows parsed offer) < bound
few_table_after rows parsed offer bound few_rows few_lines = omega (arith, length_table_after rows parsed offer)
