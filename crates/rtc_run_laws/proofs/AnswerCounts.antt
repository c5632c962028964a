-- An answer that is not refused has a line for each row of its offer: those that were there, then the added ones.
use Rattle.rtc_change.specs.Held.{Asked}
use Rattle.std.proofs.Common.{◌≡◌, ◌+◌, ◌-◌, ◌<◌, ◌≤◌, ◌==◌, ℕ, Bool, true, false, ◌||◌, List, [], ◌∷◌, length, Option, Some, None, refl, arith, max, cond, ap}
use Rattle.std.specs.Prelude.{slice_get, option_map, find, is_some, not}
use Rattle.std.proofs.lemmas.Bool.{eqb-true, both_ways}
use Rattle.std.proofs.Math.Nat.{lt_of_not-le}
use Rattle.std.proofs.lemmas.Option.{slice_get_within, slice_get-get_or}
use Rattle.rtc_sdp_values.specs.LineRow.{row_place}
use Rattle.rtc_sdp_values.specs.declared.direction.Direction.{Direction}
use Rattle.rtc_sdp_values.specs.declared.line_row.LineRow.{LineRow}
use Rattle.rtc_sdp_values.specs.declared.line_row.LineRow.TheVariants.{Media, App}
use Rattle.rtc_sdp_values.specs.declared.media_kind.MediaKind.{MediaKind}
use Rattle.rtc_sdp_values.specs.declared.media_kind.MediaKind.TheVariants.{Audio as AudioMedia, Video as VideoMedia}
use Rattle.rtc_sdp_values.specs.declared.line_kind.LineKind.{LineKind}
use Rattle.rtc_sdp_values.specs.declared.line_kind.LineKind.TheVariants.{Audio, Video, Application, Unknown}
use Rattle.rtc_peer_rows.specs.declared.parsed_line.ParsedLine.{ParsedLine}
use Rattle.rtc_peer_rows.specs.declared.new_line.NewLine.{NewLine}
use Rattle.rtc_peer_rows.specs.declared.new_line.NewLine.TheVariants.{Count}
use Rattle.rtc_peer_rows.specs.declared.why.Why.TheVariants.{WrongNewLines}
use Rattle.rtc_peer_rows.specs.Table.{Rising, is_of, row_of, is_app, app_of}
use Rattle.rtc_change.specs.TableAfter.{is_new, new_places}
use Rattle.std.specs.Option.{option_or}
use Rattle.rtc_sdp_values.specs.Sdp.{is_application}
use Rattle.rtc_peer_rows.specs.Verdict.{first_refusal, line_refusal, media_refusal, app_refusal, place_refusal}
use Rattle.rtc_change.specs.Plans.{remote_refusal, wrong_news}
use Rattle.rtc_peer_rows.proofs.TableLemmas.{row_at_place}

-- a line of an answer that is allowed is new exactly past the rows
record NewPast (rows : List LineRow) (place : ℕ) (line : ParsedLine) : Type 0 where
  within : place < length rows → is_new rows line ≡ false
  past : length rows ≤ place → is_new rows line ≡ true

-- no row is at a place where an answer adds a line
nothing_there : (rows : List LineRow) (place : ℕ) (mid : List ℕ) (found : Option LineRow) → slice_get rows place ≡ found → place_refusal false mid found ≡ None → place < length rows → ⊥
nothing_there rows place mid None is allowed within =
    let there = slice_get-get_or rows place (App 0 []) within in absurd (cc)
nothing_there rows place mid (Some (Media p m k dir stopped remote_created)) is allowed within = absurd (cc)
nothing_there rows place mid (Some (App p m)) is allowed within = absurd (cc)

-- a search that finds a row, or none
record FoundPast (rows : List LineRow) (place : ℕ) (found : Option LineRow) : Type 0 where
  within : place < length rows → not (is_some found) ≡ false
  past : length rows ≤ place → not (is_some found) ≡ true

-- what is found at a place is one of the rows
found_within : (test : LineRow → Bool) (rows : List LineRow) (place : ℕ) (row : LineRow) → Rising 0 rows → find test rows ≡ Some row → row_place row ≡ place → FoundPast rows place (Some row)
found_within test rows place row rising is at =
    let there : slice_get rows place ≡ Some row = row_at_place test 0 rows row place rising is (omega (arith, at)) in
    let within : place < length rows = slice_get_within rows place row there in
    record { within = λ less. refl; past = λ more. absurd (omega arith) }

media_past : (rows : List LineRow) (place : ℕ) (kind : MediaKind) (mid : List ℕ) (found : Option LineRow) → Rising 0 rows → row_of rows mid ≡ found
    → media_refusal rows false place kind mid ≡ None → FoundPast rows place found
media_past rows place kind mid None rising is allowed =
    let stands = rw is at allowed in
    record { within = λ less. absurd (nothing_there rows place mid (slice_get rows place) refl stands less); past = λ more. refl }
media_past rows place kind mid (Some (App p m)) rising is allowed =
    let stands = rw is at allowed in absurd (cc)
media_past rows place kind mid (Some (Media p m k dir stopped remote_created)) rising is allowed =
    let stands = rw is at allowed in
    let at : p ≡ place = grind (arith, eqb-true) in
    found_within (is_of mid) rows place _ rising is at

app_past : (rows : List LineRow) (came : Bool) (place : ℕ) (mid : List ℕ) (found : Option LineRow) → Rising 0 rows → app_of rows ≡ found
    → app_refusal rows came place mid ≡ None → FoundPast rows place found
app_past rows came place mid None rising is allowed =
    let stands = rw is at allowed in
    record { within = λ less. absurd (grind arith); past = λ more. refl }
app_past rows came place mid (Some row) rising is allowed =
    let stands = rw is at allowed in
    let at : row_place row ≡ place = grind (arith, eqb-true) in
    found_within is_app rows place row rising is at

line_past : (rows : List LineRow) (came : Bool) (place : ℕ) (line : ParsedLine) → Rising 0 rows → line_refusal rows false came place line ≡ None → NewPast rows place line
line_past rows came place line rising = by line.kind line.mid line.dir line.rejected
  where
    by : (kind : LineKind) (mid : List ℕ) (dir : Direction) (rejected : Bool)
        → let line : ParsedLine = record { kind = kind; mid = mid; dir = dir; rejected = rejected } in
        line_refusal rows false came place line ≡ None → NewPast rows place line
    by Audio mid dir rejected allowed = let it = media_past rows place AudioMedia mid (row_of rows mid) rising refl allowed in record { within = it.within; past = it.past }
    by Video mid dir rejected allowed = let it = media_past rows place VideoMedia mid (row_of rows mid) rising refl allowed in record { within = it.within; past = it.past }
    by Application mid dir rejected allowed = let it = app_past rows came place mid (app_of rows) rising refl allowed in record { within = it.within; past = it.past }
    by Unknown mid dir rejected allowed = absurd (cc)

neither : {A : Type 0} (one next : Option A) → option_or one next ≡ None → (one ≡ None) × (next ≡ None)
neither None next none = (refl, none)
neither (Some first) next none = absurd (cc)

at_least : (count place : ℕ) → (place < count → ⊥) → count ≤ place
at_least count place never = let less : count < place + 1 = lt_of_not-le (λ most. never (omega arith)) in omega arith

-- the new lines of an answer that is allowed are those past the rows
pub new_count : (rows : List LineRow) (came : Bool) (place : ℕ) (said : List ParsedLine) → Rising 0 rows → first_refusal rows false came place said ≡ None
    → length (new_places rows place said) ≡ (place + length said) - max place (length rows)
new_count rows came place [] rising allowed = omega arith
new_count rows came place (line ∷ said) rising allowed =
    let parts = neither _ _ allowed in
    by (is_new rows line) refl (line_past rows came place line rising parts.0) (new_count rows (came || is_application line.kind) (place + 1) said rising parts.1)
  where
    by : (new : Bool) → is_new rows line ≡ new → NewPast rows place line → length (new_places rows (place + 1) said) ≡ ((place + 1) + length said) - max (place + 1) (length rows)
        → length (cond new (place ∷ new_places rows (place + 1) said) (new_places rows (place + 1) said)) ≡ (place + length (line ∷ said)) - max place (length rows)
    by true is past rest =
        let more : length rows ≤ place = at_least (length rows) place (λ less. both_ways (is_new rows line) (past.within less) is) in omega arith
    by false is past rest =
        let less : place < length rows = lt_of_not-le (λ more. both_ways (is_new rows line) is (past.past more)) in omega arith

counted : (count news : ℕ) (wrong : Option NewLine) → cond (count == news) wrong (Some (Count count news)) ≡ None → count ≡ news
counted count news wrong none = by (count == news) refl none
  where
    by : (same : Bool) → (count == news) ≡ same → cond same wrong (Some (Count count news)) ≡ None → count ≡ news
    by true is none = eqb-true count news is
    by false is none = absurd (cc)

untold : (found : Option NewLine) → remote_refusal (option_map WrongNewLines found) ≡ None → found ≡ None
untold None none = refl
untold (Some wrong) none = absurd (cc)

-- an answer that is not refused has as many lines as its offer, where it has no fewer
pub answer_count : (rows added : List LineRow) (asked : Asked) (said : List ParsedLine) → Rising 0 rows → first_refusal rows false false 0 said ≡ None
    → wrong_news rows (Some asked) said ≡ None → asked.added ≡ added → length rows + length added ≤ length said → length said ≡ length rows + length added
answer_count rows added asked said rising allowed news adds most =
    let count : length asked.added ≡ length (new_places rows 0 said) = counted _ _ _ (untold _ news) in
    let same : length asked.added ≡ length added = ap length adds in
    let past : length (new_places rows 0 said) ≡ (0 + length said) - max 0 (length rows) = new_count rows false 0 said rising allowed in
    omega arith
