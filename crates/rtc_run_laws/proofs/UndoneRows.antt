-- Rows of which some are as they were earlier.
use Rattle.std.proofs.Common.{◌≡◌, ◌≤◌, ◌+◌, ◌==◌, ◌||◌, ℕ, zero, suc, Bool, true, false, cond, List, [], ◌∷◌, ◌++◌, Option, Some, None, refl, sym, ◌∙◌, ap, subst, arith}
use Rattle.std.specs.Prelude.{slice_get}
use Rattle.std.proofs.lemmas.Bool.{eq-eqb, ne_eqb}
use Rattle.std.proofs.lemmas.List.Folds.{list_any-append}
use Rattle.rtc_sdp_values.specs.declared.direction.Direction.{Direction}
use Rattle.rtc_sdp_values.specs.declared.line_row.LineRow.{LineRow}
use Rattle.rtc_sdp_values.specs.declared.line_row.LineRow.TheVariants.{Media, App}
use Rattle.rtc_sdp_values.specs.declared.media_kind.MediaKind.{MediaKind}
use Rattle.rtc_peer_rows.specs.RowChanges.{all_restored, changed_at, changed_of, dir_restored, media_mid, restored_row, row_after_change}
use Rattle.rtc_peer_rows.proofs.RowChangeLemmas.{AreAlike, AreAlikeRows}
use Rattle.rtc_peer_core.specs.Undo.{RowBefore}
use Rattle.rtc_peer_core.specs.Sources.{is_number}
use Rattle.rtc_run_history.specs.Undone.{row_undone, rows_undone}

-- ---- rows that are alike

pub alike_on : (rows between others : List LineRow) → AreAlike rows between → AreAlike between others → AreAlike rows others
alike_on [] [] [] first rest = tt
alike_on (row ∷ rows) (middle ∷ between) (other ∷ others) first rest = (
  record { place = rest.0.place ∙ first.0.place; mid = rest.0.mid ∙ first.0.mid; app = rest.0.app ∙ first.0.app },
  alike_on rows between others first.1 rest.1,
)
alike_on [] [] (other ∷ others) first rest = absurd rest
alike_on [] (middle ∷ between) others first rest = absurd first
alike_on (row ∷ rows) [] others first rest = absurd first
alike_on (row ∷ rows) (middle ∷ between) [] first rest = absurd rest

same_media_mid : (row other : LineRow) → AreAlikeRows row other → media_mid (Some other) ≡ media_mid (Some row)
same_media_mid (Media place mid kind dir stopped created) (Media place' mid' kind' dir' stopped' created') alike =
    let same : mid' ≡ mid = alike.mid in ap (λ (m : List ℕ). Some m) same
same_media_mid (App place mid) (App place' mid') alike = refl
same_media_mid (Media place mid kind dir stopped created) (App place' mid') alike = absurd (let e : true ≡ false = alike.app in cc)
same_media_mid (App place mid) (Media place' mid' kind' dir' stopped' created') alike = absurd (let e : false ≡ true = alike.app in cc)

-- media rows that are alike have their mids at the same places
pub mid_alike : (k : ℕ) (rows others : List LineRow) → AreAlike rows others → media_mid (slice_get others k) ≡ media_mid (slice_get rows k)
mid_alike k [] [] alike = refl
mid_alike zero (row ∷ rows) (other ∷ others) alike = same_media_mid row other alike.0
mid_alike (suc k) (row ∷ rows) (other ∷ others) alike = mid_alike k rows others alike.1
mid_alike k [] (other ∷ others) alike = absurd alike
mid_alike k (row ∷ rows) [] alike = absurd alike

row_undone_alike : (earlier : Option LineRow) (row : LineRow) → AreAlikeRows row (row_undone earlier row)
row_undone_alike None row = record { place = refl; mid = refl; app = refl }
row_undone_alike (Some (App place mid)) row = record { place = refl; mid = refl; app = refl }
row_undone_alike (Some (Media place mid kind dir stopped created)) (App place' mid') = record { place = refl; mid = refl; app = refl }
row_undone_alike (Some (Media place mid kind dir stopped created)) (Media place' mid' kind' dir' stopped' created') = record { place = refl; mid = refl; app = refl }

-- rows that are undone are alike
pub undone_alike : (places : List ℕ) (place : ℕ) (earlier rows : List LineRow) → AreAlike rows (rows_undone places place earlier rows)
undone_alike places place earlier [] = tt
undone_alike places place earlier (row ∷ rows) = (by (is_number place places), undone_alike places (place + 1) earlier rows)
  where
    by : (here : Bool) → AreAlikeRows row (cond here (row_undone (slice_get earlier place) row) row)
    by true = row_undone_alike (slice_get earlier place) row
    by false = record { place = refl; mid = refl; app = refl }

-- ---- places

-- what is undone rests on which places are named
pub undone_same : (places places' : List ℕ) (place : ℕ) (earlier rows : List LineRow) → ((k : ℕ) → place ≤ k → is_number k places' ≡ is_number k places)
    → rows_undone places' place earlier rows ≡ rows_undone places place earlier rows
undone_same places places' place earlier [] same = refl
undone_same places places' place earlier (row ∷ rows) same =
    ap (λ (b : Bool). cond b (row_undone (slice_get earlier place) row) row ∷ rows_undone places' (place + 1) earlier rows) (same place (omega arith))
    ∙ ap (λ (rest : List LineRow). cond (is_number place places) (row_undone (slice_get earlier place) row) row ∷ rest)
    (undone_same places places' (place + 1) earlier rows (λ k above. same k (omega (arith, above))))

pub none_undone : (place : ℕ) (earlier rows : List LineRow) → rows_undone [] place earlier rows ≡ rows
none_undone place earlier [] = refl
none_undone place earlier (row ∷ rows) = ap (λ (rest : List LineRow). row ∷ rest) (none_undone (place + 1) earlier rows)

-- one more place
pub number_more : (k n : ℕ) (places : List ℕ) → is_number k (places ++ n ∷ []) ≡ (is_number k places || (n == k))
number_more k n places = list_any-append (λ own. own == k) places (n ∷ []) ∙ ap (λ (b : Bool). is_number k places || b) (or_nothing (n == k))
  where
    or_nothing : (b : Bool) → (b || false) ≡ b
    or_nothing true = refl
    or_nothing false = refl

another : (k n : ℕ) (places : List ℕ) → (n == k) ≡ false → is_number k (places ++ n ∷ []) ≡ is_number k places
another k n places other = number_more k n places ∙ ap (λ (b : Bool). is_number k places || b) other ∙ or_none (is_number k places)
  where
    or_none : (b : Bool) → (b || false) ≡ b
    or_none true = refl
    or_none false = refl

itself : (n : ℕ) (places : List ℕ) → is_number n (places ++ n ∷ []) ≡ true
itself n places = number_more n n places ∙ ap (λ (b : Bool). is_number n places || b) (eq-eqb n n refl) ∙ or_true (is_number n places)
  where
    or_true : (b : Bool) → (b || true) ≡ true
    or_true true = refl
    or_true false = refl

-- ---- one more row that is undone

here_undone : (to : Direction) (pl : ℕ) (mid : List ℕ) (kind : MediaKind) (created : Bool) (row : LineRow)
    → row_after_change (restored_row to false) row ≡ row_undone (Some (Media pl mid kind to false created)) row
here_undone to pl mid kind created (Media place' mid' kind' dir' stopped' created') = refl
here_undone to pl mid kind created (App place' mid') = refl

pub undone_more : (places : List ℕ) (place k n : ℕ) (to : Direction) (pl : ℕ) (mid : List ℕ) (kind : MediaKind) (created : Bool) (earlier rows : List LineRow)
    → n ≡ place + k → is_number n places ≡ false → slice_get earlier n ≡ Some (Media pl mid kind to false created)
    → changed_at (restored_row to false) k (rows_undone places place earlier rows) ≡ rows_undone (places ++ n ∷ []) place earlier rows
undone_more places place k n to pl mid kind created earlier [] at fresh there = refl
undone_more places place zero n to pl mid kind created earlier (row ∷ rows) at fresh there =
    let same : n ≡ place = omega (arith, at) in
    subst
    (λ (p : ℕ).
    changed_at (restored_row to false) zero (cond (is_number p places) (row_undone (slice_get earlier p) row) row ∷ rows_undone places (place + 1) earlier rows)
    ≡ cond (is_number p (places ++ n ∷ [])) (row_undone (slice_get earlier p) row) row ∷ rows_undone (places ++ n ∷ []) (place + 1) earlier rows)
    same
    (rw (fresh, itself n places, there)
    (ap (λ (first : LineRow). first ∷ rows_undone places (place + 1) earlier rows) (here_undone to pl mid kind created row)
    ∙ ap (λ (rest : List LineRow). row_undone (Some (Media pl mid kind to false created)) row ∷ rest)
    (sym (undone_same places (places ++ n ∷ []) (place + 1) earlier rows
    (λ i above. another i n places (ne_eqb n i (λ e. omega (arith, e, above, same))))))))
undone_more places place (suc k) n to pl mid kind created earlier (row ∷ rows) at fresh there =
    let apart : is_number place (places ++ n ∷ []) ≡ is_number place places = another place n places (ne_eqb n place (λ e. omega (arith, e, at))) in
    ap (λ (rest : List LineRow). cond (is_number place places) (row_undone (slice_get earlier place) row) row ∷ rest)
    (undone_more places (place + 1) k n to pl mid kind created earlier rows (omega (arith, at)) fresh there)
    ∙ ap (λ (b : Bool). cond b (row_undone (slice_get earlier place) row) row ∷ rows_undone (places ++ n ∷ []) (place + 1) earlier rows) (sym apart)

-- ---- notes

pub restored-append : (undo : List RowBefore) (was : RowBefore) (rows : List LineRow)
    → all_restored (undo ++ was ∷ []) rows ≡ changed_of (restored_row (dir_restored was.1 was.2) was.2) was.0 (all_restored undo rows)
restored-append [] was rows = refl
restored-append (first ∷ undo) was rows = restored-append undo was (changed_of (restored_row (dir_restored first.1 first.2) first.2) first.0 rows)

-- a row at another place stays
pub changed_elsewhere : (change : LineRow → Option LineRow) (place k : ℕ) (rows : List LineRow) → (place == k) ≡ false → slice_get (changed_at change place rows) k ≡ slice_get rows k
changed_elsewhere change place k [] other = refl
changed_elsewhere change zero zero (row ∷ rows) other = absurd (let e : true ≡ false = other in cc)
changed_elsewhere change zero (suc k) (row ∷ rows) other = refl
changed_elsewhere change (suc place) zero (row ∷ rows) other = refl
changed_elsewhere change (suc place) (suc k) (row ∷ rows) other = changed_elsewhere change place k rows (grind (arith, other))
