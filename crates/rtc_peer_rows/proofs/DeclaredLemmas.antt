-- Tables with one more media line, and with fewer lines.
use Rattle.std.proofs.Common.{◌≡◌, ◌+◌, ◌++◌, ◌∙◌, ℕ, Bool, true, false, List, [], ◌∷◌, take, length, refl, sym, arith, suc, zero}
use Rattle.std.specs.List.{list_any}
use Rattle.std.specs.Str.{bytes_eq}
use Rattle.std.proofs.lemmas.Slice.Eq.{bytes_eq-Decides}
use Rattle.std.proofs.lemmas.Bool.{or_parts}
use Rattle.rtc_sdp_values.specs.LineRow.{row_mid}
use Rattle.rtc_sdp_values.specs.declared.line_row.LineRow.{LineRow}
use Rattle.rtc_sdp_values.specs.declared.media_kind.MediaKind.{MediaKind}
use Rattle.rtc_peer_rows.specs.DeclaredMedia.{declared_row}
use Rattle.rtc_peer_rows.specs.Table.{IsTable, Rising, Distinct, OneApp, NoMore, is_of, has_mid, is_app}

rising_declared : (place at : ℕ) (mid : List ℕ) (kind : MediaKind) (rows : List LineRow) → Rising place rows → at ≡ place + length rows
    → Rising place (rows ++ declared_row at mid kind ∷ [])
rising_declared place at mid kind [] rising is = (omega (arith, is), tt)
rising_declared place at mid kind (row ∷ rows) rising is = (rising.0, rising_declared (place + 1) at mid kind rows rising.1 (omega (arith, is)))

-- no row passes, nor does one more
none_declared : (test : LineRow → Bool) (rows : List LineRow) (row : LineRow) → list_any test rows ≡ false → test row ≡ false → list_any test (rows ++ row ∷ []) ≡ false
none_declared test [] row missed fails = rw fails refl
none_declared test (first ∷ rows) row missed fails =
    let parts = or_parts (test first) (list_any test rows) missed in
    rw (parts.0, none_declared test rows row parts.1 fails) refl

apart : (one other : List ℕ) → bytes_eq one other ≡ false → bytes_eq other one ≡ false
apart one other differ = by (bytes_eq other one) refl
  where
    by : (same : Bool) → bytes_eq other one ≡ same → bytes_eq other one ≡ false
    by false is = is
    by true is = absurd (cc (sym differ ∙ (bytes_eq-Decides one other).1 (sym ((bytes_eq-Decides other one).0 is))))

distinct_declared : (at : ℕ) (mid : List ℕ) (kind : MediaKind) (rows : List LineRow) → Distinct rows → has_mid mid rows ≡ false
    → Distinct (rows ++ declared_row at mid kind ∷ [])
distinct_declared at mid kind [] distinct missed = (refl, tt)
distinct_declared at mid kind (row ∷ rows) distinct missed =
    let parts = or_parts (is_of mid row) (has_mid mid rows) missed in
    (none_declared (is_of (row_mid row)) rows (declared_row at mid kind) distinct.0 (apart (row_mid row) mid parts.0), distinct_declared at mid kind rows distinct.1 parts.1)

one_app_declared : (at : ℕ) (mid : List ℕ) (kind : MediaKind) (rows : List LineRow) → OneApp rows → OneApp (rows ++ declared_row at mid kind ∷ [])
one_app_declared at mid kind [] one = (tt, tt)
one_app_declared at mid kind (row ∷ rows) one = (by (is_app row) one.0, one_app_declared at mid kind rows one.1)
  where
    by : (app : Bool) → NoMore app rows → NoMore app (rows ++ declared_row at mid kind ∷ [])
    by true missed = none_declared is_app rows (declared_row at mid kind) missed refl
    by false missed = tt

-- rows with a declared line behind them are a table
pub table_declared : (at : ℕ) (mid : List ℕ) (kind : MediaKind) (rows : List LineRow) → IsTable rows → has_mid mid rows ≡ false → at ≡ length rows
    → IsTable (rows ++ declared_row at mid kind ∷ [])
table_declared at mid kind rows table missed is = record {
  rising = rising_declared 0 at mid kind rows table.rising (omega (arith, is));
  distinct = distinct_declared at mid kind rows table.distinct missed;
  one_app = one_app_declared at mid kind rows table.one_app;
}

rising_take : (place n : ℕ) (rows : List LineRow) → Rising place rows → Rising place (take n rows)
rising_take place zero rows rising = tt
rising_take place (suc n) [] rising = tt
rising_take place (suc n) (row ∷ rows) rising = (rising.0, rising_take (place + 1) n rows rising.1)

none_take : (test : LineRow → Bool) (n : ℕ) (rows : List LineRow) → list_any test rows ≡ false → list_any test (take n rows) ≡ false
none_take test zero rows missed = refl
none_take test (suc n) [] missed = refl
none_take test (suc n) (row ∷ rows) missed =
    let parts = or_parts (test row) (list_any test rows) missed in
    rw (parts.0, none_take test n rows parts.1) refl

distinct_take : (n : ℕ) (rows : List LineRow) → Distinct rows → Distinct (take n rows)
distinct_take zero rows distinct = tt
distinct_take (suc n) [] distinct = tt
distinct_take (suc n) (row ∷ rows) distinct = (none_take (is_of (row_mid row)) n rows distinct.0, distinct_take n rows distinct.1)

one_app_take : (n : ℕ) (rows : List LineRow) → OneApp rows → OneApp (take n rows)
one_app_take zero rows one = tt
one_app_take (suc n) [] one = tt
one_app_take (suc n) (row ∷ rows) one = (by (is_app row) one.0, one_app_take n rows one.1)
  where
    by : (app : Bool) → NoMore app rows → NoMore app (take n rows)
    by true missed = none_take is_app n rows missed
    by false missed = tt

-- the first rows of a table are a table
pub table_take : (n : ℕ) (rows : List LineRow) → IsTable rows → IsTable (take n rows)
table_take n rows table = record {
  rising = rising_take 0 n rows table.rising;
  distinct = distinct_take n rows table.distinct;
  one_app = one_app_take n rows table.one_app;
}
