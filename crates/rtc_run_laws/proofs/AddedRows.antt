-- The rows that an offer adds: live, created at its side, at places that count up, each with a mid that is not held.
use Rattle.std.proofs.Common.{◌≡◌, ◌+◌, ℕ, Bool, true, false, ◌||◌, List, [], ◌∷◌, ◌++◌, map, length, Option, Some, None, refl, sym, ◌∙◌, subst, arith}
use Rattle.std.specs.Prelude.{is_some}
use Rattle.std.specs.List.{list_any}
use Rattle.std.specs.Str.{bytes_eq}
use Rattle.std.proofs.lemmas.Slice.Eq.{bytes_eq-Decides}
use Rattle.std.proofs.lemmas.Bool.{both_ways, false_from_ne_true, or_from, or_right}
use Rattle.std.proofs.lemmas.List.Folds.{list_any-append}
use Rattle.rtc_sdp_values.specs.LineRow.{row_mid}
use Rattle.rtc_sdp_values.specs.declared.line_row.LineRow.{LineRow}
use Rattle.rtc_sdp_values.specs.declared.line_row.LineRow.TheVariants.{Media, App}
use Rattle.rtc_sdp_values.specs.Mids.{is_among}
use Rattle.rtc_peer_rows.specs.Table.{IsTable, Rising, Distinct, OneApp, NoMore, is_of, has_mid, is_app}
use Rattle.rtc_channels.specs.Channels.{Channels}
use Rattle.rtc_run_history.specs.declared.op.Op.{Op}
use Rattle.rtc_run_history.specs.declared.op.Op.TheVariants.{AddMedia, SetDirection, StopMedia, AddChannel, IceRestart}
use Rattle.rtc_run_history.specs.declared.op_answer.OpAnswer.{OpAnswer}
use Rattle.rtc_run_history.specs.declared.op_answer.OpAnswer.TheVariants.{Mid, Changed, NoLine, Channel, BadChannel, Creds, Alloc as OpAlloc}
use Rattle.rtc_run_history.specs.Answers.{added, has_app_row, with_numbered}
use Rattle.rtc_peer_rows.specs.RowChanges.{directed_row, stopped_row, changed_at}
use Rattle.rtc_run_history.specs.Sound.{OpsAnswered}

-- a mid that is held is not one that is free
other_mid : (held : List (List ℕ)) (own mid : List ℕ) → is_among held own ≡ false → is_among held mid ≡ true → bytes_eq own mid ≡ false
other_mid held own mid free among =
    false_from_ne_true (bytes_eq own mid) (λ same. both_ways (is_among held own) free (subst (λ (m : List ℕ). is_among held m ≡ true) (sym ((bytes_eq-Decides own mid).0 same)) among))

-- what is known of an added media row
pub record IsAdded (held : List (List ℕ)) (place at : ℕ) (mid : List ℕ) (stopped remote_created : Bool) : Type 0 where
  pub here : at ≡ place
  pub live : stopped ≡ false
  pub own : remote_created ≡ false
  pub free : is_among held mid ≡ false

-- what is known of an added row of data channels, given whether one may be added
pub record IsAppAdded (may : Bool) (held : List (List ℕ)) (place at : ℕ) (mid : List ℕ) : Type 0 where
  pub here : at ≡ place
  pub first : may ≡ true
  pub free : is_among held mid ≡ false

-- Rows that are added, given whether one of data channels may be.
abbrev pub AreAdded : Bool → List (List ℕ) → ℕ → List LineRow → Type 0
AreAdded may held place [] = Unit {0}
AreAdded may held place (Media at mid kind dir stopped remote_created ∷ rows) = IsAdded held place at mid stopped remote_created × AreAdded may (mid ∷ held) (place + 1) rows
AreAdded may held place (App at mid ∷ rows) = IsAppAdded may held place at mid × AreAdded false (mid ∷ held) (place + 1) rows

-- ops without answers stage nothing
pub added_none : (app : Option (List ℕ)) (place : ℕ) (ops : List Op) → added app place ops [] ≡ []
added_none app place [] = refl
added_none app place (op ∷ ops) = refl

none_added : (app : Option (List ℕ)) (may : Bool) (held : List (List ℕ)) (place at : ℕ) (ops : List Op) → AreAdded may held place (added app at ops [])
none_added app may held place at ops = rw (added_none app at ops) tt

-- what ops stage is added
pub ops_add : (rows : List LineRow) (held : List (List ℕ)) (app : Option (List ℕ)) (channels : Channels) (numbers : List ℕ) (ops : List Op) (answers : List OpAnswer) (after : List LineRow) (place : ℕ)
    → OpsAnswered (record { rows = rows; held = held; app = app; channels = channels; numbers = numbers }) ops answers after → AreAdded (is_some app) held place (added app place ops answers)
ops_add rows held app channels numbers [] [] after place answered = tt
ops_add rows held app channels numbers (AddMedia kind dir ∷ ops) (Mid mid ∷ answers) after place answered =
    (record { here = refl; live = refl; own = refl; free = answered.0 }, ops_add rows (mid ∷ held) app channels numbers ops answers after (place + 1) answered.1)
ops_add rows held app channels numbers (AddMedia kind dir ∷ ops) (OpAlloc ∷ []) after place answered = none_added app (is_some app) held place place ops
ops_add rows held app channels numbers (SetDirection at dir ∷ ops) (NoLine ∷ answers) after place answered = ops_add rows held app channels numbers ops answers after place answered.1
ops_add rows held app channels numbers (SetDirection at dir ∷ ops) (Changed changed ∷ answers) after place answered = ops_add (changed_at (directed_row dir) at rows) held app channels numbers ops answers after place answered.1
ops_add rows held app channels numbers (SetDirection at dir ∷ ops) (OpAlloc ∷ []) after place answered = none_added app (is_some app) held place place ops
ops_add rows held app channels numbers (StopMedia at ∷ ops) (NoLine ∷ answers) after place answered = ops_add rows held app channels numbers ops answers after place answered.1
ops_add rows held app channels numbers (StopMedia at ∷ ops) (Changed changed ∷ answers) after place answered = ops_add (changed_at stopped_row at rows) held app channels numbers ops answers after place answered.1
ops_add rows held app channels numbers (StopMedia at ∷ ops) (OpAlloc ∷ []) after place answered = none_added app (is_some app) held place place ops
ops_add rows held None channels numbers (AddChannel config ∷ ops) (Channel id ∷ answers) after place answered = ops_add rows held None (with_numbered id config channels) (id ∷ numbers) ops answers after place answered.2
ops_add rows held (Some mid) channels numbers (AddChannel config ∷ ops) (Channel id ∷ answers) after place answered =
    (record { here = refl; first = refl; free = answered.1 }, ops_add rows (mid ∷ held) None (with_numbered id config channels) (id ∷ numbers) ops answers after (place + 1) answered.2)
ops_add rows held app channels numbers (AddChannel config ∷ ops) (BadChannel ∷ answers) after place answered = ops_add rows held app channels numbers ops answers after place answered.1
ops_add rows held app channels numbers (AddChannel config ∷ ops) (OpAlloc ∷ []) after place answered = none_added app (is_some app) held place place ops
ops_add rows held app channels numbers (IceRestart keep ∷ ops) (Creds creds ∷ answers) after place answered = ops_add rows held app channels numbers ops answers after place answered
ops_add rows held app channels numbers (IceRestart keep ∷ ops) (OpAlloc ∷ []) after place answered = none_added app (is_some app) held place place ops
ops_add rows held app channels numbers ops answers after place answered = absurd answered

pub added_rising : (may : Bool) (held : List (List ℕ)) (place : ℕ) (rows : List LineRow) → AreAdded may held place rows → Rising place rows
added_rising may held place [] new = tt
added_rising may held place (Media at mid kind dir stopped remote_created ∷ rows) new = (new.0.here, added_rising may (mid ∷ held) (place + 1) rows new.1)
added_rising may held place (App at mid ∷ rows) new = (new.0.here, added_rising false (mid ∷ held) (place + 1) rows new.1)

-- a mid that is held is not added
pub added_apart : (may : Bool) (held : List (List ℕ)) (place : ℕ) (rows : List LineRow) (mid : List ℕ) → AreAdded may held place rows → is_among held mid ≡ true → has_mid mid rows ≡ false
added_apart may held place [] mid new among = refl
added_apart may held place (Media at own kind dir stopped remote_created ∷ rows) mid new among =
    rw (other_mid held own mid new.0.free among) (added_apart may (own ∷ held) (place + 1) rows mid new.1 (or_right (bytes_eq own mid) (is_among held mid) among))
added_apart may held place (App at own ∷ rows) mid new among =
    rw (other_mid held own mid new.0.free among) (added_apart false (own ∷ held) (place + 1) rows mid new.1 (or_right (bytes_eq own mid) (is_among held mid) among))

pub added_distinct : (may : Bool) (held : List (List ℕ)) (place : ℕ) (rows : List LineRow) → AreAdded may held place rows → Distinct rows
added_distinct may held place [] new = tt
added_distinct may held place (Media at mid kind dir stopped remote_created ∷ rows) new =
    (added_apart may (mid ∷ held) (place + 1) rows mid new.1 (rw ((bytes_eq-Decides mid mid).1 refl) refl), added_distinct may (mid ∷ held) (place + 1) rows new.1)
added_distinct may held place (App at mid ∷ rows) new =
    (added_apart false (mid ∷ held) (place + 1) rows mid new.1 (rw ((bytes_eq-Decides mid mid).1 refl) refl), added_distinct false (mid ∷ held) (place + 1) rows new.1)

-- where no row of data channels may be added, none is
added_no_app : (held : List (List ℕ)) (place : ℕ) (rows : List LineRow) → AreAdded false held place rows → list_any is_app rows ≡ false
added_no_app held place [] new = refl
added_no_app held place (Media at mid kind dir stopped remote_created ∷ rows) new = added_no_app (mid ∷ held) (place + 1) rows new.1
added_no_app held place (App at mid ∷ rows) new = absurd (let e = new.0.first in cc)

added_one_app : (may : Bool) (held : List (List ℕ)) (place : ℕ) (rows : List LineRow) → AreAdded may held place rows → OneApp rows
added_one_app may held place [] new = tt
added_one_app may held place (Media at mid kind dir stopped remote_created ∷ rows) new = (tt, added_one_app may (mid ∷ held) (place + 1) rows new.1)
added_one_app may held place (App at mid ∷ rows) new = (added_no_app (mid ∷ held) (place + 1) rows new.1, added_one_app false (mid ∷ held) (place + 1) rows new.1)

-- a mid is among those of rows where a row has it
pub among_mids : (rows : List LineRow) (mid : List ℕ) → is_among (map row_mid rows) mid ≡ has_mid mid rows
among_mids [] mid = refl
among_mids (row ∷ rows) mid = rw (among_mids rows mid) refl

pub rising_append : (place : ℕ) (rows more : List LineRow) → Rising place rows → Rising (place + length rows) more → Rising place (rows ++ more)
rising_append place [] more rising other = subst (λ (n : ℕ). Rising n more) (let e : place + length {A = LineRow} [] ≡ place = omega arith in e) other
rising_append place (row ∷ rows) more rising other =
    (rising.0, rising_append (place + 1) rows more rising.1 (subst (λ (n : ℕ). Rising n more) (let e : place + length (row ∷ rows) ≡ place + 1 + length rows = omega arith in e) other))

-- ---- the rows of an offer are a table

-- rows with mids of their own behind others
distinct_append : (rows more : List LineRow) → Distinct rows → Distinct more → ((mid : List ℕ) → is_among (map row_mid rows) mid ≡ true → has_mid mid more ≡ false) → Distinct (rows ++ more)
distinct_append [] more distinct other apart = other
distinct_append (row ∷ rows) more distinct other apart = (
  rw (list_any-append (is_of (row_mid row)) rows more) (or_from _ _ distinct.0 (apart (row_mid row) (rw ((bytes_eq-Decides (row_mid row) (row_mid row)).1 refl) refl))),
  distinct_append rows more distinct.1 other (λ mid among. apart mid (either (bytes_eq (row_mid row) mid) among)),
)
  where
    either : {b : Bool} → (a : Bool) → b ≡ true → (a || b) ≡ true
    either true is = refl
    either false is = is

no_app-append : (rows more : List LineRow) → list_any is_app rows ≡ false → list_any is_app more ≡ false → list_any is_app (rows ++ more) ≡ false
no_app-append rows more none other = list_any-append is_app rows more ∙ or_from _ _ none other

-- no row of data channels is found where none is there
pub app_is_found : (rows : List LineRow) → has_app_row rows ≡ list_any is_app rows
app_is_found [] = refl
app_is_found (row ∷ rows) = by (is_app row) refl (app_is_found rows)
  where
    by : (here : Bool) → is_app row ≡ here → has_app_row rows ≡ list_any is_app rows → has_app_row (row ∷ rows) ≡ list_any is_app (row ∷ rows)
    by true is rest = rw is refl
    by false is rest = rw is rest

-- rows with none more of data channels than one, where those behind have one only if those before have none
one_app-append : (rows more : List LineRow) → OneApp rows → OneApp more → (has_app_row rows ≡ true → list_any is_app more ≡ false) → OneApp (rows ++ more)
one_app-append [] more one other apart = other
one_app-append (row ∷ rows) more one other apart = by (λ behind. one_app-append rows more one.1 other behind) (is_app row) refl one.0
  where
    by : ((has_app_row rows ≡ true → list_any is_app more ≡ false) → OneApp (rows ++ more)) → (here : Bool) → is_app row ≡ here → NoMore (is_app row) rows → NoMore (is_app row) (rows ++ more) × OneApp (rows ++ more)
    by rest true is none =
        let no_rows : list_any is_app rows ≡ false = rw is at none in
        let no_more : list_any is_app more ≡ false = apart (rw is refl) in
        (rw is (no_app-append rows more no_rows no_more), rest (λ there. no_more))
    by rest false is none = (rw is tt, rest (λ there. apart (rw is there)))

-- the rows of a table, and those that are added to it
pub offered_table : (rows more : List LineRow) (may : Bool) → IsTable rows → (has_app_row rows ≡ true → may ≡ false) → AreAdded may (map row_mid rows) (length rows) more → IsTable (rows ++ more)
offered_table rows more may table none new = record {
  rising = rising_append 0 rows more table.rising (subst (λ (n : ℕ). Rising n more) (let e : length rows ≡ 0 + length rows = omega arith in e) (added_rising may (map row_mid rows) (length rows) more new));
  distinct = distinct_append rows more table.distinct (added_distinct may (map row_mid rows) (length rows) more new) (λ mid among. added_apart may (map row_mid rows) (length rows) more mid new among);
  one_app = one_app-append rows more table.one_app (added_one_app may (map row_mid rows) (length rows) more new)
      (λ there. added_no_app (map row_mid rows) (length rows) more (subst (λ (m : Bool). AreAdded m (map row_mid rows) (length rows) more) (none there) new));
}
