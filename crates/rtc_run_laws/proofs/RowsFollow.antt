-- Rows that go on from others, the same lines and then new ones: the SDP of such rows is refused for no cause.
use Rattle.std.proofs.Common.{◌≡◌, ◌+◌, ◌==◌, ◌≤◌, ℕ, Bool, true, false, ◌||◌, List, [], ◌∷◌, ◌++◌, map, length, Option, Some, None, refl, sym, ◌∙◌, ap, arith, zero, suc}
use Rattle.std.specs.Prelude.{slice_get, is_some, nat_lt}
use Rattle.std.specs.List.{list_any}
use Rattle.std.specs.Str.{bytes_eq}
use Rattle.std.proofs.lemmas.Bool.{or_parts, eq-eqb, both_ways, le-ltb}
use Rattle.rtc_sdp_values.specs.LineRow.{row_place, row_mid}
use Rattle.rtc_sdp_values.specs.declared.line_row.LineRow.{LineRow}
use Rattle.rtc_sdp_values.specs.declared.line_row.LineRow.TheVariants.{Media, App}
use Rattle.rtc_sdp_values.specs.declared.media_kind.MediaKind.TheVariants.{Audio, Video}
use Rattle.rtc_sdp_values.specs.Mids.{is_among}
use Rattle.rtc_peer_rows.specs.Table.{IsTable, Rising, OneApp, NoMore, has_mid, row_of, is_app, app_of}
use Rattle.rtc_change.specs.TableAfter.{is_new, app_mid, rows_after, row_after}
use Rattle.rtc_sdp_values.specs.Sdp.{is_application}
use Rattle.rtc_peer_rows.specs.Verdict.{first_refusal, line_refusal}
use Rattle.rtc_change.specs.WrongLines.{wrong_line, by_added}
use Rattle.rtc_peer_rows.proofs.TableLemmas.{row_of_its_mid, place_of_row}
use Rattle.rtc_run_history.specs.Answers.{has_app_row}
use Rattle.rtc_run_history.specs.SaidRows.{row_said}
use Rattle.rtc_run_laws.proofs.AddedRows.{AreAdded}
use Rattle.rtc_run_laws.proofs.FinishedRounds.{none_of_mid}
use Rattle.rtc_run_laws.proofs.RowNames.{SameName, Aligned, name_sym, name_trans, has_mid-aligned, has_app-aligned}

-- a row with a mid that none of these has; one of data channels where there is none
abbrev pub NewRow : List LineRow → LineRow → Type 0
NewRow rows (Media place mid kind dir stopped remote_created) = has_mid mid rows ≡ false
NewRow rows (App place mid) = (has_mid mid rows ≡ false) × (has_app_row rows ≡ false)

-- rows that go on from the ones that are left of a table, and then are new to it
abbrev pub Follows : List LineRow → List LineRow → List LineRow → Type 0
Follows rows [] [] = Unit {0}
Follows rows [] (row ∷ more) = NewRow rows row × Follows rows [] more
Follows rows (own ∷ left) [] = ⊥
Follows rows (own ∷ left) (row ∷ more) = SameName own row × Follows rows left more

-- ---- rows that go on

pub follows_append : (rows left front more : List LineRow) → Aligned left front → Follows rows [] more → Follows rows left (front ++ more)
follows_append rows [] [] more same new = new
follows_append rows (own ∷ left) (row ∷ front) more same new = (same.0, follows_append rows left front more same.1 new)
follows_append rows left front more same new = absurd same

pub added_follow : (rows : List LineRow) (may : Bool) (held : List (List ℕ)) (place : ℕ) (more : List LineRow) → AreAdded may held place more
    → ((mid : List ℕ) → is_among held mid ≡ false → has_mid mid rows ≡ false) → (may ≡ true → has_app_row rows ≡ false) → Follows rows [] more
added_follow rows may held place [] new apart none = tt
added_follow rows may held place (Media at mid kind dir stopped remote_created ∷ more) new apart none = (
  apart mid new.0.free,
  added_follow rows may (mid ∷ held) (place + 1) more new.1 (λ other apart_it. apart other (or_parts (bytes_eq mid other) (is_among held other) apart_it).1) none,
)
added_follow rows may held place (App at mid ∷ more) new apart none = (
  (apart mid new.0.free, none new.0.first),
  added_follow rows false (mid ∷ held) (place + 1) more new.1 (λ other apart_it. apart other (or_parts (bytes_eq mid other) (is_among held other) apart_it).1) (λ is. absurd (cc)),
)

new_alike : (rows others : List LineRow) (row : LineRow) → Aligned rows others → NewRow rows row → NewRow others row
new_alike rows others (Media place mid kind dir stopped remote_created) same new = has_mid-aligned rows others mid same ∙ new
new_alike rows others (App place mid) same new = (has_mid-aligned rows others mid same ∙ new.0, has_app-aligned rows others same ∙ new.1)

-- rows that go on from some go on from others with the same names
pub follows_alike : (rows others left left' more : List LineRow) → Aligned rows others → Aligned left left' → Follows rows left more → Follows others left' more
follows_alike rows others [] [] [] same same_left follows = tt
follows_alike rows others [] [] (row ∷ more) same same_left follows = (new_alike rows others row same follows.0, follows_alike rows others [] [] more same tt follows.1)
follows_alike rows others (own ∷ left) (own' ∷ left') [] same same_left follows = absurd follows
follows_alike rows others (own ∷ left) (own' ∷ left') (row ∷ more) same same_left follows =
    (name_trans own' own row (name_sym own own' same_left.0) follows.0, follows_alike rows others left left' more same same_left.1 follows.1)
follows_alike rows others left left' more same same_left follows = absurd same_left

-- ---- the rows that an SDP leaves

-- a row of data channels that an SDP leaves has the mid of its line, where the side's own has it
abbrev pub SaysApp : List LineRow → LineRow → Type 0
SaysApp rows (Media place mid kind dir stopped remote_created) = Unit {0}
SaysApp rows (App place mid) = app_mid mid (app_of rows) ≡ mid

abbrev pub SayApps : List LineRow → List LineRow → Type 0
SayApps rows [] = Unit {0}
SayApps rows (row ∷ more) = SaysApp rows row × SayApps rows more

name_after : (rows : List LineRow) (offer : Bool) (place : ℕ) (first row : LineRow) → SaysApp rows row → SameName first row → SameName first (row_after rows offer place (row_said row))
name_after rows offer place (Media p m k d s r) (Media at mid Audio dir stopped remote_created) says same = (same.0, same.1)
name_after rows offer place (Media p m k d s r) (Media at mid Video dir stopped remote_created) says same = (same.0, same.1)
name_after rows offer place (App p m) (App at mid) says same = says ∙ same
name_after rows offer place first row says same = absurd same

-- the rows that an SDP leaves have the names of its lines
pub after_aligned : (rows : List LineRow) (offer : Bool) (place : ℕ) (first more : List LineRow) → SayApps rows more → Aligned first more → Aligned first (rows_after rows offer place (map row_said more))
after_aligned rows offer place [] [] says same = tt
after_aligned rows offer place (row ∷ first) (other ∷ more) says same = (name_after rows offer place row other says.0 same.0, after_aligned rows offer (place + 1) first more says.1 same.1)
after_aligned rows offer place first more says same = absurd same

none_of_app : (rows : List LineRow) (found : Option LineRow) → app_of rows ≡ found → is_some found ≡ false → found ≡ None
none_of_app rows None is none = refl
none_of_app rows (Some row) is none = absurd (cc)

-- where there is no row of data channels, there is none to find
pub no_app : (rows : List LineRow) → has_app_row rows ≡ false → app_of rows ≡ None
no_app rows none = none_of_app rows (app_of rows) refl none

-- the row of data channels of a table is the one that is found
app_of_its_place : (rows : List LineRow) (place p : ℕ) (mid : List ℕ) → OneApp rows → slice_get rows place ≡ Some (App p mid) → app_of rows ≡ Some (App p mid)
app_of_its_place [] place p mid one there = absurd (cc)
app_of_its_place (Media at own kind dir stopped remote_created ∷ rows) zero p mid one there = absurd (cc)
app_of_its_place (App at own ∷ rows) zero p mid one there = there
app_of_its_place (Media at own kind dir stopped remote_created ∷ rows) (suc place) p mid one there = app_of_its_place rows place p mid one.1 there
app_of_its_place (App at own ∷ rows) (suc place) p mid one there = absurd (both_ways (list_any is_app rows) one.0 (app_there rows place p mid there))
  where
    app_there : (rows : List LineRow) (place p : ℕ) (mid : List ℕ) → slice_get rows place ≡ Some (App p mid) → list_any is_app rows ≡ true
    app_there [] place p mid there = absurd (cc)
    app_there (Media at own kind dir stopped remote_created ∷ rows) zero p mid there = absurd (cc)
    app_there (App at own ∷ rows) zero p mid there = refl
    app_there (Media at own kind dir stopped remote_created ∷ rows) (suc place) p mid there = app_there rows place p mid there
    app_there (App at own ∷ rows) (suc place) p mid there = refl

known_says : (rows : List LineRow) (place : ℕ) (own row : LineRow) → OneApp rows → slice_get rows place ≡ Some own → SameName own row → SaysApp rows row
known_says rows place own (Media at mid kind dir stopped remote_created) one there same = tt
known_says rows place (App p m) (App at mid) one there same = rw (app_of_its_place rows place p m one there) (sym same)
known_says rows place (Media p m k d s r) (App at mid) one there same = absurd same

new_says : (rows : List LineRow) (row : LineRow) → NewRow rows row → SaysApp rows row
new_says rows (Media at mid kind dir stopped remote_created) new = tt
new_says rows (App at mid) new = rw (no_app rows new.1) refl

new_after : (rows answerer : List LineRow) (place : ℕ) (row : LineRow) → NewRow rows row → NewRow answerer row → NewRow rows (row_after answerer true place (row_said row))
new_after rows answerer place (Media at mid Audio dir stopped remote_created) new new' = new
new_after rows answerer place (Media at mid Video dir stopped remote_created) new new' = new
new_after rows answerer place (App at mid) new new' = rw (no_app answerer new'.1) new

-- what an answerer leaves of an offer goes on from the offerer's rows as the offer does
pub answer_follows : (rows answerer left left' more : List LineRow) (place : ℕ) → SayApps answerer more → Aligned left left' → Follows rows left more → Follows answerer left' more
    → Follows rows left (rows_after answerer true place (map row_said more))
answer_follows rows answerer [] [] [] place says same follows follows' = tt
answer_follows rows answerer [] [] (row ∷ more) place says same follows follows' =
    (new_after rows answerer place row follows.0 follows'.0, answer_follows rows answerer [] [] more (place + 1) says.1 tt follows.1 follows'.1)
answer_follows rows answerer (own ∷ left) (own' ∷ left') [] place says same follows follows' = absurd follows
answer_follows rows answerer (own ∷ left) (own' ∷ left') (row ∷ more) place says same follows follows' =
    (name_after answerer true place own row says.0 follows.0, answer_follows rows answerer left left' more (place + 1) says.1 same.1 follows.1 follows'.1)
answer_follows rows answerer left left' more place says same follows follows' = absurd same

-- ---- no line is refused

-- what is left of rows from a place on
abbrev pub IsLeft : List LineRow → ℕ → List LineRow → Type 0
IsLeft rows place left = (k : ℕ) → slice_get rows (place + k) ≡ slice_get left k

pub all_left : (rows : List LineRow) → IsLeft rows 0 rows
all_left rows k = ap (slice_get rows) (let e : 0 + k ≡ k = omega arith in e)

pub first_left : (rows : List LineRow) (place : ℕ) (left : List LineRow) → IsLeft rows place left → slice_get rows place ≡ slice_get left 0
first_left rows place left at = ap (slice_get rows) (let e : place ≡ place + 0 = omega arith in e) ∙ at 0

pub next_left : (rows : List LineRow) (place : ℕ) (row : LineRow) (left : List LineRow) → IsLeft rows place (row ∷ left) → IsLeft rows (place + 1) left
next_left rows place row left at k = ap (slice_get rows) (let e : place + 1 + k ≡ place + suc k = omega arith in e) ∙ at (suc k)

pub none_left : (rows : List LineRow) (place : ℕ) → IsLeft rows place [] → IsLeft rows (place + 1) []
none_left rows place at k = ap (slice_get rows) (let e : place + 1 + k ≡ place + suc k = omega arith in e) ∙ at (suc k)

-- a line of data channels does not come again
abbrev pub MayCome : Bool → LineRow → Type 0
MayCome came row = is_app row ≡ true → came ≡ false

known_line : (rows : List LineRow) (offer came : Bool) (place : ℕ) (own row : LineRow) → IsTable rows → slice_get rows place ≡ Some own → SameName own row → MayCome came row
    → (line_refusal rows offer came place (row_said row) ≡ None) × (is_new rows (row_said row) ≡ false)
known_line rows offer came place (Media p m k d s r) (Media at mid Audio dir stopped remote_created) table there same may =
    let found : row_of rows mid ≡ Some (Media p m k d s r) = ap (row_of rows) same.0 ∙ row_of_its_mid rows place (Media p m k d s r) table.distinct there in
    let here : (p == place) ≡ true = eq-eqb p place (let e : p ≡ 0 + place = place_of_row 0 rows place (Media p m k d s r) table.rising there in omega arith) in
    (rw (found, here, ← same.1) refl, rw found refl)
known_line rows offer came place (Media p m k d s r) (Media at mid Video dir stopped remote_created) table there same may =
    let found : row_of rows mid ≡ Some (Media p m k d s r) = ap (row_of rows) same.0 ∙ row_of_its_mid rows place (Media p m k d s r) table.distinct there in
    let here : (p == place) ≡ true = eq-eqb p place (let e : p ≡ 0 + place = place_of_row 0 rows place (Media p m k d s r) table.rising there in omega arith) in
    (rw (found, here, ← same.1) refl, rw found refl)
known_line rows offer came place (App p m) (App at mid) table there same may =
    let found : app_of rows ≡ Some (App p m) = app_of_its_place rows place p m table.one_app there in
    let here : (p == place) ≡ true = eq-eqb p place (let e : p ≡ 0 + place = place_of_row 0 rows place (App p m) table.rising there in omega arith) in
    (rw (found, here, may refl) refl, rw found refl)
known_line rows offer came place own row table there same may = absurd same

-- a place where no row stands is past the rows
past_rows : (rows : List LineRow) (place : ℕ) → slice_get rows place ≡ None → nat_lt place (length rows) ≡ false
past_rows rows place none = le-ltb place (length rows) (by rows place none)
  where
    by : (rows : List LineRow) (place : ℕ) → slice_get rows place ≡ None → length rows ≤ place
    by [] place none = omega arith
    by (row ∷ rows) zero none = absurd (cc)
    by (row ∷ rows) (suc place) none = omega (arith, by rows place none)

new_line : (rows : List LineRow) (offer came : Bool) (place : ℕ) (row : LineRow) → slice_get rows place ≡ None → NewRow rows row → MayCome came row
    → (line_refusal rows offer came place (row_said row) ≡ None) × (is_new rows (row_said row) ≡ true)
new_line rows offer came place (Media at mid Audio dir stopped remote_created) there new may =
    let found : row_of rows mid ≡ None = none_of_mid rows mid (row_of rows mid) refl new in (rw (found, there) refl, rw found refl)
new_line rows offer came place (Media at mid Video dir stopped remote_created) there new may =
    let found : row_of rows mid ≡ None = none_of_mid rows mid (row_of rows mid) refl new in (rw (found, there) refl, rw found refl)
new_line rows offer came place (App at mid) there new may =
    let found : app_of rows ≡ None = no_app rows new.1 in
    (rw (found, may refl, past_rows rows place there, new.0) refl, rw found refl)

-- whether a line of data channels came, as the rows tell
app_said : (row : LineRow) → is_application (row_said row).kind ≡ is_app row
app_said (Media place mid Audio dir stopped remote_created) = refl
app_said (Media place mid Video dir stopped remote_created) = refl
app_said (App place mid) = refl

-- what comes behind a row comes still
may_first : (came : Bool) (row : LineRow) (more : List LineRow) → NoMore came (row ∷ more) → MayCome came row
may_first true row more none is = absurd (both_ways (is_app row) (or_parts (is_app row) (list_any is_app more) none).0 is)
may_first false row more none is = refl

may_rest : (came : Bool) (row : LineRow) (more : List LineRow) → OneApp (row ∷ more) → NoMore came (row ∷ more) → NoMore (came || is_application (row_said row).kind) more
may_rest true row more one none = (or_parts (is_app row) (list_any is_app more) none).1
may_rest false row more one none = rw (app_said row) one.0

-- no line of rows that go on from a table is refused
pub follows_allowed : (rows : List LineRow) (offer came : Bool) (place : ℕ) (left more : List LineRow) → IsTable rows → IsLeft rows place left → Follows rows left more → OneApp more → NoMore came more
    → first_refusal rows offer came place (map row_said more) ≡ None
follows_allowed rows offer came place [] [] table at follows one none = refl
follows_allowed rows offer came place [] (row ∷ more) table at follows one none =
    rw (new_line rows offer came place row (first_left rows place [] at) follows.0 (may_first came row more none)).0
    (follows_allowed rows offer (came || is_application (row_said row).kind) (place + 1) [] more table (none_left rows place at) follows.1 one.1 (may_rest came row more one none))
follows_allowed rows offer came place (own ∷ left) [] table at follows one none = absurd follows
follows_allowed rows offer came place (own ∷ left) (row ∷ more) table at follows one none =
    rw (known_line rows offer came place own row table (first_left rows place (own ∷ left) at) follows.0 (may_first came row more none)).0
    (follows_allowed rows offer (came || is_application (row_said row).kind) (place + 1) left more table (next_left rows place own left at) follows.1 one.1 (may_rest came row more one none))

-- rows that go on from a table say the mid of its line of data channels
pub follows_say : (rows : List LineRow) (place : ℕ) (left more : List LineRow) → IsTable rows → IsLeft rows place left → Follows rows left more → SayApps rows more
follows_say rows place [] [] table at follows = tt
follows_say rows place [] (row ∷ more) table at follows = (new_says rows row follows.0, follows_say rows (place + 1) [] more table (none_left rows place at) follows.1)
follows_say rows place (own ∷ left) [] table at follows = absurd follows
follows_say rows place (own ∷ left) (row ∷ more) table at follows =
    (known_says rows place own row table.one_app (first_left rows place (own ∷ left) at) follows.0, follows_say rows (place + 1) left more table (next_left rows place own left at) follows.1)

-- ---- the new lines of an answer

-- past the rows that are left, each row is found among the added ones
abbrev pub FindsNew : List LineRow → List LineRow → List LineRow → Type 0
FindsNew news left [] = Unit {0}
FindsNew news [] (row ∷ rows) = (row_of news (row_mid row) ≡ Some row) × FindsNew news [] rows
FindsNew news (own ∷ left) (row ∷ rows) = FindsNew news left rows

added_line : (news : List LineRow) (place : ℕ) (offered row : LineRow) → row_of news (row_mid offered) ≡ Some offered → row_place offered ≡ place → SameName offered row
    → by_added place (row_said row) (row_of news (row_said row).mid) ≡ None
added_line news place (Media p m k d s r) (Media at mid Audio dir stopped remote_created) found here same =
    let there : row_of news mid ≡ Some (Media p m k d s r) = ap (row_of news) same.0 ∙ found in rw (there, ← same.1, eq-eqb p place here) refl
added_line news place (Media p m k d s r) (Media at mid Video dir stopped remote_created) found here same =
    let there : row_of news mid ≡ Some (Media p m k d s r) = ap (row_of news) same.0 ∙ found in rw (there, ← same.1, eq-eqb p place here) refl
added_line news place (App p m) (App at mid) found here same =
    let there : row_of news mid ≡ Some (App p m) = ap (row_of news) same ∙ found in rw (there, eq-eqb p place here) refl
added_line news place offered row found here same = absurd same

-- the new lines of an answer to rows that were offered are the added ones
pub follows_right : (rows news : List LineRow) (place : ℕ) (left offered more : List LineRow) → IsTable rows → IsLeft rows place left → Follows rows left more
    → Aligned offered more → Rising place offered → FindsNew news left offered → wrong_line rows news place (map row_said more) ≡ None
follows_right rows news place left [] [] table at follows same rising finds = refl
follows_right rows news place [] (row ∷ offered) (other ∷ more) table at follows same rising finds =
    let new = (new_line rows false false place other (first_left rows place [] at) follows.0 (λ is. refl)).1 in
    rw (new, added_line news place row other finds.0 rising.0 same.0)
    (follows_right rows news (place + 1) [] offered more table (none_left rows place at) follows.1 same.1 rising.1 finds.1)
follows_right rows news place (own ∷ left) (row ∷ offered) (other ∷ more) table at follows same rising finds =
    rw (known_line rows false false place own other table (first_left rows place (own ∷ left) at) follows.0 (λ is. refl)).1
    (follows_right rows news (place + 1) left offered more table (next_left rows place own left at) follows.1 same.1 rising.1 finds)
follows_right rows news place left offered more table at follows same rising finds = absurd same
