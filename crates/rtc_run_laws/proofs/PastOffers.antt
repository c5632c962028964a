-- The offer of a number in a past: which step made it, what it says, and which rows it added.
use Rattle.std.proofs.Common.{◌≡◌, ◌<◌, ℕ, Bool, true, false, not, ◌&&◌, List, [], ◌∷◌, ◌++◌, map, length, Option, Some, None, refl, sym, ◌∙◌, ap, subst, arith, length-append, zero, suc}
use Rattle.std.specs.Prelude.{slice_get, is_some}
use Rattle.std.proofs.lemmas.Bool.{eqb-true}
use Rattle.rtc_sdp_values.specs.LineRow.{row_mid}
use Rattle.rtc_sdp_values.specs.declared.line_row.LineRow.{LineRow}
use Rattle.rtc_sdp_values.specs.declared.sdp.Sdp.{Sdp}
use Rattle.rtc_change.specs.Held.{Asked}
use Rattle.rtc_peer_rows.specs.ParsedLines.{parsed_lines}
use Rattle.rtc_run_history.specs.Signalled.{Signalled, NotMade, Unreadable, Readable, foreign}
use Rattle.rtc_run_history.specs.declared.side.Side.{Side}
use Rattle.rtc_run_history.specs.declared.op_answer.OpAnswer.{OpAnswer}
use Rattle.rtc_run_history.specs.declared.made.Made.{Made}
use Rattle.rtc_run_history.specs.declared.made.Made.TheVariants.{NotAsked, Nothing, Offer, Alloc as MadeAlloc}
use Rattle.rtc_run_history.specs.declared.step.Step.{Step}
use Rattle.rtc_run_history.specs.declared.step.Step.TheVariants.{Negotiate, AcceptOffer, AcceptAnswer, Time, Datagram, Poll, Drain, Write, CloseChannel, Close, Rollback, ForeignOffer, ForeignAnswer, Raw}
use Rattle.rtc_run_history.specs.declared.outcome.Outcome.{Outcome}
use Rattle.rtc_run_history.specs.declared.outcome.Outcome.TheVariants.{Negotiated, Answered, Finished, Done, Wrote, Polled, Refused, NoSuch, Alloc}
use Rattle.rtc_run_history.specs.declared.table.Table.{Table}
use Rattle.rtc_run_history.specs.Sides.{side_of}
use Rattle.rtc_run_history.specs.Past.{Entry, MadeSdp, before, sdps, remote_sdp, is_offer_of, holds_token, is_right, moves, makes, new_app, added_in, added_by}
use Rattle.rtc_run_history.specs.Answers.{has_app_row, do_need_offer, added}
use Rattle.rtc_run_history.specs.Memory.{answers_lack}
use Rattle.rtc_run_history.specs.Sound.{MadeOf, RepliesToOffer, RepliesToAnswer, RepliesToRollback, IsSound, asked_in, is_glare_at}
use Rattle.rtc_run_history.specs.Undone.{table_shown, table_undone}
use Rattle.rtc_run_history.specs.SaidRows.{row_said, MakesSdp}
use Rattle.rtc_run_history.specs.Rounds.{makes_offer, rows_at_offer}
use Rattle.rtc_run_laws.proofs.Rests.{no_rest}
use Rattle.rtc_run_laws.proofs.SoundPasts.{IsSoundIn, Sound}
use Rattle.rtc_run_laws.proofs.Tells.{same_side-self, same_side-true}
use Rattle.rtc_run_laws.proofs.AddedRows.{AreAdded}
use Rattle.rtc_run_laws.proofs.OfferTables.{ops_new}
use Rattle.rtc_run_history.specs.Views.{Stances, view_in}
use Rattle.rtc_peer_core.specs.Stance.{held_by}

-- ---- SDPs that stay

-- an element of a list stays where it is behind which more come
pub stays_there : {A : Type 0} (xs ys : List A) (t : ℕ) (x : A) → slice_get xs t ≡ Some x → slice_get (xs ++ ys) t ≡ Some x
stays_there [] ys t x there = absurd (cc)
stays_there (y ∷ xs) ys zero x there = there
stays_there (y ∷ xs) ys (suc t) x there = stays_there xs ys t x there

-- an element within a list is that of the list with more behind it
pub within_there : {A : Type 0} (xs ys : List A) (t : ℕ) → t < length xs → slice_get (xs ++ ys) t ≡ slice_get xs t
within_there [] ys t within = absurd (omega arith)
within_there (y ∷ xs) ys zero within = refl
within_there (y ∷ xs) ys (suc t) within = within_there xs ys t (omega arith)

-- the first of the elements that come behind a list
pub next_there : {A : Type 0} (xs : List A) (x : A) (t : ℕ) → t ≡ length xs → slice_get (xs ++ x ∷ []) t ≡ Some x
next_there [] x zero at = refl
next_there [] x (suc t) at = absurd (omega arith)
next_there (y ∷ xs) x zero at = absurd (omega arith)
next_there (y ∷ xs) x (suc t) at = next_there xs x t (omega arith)

-- ---- the step that made an offer

-- What a step that made the offer of a number is.
pub record OfferEntry {E : Type 0} (past : List (Entry E)) (entry : Entry E) (t : ℕ) : Type 0 where
  pub sdp : Sdp
  pub more : List LineRow
  pub count : t ≡ length (sdps past)
  pub one : entry.made ≡ record { at = side_of entry.step; offer = true; sdp = sdp } ∷ []
  pub adds : added_in (length (before (side_of entry.step) (entry ∷ past))) entry.step entry.outcome entry.table entry.made ≡ more
  pub may : Bool
  pub new : AreAdded may (map row_mid (before (side_of entry.step) (entry ∷ past))) (length (before (side_of entry.step) (entry ∷ past))) more
  pub says : parsed_lines sdp ≡ map row_said (before (side_of entry.step) (entry ∷ past) ++ more)
  pub moved : moves (side_of entry.step) entry.step entry.outcome ≡ true

offer_count : (asked offers : Bool) (k next : ℕ) → MadeOf asked offers (Offer k) next → k ≡ next
offer_count true true k next made = made
offer_count true false k next made = absurd made
offer_count false offers k next made = absurd made

no_offer : {E : Type 0} → (fresh between : Stances) (glare : Bool) (sdp : Signalled) (past : List (Entry E)) (at : Side) (next : ℕ) (answers : List OpAnswer) (made : Made) (after : List LineRow) → RepliesToOffer {E = E} glare sdp (view_in fresh at past (held_by (between at))) next (Negotiated answers made) after → ⊥
no_offer fresh between true NotMade past at next answers made after takes = takes
no_offer fresh between true (Unreadable line) past at next answers made after takes = takes
no_offer fresh between true (Readable sdp) past at next answers made after takes = takes
no_offer fresh between false NotMade past at next answers made after takes = takes
no_offer fresh between false (Unreadable line) past at next answers made after takes = takes
no_offer fresh between false (Readable sdp) past at next answers made after takes = takes

no_answer : {E : Type 0} → (fresh between : Stances) (held right : Bool) (asked : Asked) (sdp : Signalled) (past : List (Entry E)) (at : Side) (answers : List OpAnswer) (made : Made) (after : List LineRow) → RepliesToAnswer {E = E} held right asked sdp (view_in fresh at past (held_by (between at))) (Negotiated answers made) after → ⊥
no_answer fresh between false right asked sdp past at answers made after takes = takes
no_answer fresh between true right asked NotMade past at answers made after takes = takes
no_answer fresh between true right asked (Unreadable line) past at answers made after takes = takes
no_answer fresh between true false asked (Readable sdp) past at answers made after takes = takes
no_answer fresh between true true asked (Readable sdp) past at answers made after takes = takes

no_rollback : (E : Type 0) (held right : Bool) (earlier undone : Table) (answers : List OpAnswer) (made : Made) (table : Table) → RepliesToRollback {E = E} held right earlier undone (Negotiated answers made) table → ⊥
no_rollback E false false earlier undone answers made table replied = replied
no_rollback E false true earlier undone answers made table replied = replied
no_rollback E true false earlier undone answers made table replied = replied
no_rollback E true true earlier undone answers made table replied = replied

pub offer_entry : {E : Type 0} → (fresh : Stances) (past : List (Entry E)) (entry : Entry E) (t : ℕ) → IsSoundIn fresh past entry → makes_offer t entry ≡ true → OfferEntry past entry t
offer_entry {E} fresh past entry t sound makes_it = by sound.between entry.step entry.outcome entry.table entry.made sound.sound.replied sound.sound.made makes_it
  where
    rows_of : (at : Side) (table : Table) (step : Step) (outcome : Outcome E) (made : List MadeSdp) → side_of step ≡ at → before (side_of step) (record { step = step; outcome = outcome; table = Some table; made = made } ∷ past) ≡ table.lines
    rows_of at table step outcome made is = rw (same_side-self (side_of step)) refl

    by : (between : Stances) (step : Step) (outcome : Outcome E) (table : Option Table) (made : List MadeSdp) → IsSound fresh past between step outcome table made → MakesSdp step outcome table made → makes t outcome ≡ true
        → OfferEntry past (record { step = step; outcome = outcome; table = table; made = made }) t
    by between (Negotiate at ops apply) (Negotiated answers (Offer k)) (Some table) made replied sdp makes_it =
        let rows = rows_of at table (Negotiate at ops apply) (Negotiated answers (Offer k)) made refl in
        record {
          sdp = sdp.sdp;
          more = added (new_app table.lines made) (length table.lines) ops answers;
          count = sym (eqb-true k t makes_it) ∙ offer_count (apply && not (answers_lack answers)) (do_need_offer (has_app_row (before at past)) answers) k (length (sdps past)) replied.1;
          one = sdp.one;
          adds = rw rows refl;
          may = is_some (new_app table.lines made);
          new = rw rows (ops_new (between at) past at (new_app table.lines made) ops answers table.lines (length table.lines) replied.0);
          says = rw rows sdp.says;
          moved = rw (same_side-self at) refl;
        }
    by between (Negotiate at ops apply) (Negotiated answers NotAsked) table made replied sdp makes_it = absurd (cc)
    by between (Negotiate at ops apply) (Negotiated answers Nothing) table made replied sdp makes_it = absurd (cc)
    by between (Negotiate at ops apply) (Negotiated answers MadeAlloc) table made replied sdp makes_it = absurd (cc)
    by between (Negotiate at ops apply) (Negotiated answers (Offer k)) None made replied sdp makes_it = absurd replied
    by between (AcceptOffer at offer) (Negotiated answers what) None made replied sdp makes_it = absurd replied
    by between (AcceptOffer at offer) (Negotiated answers what) (Some table) made replied sdp makes_it =
        absurd (no_offer fresh between (is_glare_at fresh at past) (remote_sdp true at offer past) past at (length (sdps past)) answers what table.lines replied.0)
    by between (AcceptAnswer at token answer) (Negotiated answers what) None made replied sdp makes_it = absurd replied
    by between (AcceptAnswer at token answer) (Negotiated answers what) (Some table) made replied sdp makes_it =
        absurd (no_answer fresh between (holds_token at token past) (is_right at token past) (asked_in at token past) (remote_sdp false at answer past) past at answers what table.lines replied.0)
    by between (Time at now) (Negotiated answers what) table made replied sdp makes_it = absurd (no_rest fresh between (Time at now) answers what table made past tt replied)
    by between (Datagram at packet now) (Negotiated answers what) table made replied sdp makes_it = absurd (no_rest fresh between (Datagram at packet now) answers what table made past tt replied)
    by between (Poll at) (Negotiated answers what) table made replied sdp makes_it = absurd (no_rest fresh between (Poll at) answers what table made past tt replied)
    by between (Drain at) (Negotiated answers what) table made replied sdp makes_it = absurd (no_rest fresh between (Drain at) answers what table made past tt replied)
    by between (Write at channel binary bytes) (Negotiated answers what) table made replied sdp makes_it = absurd (no_rest fresh between (Write at channel binary bytes) answers what table made past tt replied)
    by between (CloseChannel at channel) (Negotiated answers what) table made replied sdp makes_it = absurd (no_rest fresh between (CloseChannel at channel) answers what table made past tt replied)
    by between (Close at) (Negotiated answers what) table made replied sdp makes_it = absurd (no_rest fresh between (Close at) answers what table made past tt replied)
    by between (Rollback at u) (Negotiated answers what) None made replied sdp makes_it = absurd replied
    by between (Rollback at u) (Negotiated answers what) (Some table) made replied sdp makes_it =
        absurd (no_rollback E (holds_token at u past) (is_right at u past) (table_shown at past) (table_undone at u past) answers what table replied)
    by between (ForeignOffer at text) (Negotiated answers what) None made replied sdp makes_it = absurd replied
    by between (ForeignOffer at text) (Negotiated answers what) (Some table) made replied sdp makes_it =
        absurd (no_offer fresh between (is_glare_at fresh at past) (foreign text) past at (length (sdps past)) answers what table.lines replied.0)
    by between (ForeignAnswer at token text) (Negotiated answers what) None made replied sdp makes_it = absurd replied
    by between (ForeignAnswer at token text) (Negotiated answers what) (Some table) made replied sdp makes_it =
        absurd (no_answer fresh between (holds_token at token past) (is_right at token past) (asked_in at token past) (foreign text) past at answers what table.lines replied.0)
    by between (Raw at bytes now) (Negotiated answers what) table made replied sdp makes_it = absurd (no_rest fresh between (Raw at bytes now) answers what table made past tt replied)
    by between step (Answered k) table made replied sdp makes_it = absurd (cc)
    by between step Finished table made replied sdp makes_it = absurd (cc)
    by between step Done table made replied sdp makes_it = absurd (cc)
    by between step (Wrote taken) table made replied sdp makes_it = absurd (cc)
    by between step (Polled outputs end) table made replied sdp makes_it = absurd (cc)
    by between step (Refused error) table made replied sdp makes_it = absurd (cc)
    by between step NoSuch table made replied sdp makes_it = absurd (cc)
    by between step Alloc table made replied sdp makes_it = absurd (cc)

-- ---- the offer of a number

-- What a past says of the offer of a number, which a side made.
pub record PastOffer {E : Type 0} (at : Side) (t : ℕ) (past : List (Entry E)) : Type 0 where
  pub sdp : Sdp
  pub more : List LineRow
  pub there : slice_get (sdps past) t ≡ Some (record { at = at; offer = true; sdp = sdp })
  pub adds : added_by (length (rows_at_offer at t past)) t past ≡ more
  pub may : Bool
  pub new : AreAdded may (map row_mid (rows_at_offer at t past)) (length (rows_at_offer at t past)) more
  pub says : parsed_lines sdp ≡ map row_said (rows_at_offer at t past ++ more)

-- the SDP of an entry is behind those before it
pub text_next : {E : Type 0} → (past : List (Entry E)) (entry : Entry E) (said : MadeSdp) (t : ℕ) → entry.made ≡ said ∷ [] → t ≡ length (sdps past) → slice_get (sdps (entry ∷ past)) t ≡ Some said
text_next past entry said t one at = rw one (next_there (sdps past) said t at)

pub maker_side : (at : Side) (sdp : Sdp) (found : Option MadeSdp) (side : Side) → found ≡ Some (record { at = side; offer = true; sdp = sdp }) → is_offer_of at found ≡ true → side ≡ at
maker_side at sdp found side there mine = same_side-true side at (let e : is_offer_of at (Some (record { at = side; offer = true; sdp = sdp })) ≡ true = ap (is_offer_of at) (sym there) ∙ mine in e)

-- what a side has to do with the newest entry that made an offer, and with the ones before it
pub right_parts : {E : Type 0} → (at : Side) (t : ℕ) (past : List (Entry E)) (entry : Entry E) → makes_offer t entry ≡ false → is_right at t (entry ∷ past) ≡ true
    → (moves at entry.step entry.outcome ≡ false) × (is_right at t past ≡ true)
right_parts at t past entry other right = by (moves at entry.step entry.outcome) refl
  where
    stands : (not (moves at entry.step entry.outcome) && is_right at t past) ≡ true
    stands = rw other at right

    by : (moved : Bool) → moves at entry.step entry.outcome ≡ moved → (moves at entry.step entry.outcome ≡ false) × (is_right at t past ≡ true)
    by true is = absurd (let e = rw is at stands in cc)
    by false is = (is, rw is at stands)

-- the number of an offer that is right is that of an SDP
pub right_within : {E : Type 0} → (fresh : Stances) (at : Side) (t : ℕ) (past : List (Entry E)) → Sound fresh past → is_right at t past ≡ true → t < length (sdps past)
right_within fresh at t [] sound right = absurd (cc)
right_within fresh at t (entry ∷ past) sound right = by (λ right. right_within fresh at t past sound.1 right) (makes_offer t entry) refl
  where
    by : (is_right at t past ≡ true → t < length (sdps past)) → (made : Bool) → makes_offer t entry ≡ made → t < length (sdps (entry ∷ past))
    by earlier true is =
        let it = offer_entry fresh past entry t sound.0 is in
        let one : length entry.made ≡ 1 = ap length it.one in
        omega (arith, it.count, length-append (sdps past) entry.made)
    by earlier false is = omega (arith, earlier (right_parts at t past entry is right).1, length-append (sdps past) entry.made)

-- The offer of a number that is right.
pub past_offer : {E : Type 0} → (fresh : Stances) (at : Side) (t : ℕ) (past : List (Entry E)) → Sound fresh past → is_right at t past ≡ true → is_offer_of at (slice_get (sdps past) t) ≡ true → PastOffer at t past
past_offer fresh at t [] sound right mine = absurd (cc)
past_offer fresh at t (entry ∷ past) sound right mine = by (λ right mine. past_offer fresh at t past sound.1 right mine) (makes_offer t entry) refl
  where
    by : (is_right at t past ≡ true → is_offer_of at (slice_get (sdps past) t) ≡ true → PastOffer at t past) → (made : Bool) → makes_offer t entry ≡ made → PastOffer at t (entry ∷ past)
    by earlier true is =
        let it = offer_entry fresh past entry t sound.0 is in
        let there = text_next past entry _ t it.one it.count in
        let here : side_of entry.step ≡ at = maker_side at it.sdp _ (side_of entry.step) there mine in
        subst (λ (side : Side). PastOffer side t (entry ∷ past)) here
        (record {
          sdp = it.sdp;
          more = it.more;
          there = there;
          adds = rw is it.adds;
          may = it.may;
          new = rw is it.new;
          says = rw is it.says;
        })
    by earlier false is =
        let before_it = (right_parts at t past entry is right).1 in
        let same = within_there (sdps past) entry.made t (right_within fresh at t past sound.1 before_it) in
        let offer = earlier before_it (ap (is_offer_of at) (sym same) ∙ mine) in
        let rows : rows_at_offer at t past ≡ rows_at_offer at t (entry ∷ past) = rw is refl in
        record {
          sdp = offer.sdp;
          more = offer.more;
          there = same ∙ offer.there;
          adds = subst (λ (list : List LineRow). added_by (length list) t (entry ∷ past) ≡ offer.more) rows (rw is offer.adds);
          may = offer.may;
          new = rw is offer.new;
          says = rw is offer.says;
        }
