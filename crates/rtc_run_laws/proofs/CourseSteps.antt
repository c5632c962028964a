-- Where a step that is in order leads in a course.
use Rattle.std.proofs.Common.{◌≡◌, ◌+◌, ◌==◌, ℕ, Bool, true, false, not, ◌&&◌, ◌||◌, List, ◌++◌, Some, None, refl, sym, ◌∙◌, ap, cond, length, [], ◌∷◌, ◌≢◌, arith}
use Rattle.std.proofs.lemmas.Bool.{eqb-true, and_parts, or_from}
use Rattle.rtc_sdp_values.specs.declared.line_row.LineRow.{LineRow}
use Rattle.rtc_run_history.specs.declared.side.Side.{Side}
use Rattle.rtc_run_history.specs.declared.side.Side.TheVariants.{Left, Right}
use Rattle.rtc_run_history.specs.declared.op.Op.{Op}
use Rattle.rtc_run_history.specs.Sides.{same_side, other_side}
use Rattle.rtc_run_history.specs.CourseRows.{must_offer, rows_added, do_stop_first, do_add_odd_channel, course_rows_after}
use Rattle.rtc_run_history.specs.Orderly.{Phase, Idle, AwaitsAnswer, AwaitsEnd, Course, course_rows, moved_on, after_offering, do_supersede, after_fitting, after_ops, after_offer, after_answer, offering}
use Rattle.rtc_run_laws.proofs.Tells.{same_side-true}

same_course : (one other : Course) → Some one ≡ Some other → one ≡ other
same_course one other is = cc

-- ---- ops

-- What ops that are in order do not do.
pub record AreInOrder (apply : Bool) (at : Side) (ops : List Op) (phase : Phase) : Type 0 where
  pub stays : do_stop_first ops ≡ false
  pub plain : do_add_odd_channel ops ≡ false
  pub right : do_supersede apply at ops phase ≡ false

pub in_order : (apply : Bool) (at : Side) (ops : List Op) (course course' : Course) (rows : List LineRow) → after_ops apply at ops course rows ≡ Some course' → AreInOrder apply at ops course.phase
in_order apply at ops course course' rows is = by (do_stop_first ops) (do_add_odd_channel ops) (do_supersede apply at ops course.phase) refl refl refl is
  where
    by : (stops odd late : Bool) → do_stop_first ops ≡ stops → do_add_odd_channel ops ≡ odd → do_supersede apply at ops course.phase ≡ late
        → cond (do_stop_first ops || (do_add_odd_channel ops || do_supersede apply at ops course.phase)) None (after_fitting apply at ops course rows) ≡ Some course' → AreInOrder apply at ops course.phase
    by false false false stops odd late is = record { stays = stops; plain = odd; right = late }
    by true odd_is late_is stops odd late is = absurd (let e : None ≡ Some course' = rw stops at is in cc)
    by false true late_is stops odd late is = absurd (let e : None ≡ Some course' = rw (stops, odd) at is in cc)
    by false false true stops odd late is = absurd (let e : None ≡ Some course' = rw (stops, odd, late) at is in cc)

fitting : (apply : Bool) (at : Side) (ops : List Op) (course course' : Course) (rows : List LineRow) → after_ops apply at ops course rows ≡ Some course' → after_fitting apply at ops course rows ≡ Some course'
fitting apply at ops course course' rows is =
    let order = in_order apply at ops course course' rows is in
    sym (ap (λ b. cond b None (after_fitting apply at ops course rows)) (or_from (do_stop_first ops) _ order.stays (or_from (do_add_odd_channel ops) _ order.plain order.right))) ∙ is

-- where ops that offer nothing lead
pub quiet_course : (apply : Bool) (at : Side) (ops : List Op) (course course' : Course) (rows : List LineRow) → after_ops apply at ops course rows ≡ Some course' → (apply && must_offer ops (course_rows at course)) ≡ false
    → moved_on at course rows course.sdps course.phase ≡ course'
quiet_course apply at ops course course' rows is quiet =
    same_course _ course' (sym (ap (λ b. cond b (after_offering at course rows (rows_added rows ops) course.phase) (Some (moved_on at course rows course.sdps course.phase))) quiet) ∙ fitting apply at ops course course' rows is)

-- where ops that offer lead
pub record OffersAt (at : Side) (course course' : Course) (rows said : List LineRow) : Type 0 where
  pub idle : course.phase ≡ Idle
  pub some : length said ≢ 0
  pub course_is : moved_on at course rows (course.sdps + 1) (AwaitsAnswer at course.sdps said) ≡ course'

-- an offer is of at least one line
lines_offered : (at : Side) (course course' : Course) (rows said : List LineRow) → offering at course rows said ≡ Some course'
    → (length said ≢ 0) × (moved_on at course rows (course.sdps + 1) (AwaitsAnswer at course.sdps said) ≡ course')
lines_offered at course course' rows [] after = absurd (cc)
lines_offered at course course' rows (line ∷ lines) after = (λ none. omega arith, same_course _ course' after)

pub offer_course : (apply : Bool) (at : Side) (ops : List Op) (course course' : Course) (rows : List LineRow) → after_ops apply at ops course rows ≡ Some course' → (apply && must_offer ops (course_rows at course)) ≡ true
    → OffersAt at course course' rows (rows ++ rows_added rows ops)
offer_course apply at ops course course' rows is offers =
    by course.phase refl (sym (ap (λ b. cond b (after_offering at course rows (rows_added rows ops) course.phase) (Some (moved_on at course rows course.sdps course.phase))) offers) ∙ fitting apply at ops course course' rows is)
  where
    by : (phase : Phase) → course.phase ≡ phase → after_offering at course rows (rows_added rows ops) phase ≡ Some course' → OffersAt at course course' rows (rows ++ rows_added rows ops)
    by Idle is after = let lines = lines_offered at course course' rows (rows ++ rows_added rows ops) after in record { idle = is; some = lines.0; course_is = lines.1 }
    by (AwaitsAnswer side n said) is after = absurd (cc)
    by (AwaitsEnd side n m said) is after = absurd (cc)

-- ---- acceptances

-- Where an offer is accepted in a course.
pub record AcceptsAt (at : Side) (k : ℕ) (course : Course) (phase : Phase) (course' : Course) : Type 0 where
  pub side : Side
  pub said : List LineRow
  pub phase_is : phase ≡ AwaitsAnswer side k said
  pub at_is : other_side side ≡ at
  pub course_is : moved_on at course (course_rows_after true 0 (course_rows at course) said) (course.sdps + 1) (AwaitsEnd side k course.sdps (course_rows_after true 0 (course_rows at course) said)) ≡ course'

elsewhere : (side at : Side) → not (same_side side at) ≡ true → other_side side ≡ at
elsewhere Left Left other = absurd (cc)
elsewhere Left Right other = refl
elsewhere Right Left other = refl
elsewhere Right Right other = absurd (cc)

pub accept_course : (at : Side) (k : ℕ) (course : Course) (phase : Phase) (course' : Course) → after_offer at k course phase ≡ Some course' → AcceptsAt at k course phase course'
accept_course at k course Idle course' is = absurd (cc)
accept_course at k course (AwaitsEnd side n m said) course' is = absurd (cc)
accept_course at k course (AwaitsAnswer side n said) course' is = by (not (same_side side at) && (k == n)) refl is
  where
    rows : List LineRow
    rows = course_rows_after true 0 (course_rows at course) said

    by : (here : Bool) → (not (same_side side at) && (k == n)) ≡ here → cond here (Some (moved_on at course rows (course.sdps + 1) (AwaitsEnd side n course.sdps rows))) None ≡ Some course'
        → AcceptsAt at k course (AwaitsAnswer side n said) course'
    by false here is = absurd (let e : None ≡ Some course' = is in cc)
    by true here is =
        let parts = and_parts (not (same_side side at)) (k == n) here in
        let number : k ≡ n = eqb-true k n parts.1 in
        record {
          side = side;
          said = said;
          phase_is = ap (λ one. AwaitsAnswer side one said) (sym number);
          at_is = elsewhere side at parts.0;
          course_is = ap (λ (one : ℕ). moved_on at course rows (course.sdps + 1) (AwaitsEnd side one course.sdps rows)) number ∙ same_course _ course' is;
        }

-- Where an answer is accepted in a course.
pub record EndsAt (at : Side) (t a : ℕ) (course : Course) (phase : Phase) (course' : Course) : Type 0 where
  pub said : List LineRow
  pub phase_is : phase ≡ AwaitsEnd at t a said
  pub course_is : moved_on at course (course_rows_after false 0 (course_rows at course) said) course.sdps Idle ≡ course'

pub end_course : (at : Side) (t a : ℕ) (course : Course) (phase : Phase) (course' : Course) → after_answer at t a course phase ≡ Some course' → EndsAt at t a course phase course'
end_course at t a course Idle course' is = absurd (cc)
end_course at t a course (AwaitsAnswer side n said) course' is = absurd (cc)
end_course at t a course (AwaitsEnd side n m said) course' is = by (same_side side at && ((t == n) && (a == m))) refl is
  where
    by : (here : Bool) → (same_side side at && ((t == n) && (a == m))) ≡ here → cond here (Some (moved_on at course (course_rows_after false 0 (course_rows at course) said) course.sdps Idle)) None ≡ Some course'
        → EndsAt at t a course (AwaitsEnd side n m said) course'
    by false here is = absurd (let e : None ≡ Some course' = is in cc)
    by true here is =
        let parts = and_parts (same_side side at) ((t == n) && (a == m)) here in
        let numbers = and_parts (t == n) (a == m) parts.1 in
        record {
          said = said;
          phase_is = ap (λ one. AwaitsEnd one n m said) (same_side-true side at parts.0) ∙ ap (λ one. AwaitsEnd at one m said) (sym (eqb-true t n numbers.0)) ∙ ap (λ one. AwaitsEnd at t one said) (sym (eqb-true a m numbers.1));
          course_is = same_course _ course' is;
        }
