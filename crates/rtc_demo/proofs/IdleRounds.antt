-- A round of an added line and little else leads from where no round is open to there.
use Rattle.std.proofs.Common.{◌≡◌, ◌+◌, ◌==◌, ℕ, true, false, List, [], ◌∷◌, ◌++◌, length, map, Option, Some, None, cond, refl, ap, ◌∙◌, arith}
use Rattle.rtc_sdp_values.specs.declared.direction.Direction.{Direction}
use Rattle.rtc_sdp_values.specs.declared.line_row.LineRow.{LineRow}
use Rattle.rtc_sdp_values.specs.declared.line_row.LineRow.TheVariants.{Media}
use Rattle.rtc_sdp_values.specs.declared.media_kind.MediaKind.{MediaKind}
use Rattle.rtc_run_history.specs.Answers.{has_app_row, added}
use Rattle.rtc_run_history.specs.CourseRows.{rows_after_ops, rows_added, adding_answer, course_rows_after}
use Rattle.rtc_run_history.specs.Orderly.{Idle, AwaitsAnswer, AwaitsEnd, Course, course_rows, moved_on, offering, after_step, follow}
use Rattle.rtc_run_history.specs.Sides.{other_side}
use Rattle.rtc_run_history.specs.declared.op.Op.{Op}
use Rattle.rtc_run_history.specs.declared.op.Op.TheVariants.{AddMedia}
use Rattle.rtc_run_history.specs.declared.side.Side.{Side}
use Rattle.rtc_run_history.specs.declared.side.Side.TheVariants.{Left, Right}
use Rattle.rtc_run_history.specs.declared.step.Step.{Step}
use Rattle.rtc_run_history.specs.declared.step.Step.TheVariants.{Negotiate, AcceptOffer, AcceptAnswer}
use Rattle.rtc_demo.specs.DemoSteps.{steps_between}
use Rattle.rtc_demo.proofs.RoundForms.{AreFew}

-- no round is open, and so many descriptions were made
abbrev pub idle_with : List LineRow → List LineRow → ℕ → Course
idle_with left right sdps = record { left = left; right = right; sdps = sdps; phase = Idle }

pub record IsIdleAfter (sdps : ℕ) (after : Option Course) : Type 0 where
  pub left : List LineRow
  pub right : List LineRow
  pub is : after ≡ Some (idle_with left right sdps)

-- lines that are offered, one of which is added
offered : (at : Side) (course : Course) (rows front : List LineRow) (line : LineRow) (lines : List LineRow)
    → offering at course rows (front ++ line ∷ lines) ≡ Some (moved_on at course rows (course.sdps + 1) (AwaitsAnswer at course.sdps (front ++ line ∷ lines)))
offered at course rows [] line lines = refl
offered at course rows (first ∷ front) line lines = refl

-- the rows that an op for a line adds, with those of the other ops
abbrev more_added : List LineRow → List Op → List LineRow
more_added rows more = added (cond (has_app_row rows) None (Some [])) (length rows + 1) more (map adding_answer more)

abbrev said_by : List LineRow → MediaKind → Direction → List Op → List LineRow
said_by rows kind dir more = rows ++ rows_added rows (AddMedia kind dir ∷ more)

step_offers : (at : Side) (kind : MediaKind) (dir : Direction) (more : List Op) (left right : List LineRow) (n : ℕ) → AreFew more → (rows : List LineRow) → rows_after_ops more (course_rows at (idle_with left right n)) ≡ rows
    → after_step (idle_with left right n) (Negotiate at (AddMedia kind dir ∷ more) true)
    ≡ Some (moved_on at (idle_with left right n) rows (n + 1) (AwaitsAnswer at n (said_by rows kind dir more)))
step_offers at kind dir more left right n fine rows is =
    rw (is, fine.first, fine.odd) (offered at (idle_with left right n) rows rows (Media (length rows) [] kind dir false false) (more_added rows more))

same_number : (n : ℕ) → (n == n) ≡ true
same_number n = grind arith

abbrev awaiting_answer : Side → Course → List LineRow → ℕ → List LineRow → Course
awaiting_answer at course rows n said = moved_on at course rows (n + 1) (AwaitsAnswer at n said)

abbrev awaiting_end : Side → Course → ℕ → List LineRow → Course
awaiting_end at course n rows = moved_on (other_side at) course rows (n + 1 + 1) (AwaitsEnd at n (n + 1) rows)

-- the rows that the answer leaves
abbrev answered_rows : Side → Course → List LineRow → List LineRow
answered_rows at course said = course_rows_after true 0 (course_rows (other_side at) course) said

offer_accepted : (at : Side) (course : Course) (rows : List LineRow) (n : ℕ) (said : List LineRow)
    → after_step (awaiting_answer at course rows n said) (AcceptOffer (other_side at) n)
    ≡ Some (awaiting_end at (awaiting_answer at course rows n said) n (answered_rows at (awaiting_answer at course rows n said) said))
offer_accepted Left course rows n said = rw (same_number n) refl
offer_accepted Right course rows n said = rw (same_number n) refl

answer_accepted : (at : Side) (course : Course) (n : ℕ) (rows : List LineRow)
    → after_step (awaiting_end at course n rows) (AcceptAnswer at n (n + 1))
    ≡ Some (moved_on at (awaiting_end at course n rows) (course_rows_after false 0 (course_rows at (awaiting_end at course n rows)) rows) (n + 1 + 1) Idle)
answer_accepted Left course n rows = rw (same_number n, same_number (n + 1)) refl
answer_accepted Right course n rows = rw (same_number n, same_number (n + 1)) refl

idle_again : (at : Side) (course : Course) (rows : List LineRow) (n : ℕ) (after : Option Course) → after ≡ Some (moved_on at course rows n Idle) → IsIdleAfter n after
idle_again Left course rows n after is = record { left = rows; right = course.right; is = is }
idle_again Right course rows n after is = record { left = course.left; right = rows; is = is }

three_steps : (first second third last : Course) (a b c : Step) → after_step first a ≡ Some second → after_step second b ≡ Some third → after_step third c ≡ Some last → follow (Some first) (a ∷ b ∷ c ∷ []) ≡ Some last
three_steps first second third last a b c one two three =
    ap (λ (after : Option Course). follow after (b ∷ c ∷ [])) one ∙ ap (λ (after : Option Course). follow after (c ∷ [])) two ∙ three

pub round_idle : (at : Side) (kind : MediaKind) (dir : Direction) (more : List Op) (left right : List LineRow) (n : ℕ) → AreFew more
    → IsIdleAfter (n + 1 + 1) (follow (Some (idle_with left right n)) (steps_between at (AddMedia kind dir ∷ more) n))
round_idle at kind dir more left right n fine =
    let start : Course = idle_with left right n in
    let rows : List LineRow = rows_after_ops more (course_rows at start) in
    let said : List LineRow = said_by rows kind dir more in
    let second : Course = awaiting_answer at start rows n said in
    let answered : List LineRow = answered_rows at second said in
    let third : Course = awaiting_end at second n answered in
    let last : List LineRow = course_rows_after false 0 (course_rows at third) answered in
    idle_again at third last (n + 1 + 1) _
    (three_steps start second third (moved_on at third last (n + 1 + 1) Idle) (Negotiate at (AddMedia kind dir ∷ more) true) (AcceptOffer (other_side at) n) (AcceptAnswer at n (n + 1)) (step_offers at kind dir more left right n fine rows refl) (offer_accepted at start rows n said) (answer_accepted at second n answered))
