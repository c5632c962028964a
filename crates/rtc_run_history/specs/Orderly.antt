-- Lists of steps that negotiate round by round (RFC 3264, section 4): an offer, its acceptance by the other side, and the acceptance of
-- that answer.
use Rattle.std.specs.Prelude.{◌≡◌, ◌+◌, ◌^◌, ◌<◌, ◌==◌, ℕ, Bool, true, false, not, ◌&&◌, ◌||◌, List, [], ◌∷◌, ◌++◌}
use Rattle.std.specs.Prelude.{if◌then◌else◌, Option, Some, None, is_some, option_map, IfSome, length}
use Rattle.std.specs.List.{list_any}
use Rattle.rtc_sdp_values.specs.declared.line_row.LineRow.{LineRow}
use Rattle.rtc_sdp_values.specs.LineRow.{row_mid}
use Rattle.rtc_peer_rows.specs.Table.{app_of}
use Rattle.rtc_sctp_values.specs.InitHalves.{InitHalves, is_whole}
use Rattle.rtc_run_history.specs.declared.side.Side.{Side}
use Rattle.rtc_run_history.specs.declared.side.Side.TheVariants.{Left, Right}
use Rattle.rtc_run_history.specs.declared.op.Op.{Op}
use Rattle.rtc_run_history.specs.declared.step.Step.{Step}
use Rattle.rtc_run_history.specs.declared.step.Step.TheVariants.{Negotiate, AcceptOffer, AcceptAnswer, Time, Datagram, Poll, Drain}
use Rattle.rtc_run_history.specs.declared.step.Step.TheVariants.{Write, CloseChannel, Close, Rollback, ForeignOffer, ForeignAnswer, Raw}
use Rattle.rtc_run_history.specs.declared.outcome.Outcome.{Outcome}
use Rattle.rtc_run_history.specs.declared.outcome.Outcome.TheVariants.{Negotiated, Answered, Finished, Done, Wrote, Polled, Refused}
use Rattle.rtc_run_history.specs.declared.outcome.Outcome.TheVariants.{NoSuch, Alloc}
use Rattle.rtc_run_history.specs.Sides.{same_side, other_side}
use Rattle.rtc_run_history.specs.Sizes.{step_size}
use Rattle.rtc_run_history.specs.Memory.{fails}
use Rattle.rtc_run_history.specs.Answers.{is_bad}
use Rattle.rtc_run_history.specs.Past.{Entry, steps_of, before, numbers_told}
use Rattle.rtc_run_history.specs.Finished.{Equal}
use Rattle.rtc_run_history.specs.Views.{Stances}
use Rattle.rtc_run_history.specs.CourseRows.{
  rows_after_ops,
  must_offer,
  rows_added,
  do_stop_first,
  do_add_odd_channel,
  do_add_channel,
  course_rows_after,
}

-- What is outstanding: nothing; or the answer to the offer of this number, which describes these rows; or the acceptance of the answer
-- to an offer, both by number, which describes these rows.
pub data Phase : Type 0 where
  Idle : Phase
  AwaitsAnswer : Side → ℕ → List LineRow → Phase
  AwaitsEnd : Side → ℕ → ℕ → List LineRow → Phase

-- the state after a list of steps: the rows of both sides, the number of SDPs made, and what is outstanding
pub record Course : Type 0 where
  pub left : List LineRow
  pub right : List LineRow
  pub sdps : ℕ
  pub phase : Phase

abbrev pub course_rows : Side → Course → List LineRow
course_rows Left course = course.left
course_rows Right course = course.right

-- the course with new rows at one side, a new number of SDPs, and a new phase
abbrev pub moved_on : Side → Course → List LineRow → ℕ → Phase → Course
moved_on Left course rows sdps phase = record { left = rows; right = course.right; sdps = sdps; phase = phase }
moved_on Right course rows sdps phase = record { left = course.left; right = rows; sdps = sdps; phase = phase }

-- the course after an offer of these lines, of which there has to be one
abbrev pub offering : Side → Course → List LineRow → List LineRow → Option Course
offering at course rows [] = None
offering at course rows (line ∷ lines) = Some (moved_on at course rows (course.sdps + 1) (AwaitsAnswer at course.sdps (line ∷ lines)))

-- the course after ops make an offer, which is in order only while no round is open
abbrev pub after_offering : Side → Course → List LineRow → List LineRow → Phase → Option Course
after_offering at course rows more Idle = offering at course rows (rows ++ more)
after_offering at course rows more (AwaitsAnswer side n said) = None
after_offering at course rows more (AwaitsEnd side n m said) = None

-- whether a side made the offer whose round is open
abbrev pub is_offerer : Side → Phase → Bool
is_offerer at Idle = false
is_offerer at (AwaitsAnswer side n said) = same_side side at
is_offerer at (AwaitsEnd side n m said) = same_side side at

-- whether operations apply channels at the side whose offer is outstanding, which would invalidate its token
abbrev pub do_supersede : Bool → Side → List Op → Phase → Bool
do_supersede apply at ops phase = is_offerer at phase && (apply && do_add_channel ops)

-- the course after operations that are in order if they offer nothing while a round is open
abbrev pub after_fitting : Bool → Side → List Op → Course → List LineRow → Option Course
after_fitting apply at ops course rows =
    if apply && must_offer ops (course_rows at course) then after_offering at course rows (rows_added rows ops) course.phase
    else Some (moved_on at course rows course.sdps course.phase)

-- The course after operations. It is not in order to stop the first line, to add a channel that a peer refuses, or to apply a channel while
-- one's own offer is outstanding.
abbrev pub after_ops : Bool → Side → List Op → Course → List LineRow → Option Course
after_ops apply at ops course rows =
    if do_stop_first ops || (do_add_odd_channel ops || do_supersede apply at ops course.phase) then None
    else after_fitting apply at ops course rows

-- the course after the other side accepts the outstanding offer
abbrev pub after_offer : Side → ℕ → Course → Phase → Option Course
after_offer at k course Idle = None
after_offer at k course (AwaitsAnswer side n said) =
    if not (same_side side at) && (k == n) then Some (answered (course_rows_after true 0 (course_rows at course) said)) else None
  where
    answered : List LineRow → Course
    answered rows = moved_on at course rows (course.sdps + 1) (AwaitsEnd side n course.sdps rows)
after_offer at k course (AwaitsEnd side n m said) = None

-- the course after the offerer accepts the outstanding answer with the offer's token
abbrev pub after_answer : Side → ℕ → ℕ → Course → Phase → Option Course
after_answer at t a course Idle = None
after_answer at t a course (AwaitsAnswer side n said) = None
after_answer at t a course (AwaitsEnd side n m said) =
    if same_side side at && ((t == n) && (a == m))
    then Some (moved_on at course (course_rows_after false 0 (course_rows at course) said) course.sdps Idle)
    else None

-- the course after a step, if it is in order; inputs, polls and closes leave it, and neither a foreign text nor a roll-back is in order
abbrev pub after_step : Course → Step → Option Course
after_step course (Negotiate at ops apply) = after_ops apply at ops course (rows_after_ops ops (course_rows at course))
after_step course (AcceptOffer at k) = after_offer at k course course.phase
after_step course (AcceptAnswer at t a) = after_answer at t a course course.phase
after_step course (Time at now) = Some course
after_step course (Datagram at packet now) = Some course
after_step course (Poll at) = Some course
after_step course (Drain at) = Some course
after_step course (Write at channel binary bytes) = Some course
after_step course (CloseChannel at channel) = Some course
after_step course (Close at) = Some course
after_step course (Rollback at token) = None
after_step course (ForeignOffer at text) = None
after_step course (ForeignAnswer at token text) = None
after_step course (Raw at bytes now) = Some course

abbrev pub follow : Option Course → List Step → Option Course
follow course [] = course
follow None (step ∷ steps) = None
follow (Some course) (step ∷ steps) = follow (after_step course step) steps

-- the course of a list of steps from the start, if each of them is in order
abbrev pub course_of : List Step → Option Course
course_of steps = follow (Some (record { left = []; right = []; sdps = 0; phase = Idle })) steps

abbrev pub are_orderly : List Step → Bool
are_orderly steps = is_some (course_of steps)

-- whether an earlier reply reports that memory ran out or that a part failed
abbrev pub has_failed : {E : Type 0} → List (Entry E) → Bool
has_failed past = list_any (λ entry. fails entry.outcome) past

-- one of the two ICE agents makes checks (RFC 8445, section 6.1.1)
abbrev pub can_connect : Stances → Bool
can_connect fresh = not ((fresh Left).ice.lite && (fresh Right).ice.lite)

-- whether a step succeeded: it was not refused, and neither was a channel of it
abbrev pub is_ok : {E : Type 0} → Outcome E → Bool
is_ok (Negotiated answers made) = not (list_any is_bad answers)
is_ok (Answered k) = true
is_ok Finished = true
is_ok Done = true
is_ok (Wrote taken) = true
is_ok (Polled outputs end) = true
is_ok (Refused error) = false
is_ok NoSuch = false
is_ok Alloc = false

-- whether a step negotiates round by round
abbrev pub negotiates : Step → Bool
negotiates (Negotiate at ops apply) = true
negotiates (AcceptOffer at offer) = true
negotiates (AcceptAnswer at token answer) = true
negotiates (Time at now) = false
negotiates (Datagram at packet now) = false
negotiates (Poll at) = false
negotiates (Drain at) = false
negotiates (Write at channel binary bytes) = false
negotiates (CloseChannel at channel) = false
negotiates (Close at) = false
negotiates (Rollback at token) = false
negotiates (ForeignOffer at text) = false
negotiates (ForeignAnswer at token text) = false
negotiates (Raw at bytes now) = false

-- so many more channels can be numbered at each side: a peer gives 2^64 - 1 numbers
abbrev pub AreNumbersLeft : {E : Type 0} → ℕ → List (Entry E) → Type 0
AreNumbersLeft more past = (at : Side) → length (numbers_told at past) + more < 2 ^ 64

-- Orderly steps of a pair that can connect succeed in what they negotiate, until memory runs out or a part fails, and while channel
-- numbers are left at both sides.
abbrev pub OkWhereOrderly : {E : Type 0} → Stances → List (Entry E) → Step → Outcome E → Type 0
OkWhereOrderly fresh past step outcome =
    negotiates step ≡ true → can_connect fresh ≡ true → are_orderly (steps_of past ++ step ∷ []) ≡ true → has_failed past ≡ false
    → AreNumbersLeft (step_size step) past → (is_ok outcome || fails outcome) ≡ true

-- nothing is outstanding
abbrev pub IsIdle : Phase → Type 0
IsIdle Idle = Unit {0}
IsIdle (AwaitsAnswer side n said) = ⊥
IsIdle (AwaitsEnd side n m said) = ⊥

-- the mid of the m-line of data channels, if there is one
abbrev pub mid_of_app : List LineRow → Option (List ℕ)
mid_of_app rows = option_map row_mid (app_of rows)

-- the credentials that a side knows of the other one, if any, are those that the other one has
abbrev pub AreCurrent : Stances → Side → Type 0
AreCurrent sides at = IfSome (sides at).ice.remote (λ creds. creds ≡ (sides (other_side at)).ice.local)

-- The associations of both sides were started by the chunks of both, and each side keeps that of the other one; or neither was started
-- so (draft-hancke-tsvwg-snap).
abbrev pub AreJoined : Option InitHalves → Option InitHalves → Type 0
AreJoined None None = Unit {0}
AreJoined (Some halves) (Some others) =
    (is_whole halves ≡ true) × (halves.remote ≡ others.local) × (others.remote ≡ halves.local)
AreJoined halves others = ⊥

-- Two sides with the same lines, also by the mid of the m-line of data channels, with current credentials of each other, and with the SNAP
-- INIT chunks of each other if the associations were started by these.
pub record AreInStep (rows others : List LineRow) (sides : Stances) : Type 0 where
  pub equal : Equal rows others
  pub app : mid_of_app others ≡ mid_of_app rows
  pub current : (at : Side) → AreCurrent sides at
  pub joined : AreJoined (sides Left).snap.started (sides Right).snap.started

-- After orderly steps that leave no round open, both sides are in step, unless memory ran out or a part failed, and while channel numbers
-- are left at both sides.
abbrev pub InStepWhereOrderly : {E : Type 0} → Stances → List (Entry E) → Stances → Type 0
InStepWhereOrderly fresh past sides =
    (course : Course) → can_connect fresh ≡ true → course_of (steps_of past) ≡ Some course → IsIdle course.phase → has_failed past ≡ false
    → AreNumbersLeft 1 past → AreInStep (before Left past) (before Right past) sides
