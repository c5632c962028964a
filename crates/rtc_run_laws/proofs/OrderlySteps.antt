-- Orderly steps give their Ok, up to the first want of memory or fault.
use Rattle.rtc_run_history.specs.Signalled.{Signalled, NotMade, Unreadable, Readable}
use Rattle.rtc_run_history.specs.declared.step.Step.{Step}
use Rattle.std.proofs.Common.{◌≡◌, ◌<◌, ◌+◌, ◌-◌, ◌^◌, ℕ, Bool, true, false, ◌||◌, List, ◌∷◌, ◌++◌, length, Option, Some, None, refl, sym, ◌∙◌, ap, subst, length-append, append-nil}
use Rattle.rtc_sdp_values.specs.declared.line_row.LineRow.{LineRow}
use Rattle.rtc_sdp_values.specs.declared.sdp.Sdp.{Sdp}
use Rattle.rtc_change.specs.Held.{Held, Asked}
use Rattle.rtc_change.specs.Plans.{verdict}
use Rattle.rtc_peer_core.specs.declared.rtc_error.RtcError.TheVariants.{RemoteSdp, Sdp as SdpRefused, Alloc as PeerAlloc, Dtls, Sctp}
use Rattle.rtc_run_history.specs.declared.side.Side.{Side}
use Rattle.rtc_run_history.specs.declared.op.Op.{Op}
use Rattle.rtc_run_history.specs.declared.step.Step.TheVariants.{Negotiate, AcceptOffer, AcceptAnswer, Time, Datagram, Poll, Drain, Write, CloseChannel, Close, Rollback, ForeignOffer, ForeignAnswer, Raw}
use Rattle.rtc_run_history.specs.declared.outcome.Outcome.{Outcome}
use Rattle.rtc_run_history.specs.declared.outcome.Outcome.TheVariants.{Negotiated, Answered, Finished, Refused, Alloc}
use Rattle.rtc_run_history.specs.declared.table.Table.{Table}
use Rattle.rtc_run_history.specs.Memory.{fails}
use Rattle.rtc_run_history.specs.Sides.{other_side}
use Rattle.rtc_run_history.specs.Past.{Entry, MadeSdp, sdps, remote_sdp, new_app, numbers_in, restarts_by}
use Rattle.rtc_run_history.specs.Sound.{RepliesToOffer, RepliesToAnswer, IsSound, asked_in, at_first, is_glare_at}
use Rattle.rtc_run_history.specs.SaidRows.{MakesSdp}
use Rattle.rtc_run_history.specs.CourseRows.{course_rows_after}
use Rattle.rtc_run_history.specs.Orderly.{Idle, AwaitsEnd, Course, course_rows, moved_on, after_ops, is_ok}
use Rattle.rtc_sdp_writer.specs.AsRead.{as_read}
use Rattle.rtc_run_history.specs.SoundEntry.{AreReadBack}
use Rattle.rtc_run_laws.proofs.SoundPasts.{Sound}
use Rattle.rtc_run_laws.proofs.Around.{entry}
use Rattle.rtc_run_laws.proofs.Takings.{offer_taking, answer_taking}
use Rattle.rtc_run_laws.proofs.ChannelCounts.{ops_fine}
use Rattle.rtc_run_laws.proofs.CourseOps.{AreFine}
use Rattle.rtc_run_laws.proofs.CourseSteps.{in_order}
use Rattle.rtc_run_laws.proofs.RoundRows.{IsOffered, IsAnswered, HeadPasses}
use Rattle.rtc_run_laws.proofs.Courses.{InCourse, moved_in, MayAccept, may_accept, accepted_next, MayEnd, may_end, ended_next, accept_passes, end_passes}
use Rattle.rtc_run_history.specs.Views.{Stances, view_in}
use Rattle.rtc_peer_core.specs.Stance.{held_by}

-- ---- each outcome that may come is an Ok or tells a want of memory or a fault

abbrev pub IsOkOrFails : {E : Type 0} → Outcome E → Type 0
IsOkOrFails outcome = (is_ok outcome || fails outcome) ≡ true

pub negotiated_ok : {E : Type 0} → (fresh between : Stances) (past : List (Entry E)) (at : Side) (ops : List Op) (apply : Bool) (outcome : Outcome E) (table : Option Table) (made : List MadeSdp) (course course' : Course) (rows : List LineRow)
    → (between at).channels.given + length (numbers_in outcome) < 2 ^ 64 - 1 → after_ops apply at ops course rows ≡ Some course' → IsSound fresh past between (Negotiate at ops apply) outcome table made → IsOkOrFails outcome
negotiated_ok fresh between past at ops apply Alloc None made course course' rows few after replied = refl
negotiated_ok fresh between past at ops apply (Negotiated answers what) (Some table) made course course' rows few after replied =
    let fine : AreFine answers = ops_fine (at_first (between at) at past (new_app table.lines made)) ops answers table.lines replied.0 (in_order apply at ops course course' rows after).plain few in
    rw fine refl
negotiated_ok fresh between past at ops apply outcome table made course course' rows few after replied = absurd replied

-- an offer that is not refused is answered, where nothing fails
pub offer_answers : {E : Type 0} → (glare : Bool) (sdp : Signalled) (said : Sdp) (view : Held) (next : ℕ) (outcome : Outcome E) (after : List LineRow) → glare ≡ false → sdp ≡ Readable said → verdict view None said ≡ None
    → RepliesToOffer glare sdp view next outcome after → fails outcome ≡ false → (j : ℕ) × (outcome ≡ Answered j)
offer_answers true sdp said view next outcome after none is passes takes enough = absurd (cc)
offer_answers false NotMade said view next outcome after none is passes takes enough = absurd (cc)
offer_answers false (Unreadable line) said view next outcome after none is passes takes enough = absurd (cc)
offer_answers false (Readable sdp) said view next (Answered k) after none is passes takes enough = (k, refl)
offer_answers false (Readable sdp) said view next (Refused (RemoteSdp why)) after none is passes takes enough = absurd (let same : sdp ≡ said = cc in let e = rw same at takes.0 in cc)
offer_answers false (Readable sdp) said view next (Refused (SdpRefused error)) after none is passes takes enough = absurd (let same : sdp ≡ said = cc in let e = rw same at takes.0 in cc)
offer_answers false (Readable sdp) said view next (Refused (Dtls error)) after none is passes takes enough = absurd (cc)
offer_answers false (Readable sdp) said view next (Refused (Sctp error)) after none is passes takes enough = absurd (let e = rw takes.0 at enough in cc)
offer_answers false (Readable sdp) said view next (Refused PeerAlloc) after none is passes takes enough = absurd (cc)
offer_answers false (Readable sdp) said view next outcome after none is passes takes enough = absurd takes

-- an answer that is not refused finishes, where nothing fails
pub answer_finishes : {E : Type 0} → (held right : Bool) (asked : Asked) (sdp : Signalled) (said : Sdp) (view : Held) (outcome : Outcome E) (after : List LineRow) → held ≡ true → right ≡ true → sdp ≡ Readable said
    → verdict view (Some asked) said ≡ None → RepliesToAnswer held right asked sdp view outcome after → fails outcome ≡ false → outcome ≡ Finished
answer_finishes false right asked sdp said view outcome after held_is right_is is passes takes enough = absurd (cc)
answer_finishes true false asked sdp said view outcome after held_is right_is is passes takes enough = absurd (cc)
answer_finishes true true asked NotMade said view outcome after held_is right_is is passes takes enough = absurd (cc)
answer_finishes true true asked (Unreadable line) said view outcome after held_is right_is is passes takes enough = absurd (cc)
answer_finishes true true asked (Readable sdp) said view Finished after held_is right_is is passes takes enough = refl
answer_finishes true true asked (Readable sdp) said view (Refused (RemoteSdp why)) after held_is right_is is passes takes enough = absurd (let same : sdp ≡ said = cc in let e = rw same at takes.0 in cc)
answer_finishes true true asked (Readable sdp) said view (Refused (SdpRefused error)) after held_is right_is is passes takes enough = absurd (let same : sdp ≡ said = cc in let e = rw same at takes.0 in cc)
answer_finishes true true asked (Readable sdp) said view (Refused (Dtls error)) after held_is right_is is passes takes enough = absurd (cc)
answer_finishes true true asked (Readable sdp) said view (Refused (Sctp error)) after held_is right_is is passes takes enough = absurd (let e = rw takes.0 at enough in cc)
answer_finishes true true asked (Readable sdp) said view (Refused PeerAlloc) after held_is right_is is passes takes enough = absurd (cc)
answer_finishes true true asked (Readable sdp) said view outcome after held_is right_is is passes takes enough = absurd takes

-- a step that gives its Ok where nothing fails gives it or tells what failed
ok_or_fails : {E : Type 0} → (outcome : Outcome E) → (fails outcome ≡ false → is_ok outcome ≡ true) → IsOkOrFails outcome
ok_or_fails outcome enough = by (fails outcome) refl
  where
    or_true : (b : Bool) → (b || true) ≡ true
    or_true true = refl
    or_true false = refl

    by : (lacks : Bool) → fails outcome ≡ lacks → (is_ok outcome || fails outcome) ≡ true
    by true is = rw is (or_true (is_ok outcome))
    by false is = rw (enough is) refl

-- ---- each acceptance in its phase

-- What a step in order comes to: its Ok or a failure, where it negotiates; and where nothing fails, the course goes on.
pub record GoesOn {E : Type 0} (negotiating : Bool) (outcome : Outcome E) (course : Course) (past : List (Entry E)) : Type 0 where
  pub ok : negotiating ≡ true → IsOkOrFails outcome
  pub next : fails outcome ≡ false → InCourse course past

-- The head of the offer or answer that a step delivers passes, and an offer collides with none.
abbrev pub SidePasses : {E : Type 0} → Stances → Stances → List (Entry E) → Step → Type 0
SidePasses fresh between past (Negotiate at ops apply) = Unit {0}
SidePasses fresh between past (AcceptOffer at k) =
    (is_glare_at fresh at past ≡ false)
    × ((sdp : Sdp) → remote_sdp true at k past ≡ Readable sdp → HeadPasses (view_in fresh at past (held_by (between at))) true sdp)
SidePasses fresh between past (AcceptAnswer at t a) =
    (sdp : Sdp) → remote_sdp false at a past ≡ Readable sdp → HeadPasses (view_in fresh at past (held_by (between at))) (restarts_by t past) sdp
SidePasses fresh between past (Time at now) = Unit {0}
SidePasses fresh between past (Datagram at packet now) = Unit {0}
SidePasses fresh between past (Poll at) = Unit {0}
SidePasses fresh between past (Drain at) = Unit {0}
SidePasses fresh between past (Write at channel binary bytes) = Unit {0}
SidePasses fresh between past (CloseChannel at channel) = Unit {0}
SidePasses fresh between past (Close at) = Unit {0}
SidePasses fresh between past (Rollback at t) = Unit {0}
SidePasses fresh between past (ForeignOffer at text) = Unit {0}
SidePasses fresh between past (ForeignAnswer at t text) = Unit {0}
SidePasses fresh between past (Raw at bytes now) = Unit {0}

-- the course after the other side accepts an offer
abbrev pub accepted_course : Side → ℕ → List LineRow → Course → Course
accepted_course at n rows course = moved_on (other_side at) course rows (course.sdps + 1) (AwaitsEnd at n course.sdps rows)

pub accept_goes_on : {E : Type 0} → (fresh between : Stances) (past : List (Entry E)) (at : Side) (n : ℕ) (said : List LineRow) (course : Course) (outcome : Outcome E) (table : Option Table) (made : List MadeSdp) → AreReadBack (sdps past) → Sound fresh past → InCourse course past → IsOffered at n said past → SidePasses fresh between past (AcceptOffer (other_side at) n)
    → IsSound fresh past between (AcceptOffer (other_side at) n) outcome table made → MakesSdp (AcceptOffer (other_side at) n) outcome table made
    → GoesOn true outcome (accepted_course at n (course_rows_after true 0 (course_rows (other_side at) course) said) course) (entry (AcceptOffer (other_side at) n) outcome table made ∷ past)
accept_goes_on fresh between past at n said course Alloc None made read sound is out side replied says = record { ok = λ negotiating. refl; next = λ enough. absurd (cc) }
accept_goes_on {E} fresh between past at n said course outcome (Some table) made read sound is out side replied says =
    let may : MayAccept out.offer at n past = may_accept fresh at n said past read sound out in
    let passes = accept_passes fresh at n said past (view_in fresh (other_side at) past (held_by (between (other_side at)))) sound out refl (side.1 (as_read out.offer.sdp) may.remote_is) in
    let takes = offer_taking fresh between past (other_side at) n outcome table made replied in
    let comes : fails outcome ≡ false → (j : ℕ) × (outcome ≡ Answered j) =
    offer_answers (is_glare_at fresh (other_side at) past) (remote_sdp true (other_side at) n past) (as_read out.offer.sdp) (view_in fresh (other_side at) past (held_by (between (other_side at)))) (length (sdps past)) outcome table.lines side.0 may.remote_is passes takes in
    record { ok = λ negotiating. ok_or_fails outcome (λ enough. ap is_ok (comes enough).1); next = λ enough. by (comes enough).0 outcome (comes enough).1 replied says }
  where
    rows : List LineRow
    rows = course_rows_after true 0 (course_rows (other_side at) course) said

    by : (j : ℕ) (outcome : Outcome E) → outcome ≡ Answered j → IsSound fresh past between (AcceptOffer (other_side at) n) outcome (Some table) made → MakesSdp (AcceptOffer (other_side at) n) outcome (Some table) made
        → InCourse (accepted_course at n rows course) (entry (AcceptOffer (other_side at) n) outcome (Some table) made ∷ past)
    by j outcome same =
        subst (λ (o : Outcome E). IsSound fresh past between (AcceptOffer (other_side at) n) o (Some table) made → MakesSdp (AcceptOffer (other_side at) n) o (Some table) made
        → InCourse (accepted_course at n rows course) (entry (AcceptOffer (other_side at) n) o (Some table) made ∷ past)) (sym same)
        (λ replied says.
        let next = accepted_next fresh between at n course.sdps said (course_rows (other_side at) course) past j table made read sound out (is.sides (other_side at)) (sym is.count) replied says in
        moved_in (other_side at) course rows (course.sdps + 1) (AwaitsEnd at n course.sdps rows) (AcceptOffer (other_side at) n) (Answered j) table made past refl next.side is
        (length-append (sdps past) made ∙ ap (λ (k : ℕ). length (sdps past) + k) (ap length says.one) ∙ ap (λ (k : ℕ). k + 1) is.count) next.phase)
accept_goes_on fresh between past at n said course outcome table made read sound is out side replied says = absurd replied

pub end_goes_on : {E : Type 0} → (fresh between : Stances) (past : List (Entry E)) (at : Side) (n m : ℕ) (said : List LineRow) (course : Course) (outcome : Outcome E) (table : Option Table) (made : List MadeSdp) → AreReadBack (sdps past) → Sound fresh past → InCourse course past → IsAnswered at n m said past → SidePasses fresh between past (AcceptAnswer at n m)
    → IsSound fresh past between (AcceptAnswer at n m) outcome table made → MakesSdp (AcceptAnswer at n m) outcome table made
    → GoesOn true outcome (moved_on at course (course_rows_after false 0 (course_rows at course) said) course.sdps Idle) (entry (AcceptAnswer at n m) outcome table made ∷ past)
end_goes_on fresh between past at n m said course Alloc None made read sound is out side replied says = record { ok = λ negotiating. refl; next = λ enough. absurd (cc) }
end_goes_on {E} fresh between past at n m said course outcome (Some table) made read sound is out side replied says =
    let may : MayEnd out.answer at n m past = may_end fresh at n m said past read sound out in
    let passes = end_passes fresh at n m said past (view_in fresh at past (held_by (between at))) sound out refl (side (as_read out.answer.sdp) may.remote_is) in
    let takes = answer_taking fresh between past at n m outcome table made replied in
    let comes : fails outcome ≡ false → outcome ≡ Finished =
    answer_finishes _ _ (asked_in at n past) _ (as_read out.answer.sdp) (view_in fresh at past (held_by (between at))) outcome table.lines may.held may.right may.remote_is passes takes in
    record { ok = λ negotiating. ok_or_fails outcome (λ enough. ap is_ok (comes enough)); next = λ enough. by outcome (comes enough) replied says }
  where
    rows : List LineRow
    rows = course_rows_after false 0 (course_rows at course) said

    by : (outcome : Outcome E) → outcome ≡ Finished → IsSound fresh past between (AcceptAnswer at n m) outcome (Some table) made → MakesSdp (AcceptAnswer at n m) outcome (Some table) made
        → InCourse (moved_on at course rows course.sdps Idle) (entry (AcceptAnswer at n m) outcome (Some table) made ∷ past)
    by outcome same =
        subst (λ (o : Outcome E). IsSound fresh past between (AcceptAnswer at n m) o (Some table) made → MakesSdp (AcceptAnswer at n m) o (Some table) made
        → InCourse (moved_on at course rows course.sdps Idle) (entry (AcceptAnswer at n m) o (Some table) made ∷ past)) (sym same)
        (λ replied says.
        let next = ended_next fresh between at n m said (course_rows at course) past table made read sound out (is.sides at) replied in
        moved_in at course rows course.sdps Idle (AcceptAnswer at n m) Finished table made past refl next.side is
        (ap (λ more. length (sdps past ++ more)) says ∙ ap length (append-nil (sdps past)) ∙ is.count) next.phase)
end_goes_on fresh between past at n m said course outcome table made read sound is out side replied says = absurd replied
