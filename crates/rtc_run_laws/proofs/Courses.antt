-- What a course of orderly steps says of a past, and that it says so of the past after one more step.
use Rattle.rtc_change.specs.Held.{Held}
use Rattle.std.proofs.Common.{◌≡◌, ℕ, true, false, List, ◌∷◌, ◌++◌, map, length, Option, Some, None, refl, sym, ◌∙◌, ap, subst, arith, length-append}
use Rattle.std.proofs.lemmas.List.{length-map}
use Rattle.rtc_sdp_values.specs.LineRow.{row_mid}
use Rattle.rtc_sdp_values.specs.declared.line_row.LineRow.{LineRow}
use Rattle.rtc_sdp_values.specs.declared.sdp.Sdp.{Sdp}
use Rattle.rtc_peer_rows.specs.ParsedLines.{parsed_lines}
use Rattle.rtc_peer_rows.specs.Table.{IsTable}
use Rattle.rtc_change.specs.TableAfter.{table_after, rows_after}
use Rattle.rtc_change.specs.Plans.{verdict}
use Rattle.rtc_run_history.specs.Signalled.{Readable, signalled_if}
use Rattle.rtc_run_history.specs.declared.side.Side.{Side}
use Rattle.rtc_run_history.specs.declared.side.Side.TheVariants.{Left, Right}
use Rattle.rtc_run_history.specs.declared.step.Step.{Step}
use Rattle.rtc_run_history.specs.declared.step.Step.TheVariants.{AcceptOffer, AcceptAnswer}
use Rattle.rtc_run_history.specs.declared.outcome.Outcome.{Outcome}
use Rattle.rtc_run_history.specs.declared.outcome.Outcome.TheVariants.{Answered, Finished}
use Rattle.rtc_run_history.specs.declared.table.Table.{Table}
use Rattle.rtc_run_history.specs.Sides.{same_side, other_side, side_of}
use Rattle.rtc_run_history.specs.Past.{Entry, MadeSdp, before, rows_or, sdps, sdp_for, remote_sdp, holds_token, is_right, added_by, restarts_by}
use Rattle.rtc_run_history.specs.Sound.{IsSound, asked_in, is_glare_at}
use Rattle.rtc_run_history.specs.SaidRows.{row_said, MakesSdp}
use Rattle.rtc_run_history.specs.CourseRows.{unnamed, course_rows_after}
use Rattle.rtc_run_history.specs.Orderly.{Phase, Idle, AwaitsAnswer, AwaitsEnd, Course, course_rows, moved_on}
use Rattle.rtc_sdp_writer.specs.AsRead.{as_read}
use Rattle.rtc_run_history.specs.SoundEntry.{AreReadBack}
use Rattle.rtc_run_laws.proofs.AsReadSdps.{lines_as_read, fits_as_read}
use Rattle.rtc_run_laws.proofs.ReadPasts.{read_at}
use Rattle.rtc_run_laws.proofs.SoundPasts.{Sound}
use Rattle.rtc_run_laws.proofs.Tells.{same_side-self, same_side-other}
use Rattle.rtc_run_laws.proofs.Around.{entry}
use Rattle.rtc_run_laws.proofs.AddedRows.{among_mids}
use Rattle.rtc_run_laws.proofs.PastTables.{reply_table, past_table}
use Rattle.rtc_run_laws.proofs.PastOffers.{stays_there, text_next}
use Rattle.rtc_run_laws.proofs.PastAnswers.{answered}
use Rattle.rtc_run_laws.proofs.FinishedRounds.{taken_whole, remote_answer, remote_offer, answer_taken}
use Rattle.rtc_run_laws.proofs.RowNames.{Aligned, aligned_sym, aligned_trans, aligned_self, has_mid-aligned, has_app-aligned, length-aligned}
use Rattle.rtc_run_laws.proofs.RowsFollow.{Follows, added_follow, follows_append, SayApps, follows_say, all_left, after_aligned, answer_follows}
use Rattle.rtc_run_laws.proofs.LiveRows.{KeepsLive, StartsLive, starts_are_live, starts_keep, text_live}
use Rattle.rtc_run_laws.proofs.CourseSdps.{sdp_accepted}
use Rattle.rtc_run_laws.proofs.RoundRows.{OfferSaid, AnswerSaid, HasOffered, IsOffered, IsAnswered, HeadPasses, offer_passes, answer_passes}
use Rattle.rtc_run_history.specs.Views.{Stances, view_in, init_told_by}
use Rattle.rtc_peer_core.specs.Stance.{held_by}

-- The rows of a side in a course: these without their mids, the first of them live.
pub record IsSideOf (seen rows : List LineRow) : Type 0 where
  pub are : map unnamed rows ≡ seen
  pub live : KeepsLive rows

abbrev pub InPhase : {E : Type 0} → Phase → List (Entry E) → Type 0
InPhase Idle past = Aligned (before Left past) (before Right past)
InPhase (AwaitsAnswer at n said) past = IsOffered at n said past
InPhase (AwaitsEnd at n m said) past = IsAnswered at n m said past

pub record InCourse {E : Type 0} (course : Course) (past : List (Entry E)) : Type 0 where
  pub count : length (sdps past) ≡ course.sdps
  pub sides : (side : Side) → IsSideOf (course_rows side course) (before side past)
  pub phase : InPhase course.phase past

-- ---- sides

pub aligned_at : {E : Type 0} → (at : Side) (past : List (Entry E)) → Aligned (before Left past) (before Right past) → Aligned (before at past) (before (other_side at) past)
aligned_at Left past same = same
aligned_at Right past same = aligned_sym (before Left past) (before Right past) same

aligned_from : {E : Type 0} → (at : Side) (past : List (Entry E)) → Aligned (before (other_side at) past) (before at past) → Aligned (before Left past) (before Right past)
aligned_from Left past same = aligned_sym (before Right past) (before Left past) same
aligned_from Right past same = same

other_side-same : (at : Side) → same_side (other_side at) at ≡ false
other_side-same Left = refl
other_side-same Right = refl

-- a side goes on, and the other stays
pub sides_next : {E : Type 0} → (at : Side) (course : Course) (rows : List LineRow) (count : ℕ) (phase : Phase) (table : Table) (past : List (Entry E)) → IsSideOf rows table.lines
    → ((side : Side) → IsSideOf (course_rows side course) (before side past)) → (side : Side) → IsSideOf (course_rows side (moved_on at course rows count phase)) (rows_or (same_side at side) (Some table) (before side past))
sides_next Left course rows count phase table past mine sides Left = mine
sides_next Left course rows count phase table past mine sides Right = sides Right
sides_next Right course rows count phase table past mine sides Left = sides Left
sides_next Right course rows count phase table past mine sides Right = mine

-- A past is in the course where a side has moved on.
pub moved_in : {E : Type 0} → (at : Side) (course : Course) (rows : List LineRow) (count : ℕ) (phase : Phase) (step : Step) (outcome : Outcome E) (table : Table) (made : List MadeSdp) (past : List (Entry E)) → side_of step ≡ at
    → IsSideOf rows table.lines → InCourse course past → length (sdps past ++ made) ≡ count → InPhase phase (entry step outcome (Some table) made ∷ past)
    → InCourse (moved_on at course rows count phase) (entry step outcome (Some table) made ∷ past)
moved_in at course rows count phase step outcome table made past here mine is counted in_phase = record {
  count = by_count at;
  sides = λ side. subst (λ (one : Side). IsSideOf (course_rows side (moved_on at course rows count phase)) (rows_or (same_side one side) (Some table) (before side past))) (sym here)
      (sides_next at course rows count phase table past mine is.sides side);
  phase = by_phase at;
}
  where
    by_count : (at : Side) → length (sdps past ++ made) ≡ (moved_on at course rows count phase).sdps
    by_count Left = counted
    by_count Right = counted

    by_phase : (at : Side) → InPhase (moved_on at course rows count phase).phase (entry step outcome (Some table) made ∷ past)
    by_phase Left = in_phase
    by_phase Right = in_phase

read_same : (one other : Sdp) → Readable one ≡ Readable other → one ≡ other
read_same one other same = cc

-- ---- an offer is accepted

-- The offer that is outstanding may be delivered to the other side, which does not refuse it.
pub record MayAccept {E : Type 0} (offer : OfferSaid) (at : Side) (n : ℕ) (past : List (Entry E)) : Type 0 where
  pub remote_is : remote_sdp true (other_side at) n past ≡ Readable (as_read offer.sdp)
  pub leaves : table_after (before (other_side at) past) (parsed_lines (as_read offer.sdp)) true ≡ rows_after (before (other_side at) past) true 0 (map row_said (offer.front ++ offer.more))
  pub here : Follows (before at past) (before at past) (offer.front ++ offer.more)
  pub there : Follows (before (other_side at) past) (before (other_side at) past) (offer.front ++ offer.more)

-- the rows of an offer go on from rows with the names of those that it says first
offer_follows : (offer : OfferSaid) (rows : List LineRow) → Aligned offer.front rows → Follows rows rows (offer.front ++ offer.more)
offer_follows offer rows same =
    follows_append rows rows offer.front offer.more (aligned_sym offer.front rows same)
    (added_follow rows offer.may (map row_mid offer.front) (length offer.front) offer.more offer.new (λ mid free. has_mid-aligned offer.front rows mid same ∙ sym (among_mids offer.front mid) ∙ free)
    (λ may. has_app-aligned offer.front rows same ∙ offer.first may))

pub may_accept : {E : Type 0} → (fresh : Stances) (at : Side) (n : ℕ) (said : List LineRow) (past : List (Entry E)) → AreReadBack (sdps past) → Sound fresh past → (it : IsOffered at n said past)
    → MayAccept it.offer at n past
may_accept fresh at n said past read sound it =
    let offer : OfferSaid = it.offer in
    let theirs : List LineRow = before (other_side at) past in
    let same : Aligned offer.front theirs = aligned_trans offer.front (before at past) theirs it.has.kept it.same in
    let there : Follows theirs theirs (offer.front ++ offer.more) = offer_follows offer theirs same in
    let lines : length (map row_said (offer.front ++ offer.more)) ≡ length (offer.front ++ offer.more) = length-map (offer.front ++ offer.more) row_said in
    record {
      remote_is = ap (λ said. signalled_if (sdp_for true (other_side at) said)) it.has.there ∙ ap signalled_if (remote_offer at offer.sdp)
          ∙ read_at past n _ read it.has.there;
      leaves = ap (λ list. table_after theirs list true) (lines_as_read offer.sdp ∙ offer.says) ∙ taken_whole theirs (map row_said (offer.front ++ offer.more)) true (omega (arith, length-aligned offer.front theirs same, length-append offer.front offer.more));
      here = offer_follows offer (before at past) it.has.kept;
      there = there;
    }

-- the other side does not refuse the offer, where its head passes
pub accept_passes : {E : Type 0} → (fresh : Stances) (at : Side) (n : ℕ) (said : List LineRow) (past : List (Entry E)) (view : Held) → Sound fresh past → (it : IsOffered at n said past) → view.lines ≡ before (other_side at) past
    → HeadPasses view true (as_read it.offer.sdp) → verdict view None (as_read it.offer.sdp) ≡ None
accept_passes fresh at n said past view sound it is head =
    let offer : OfferSaid = it.offer in
    let same : Aligned offer.front view.lines = rw is (aligned_trans offer.front (before at past) (before (other_side at) past) it.has.kept it.same) in
    offer_passes view (offer.front ++ offer.more) (as_read offer.sdp) (subst IsTable (sym is) (past_table fresh past (other_side at) sound)) (offer_follows offer view.lines same) offer.whole.one_app (lines_as_read offer.sdp ∙ offer.says)
    (fits_as_read offer.sdp ∙ offer.fits) offer.live head

-- an offer stays outstanding as the other side accepts it
offer_stays : {E : Type 0} → (offer : OfferSaid) (at : Side) (n : ℕ) (past : List (Entry E)) (k j : ℕ) (table : Option Table) (made : List MadeSdp) → HasOffered offer at n past
    → HasOffered offer at n (entry (AcceptOffer (other_side at) k) (Answered j) table made ∷ past)
offer_stays offer at n past k j table made has = record {
  right = rw (other_side-same at) has.right;
  unspent = has.unspent;
  there = stays_there (sdps past) made n _ has.there;
  adds = has.adds;
  kept = rw (other_side-same at) has.kept;
}

-- What the other side is left with that has accepted the offer.
pub record Accepted {E : Type 0} (at : Side) (n m : ℕ) (said : List LineRow) (past : List (Entry E)) (table : Table) : Type 0 where
  pub phase : IsAnswered at n m said past
  pub side : IsSideOf said table.lines

-- The other side has accepted the offer.
pub accepted_next : {E : Type 0} → (fresh between : Stances) (at : Side) (n m : ℕ) (said seen : List LineRow) (past : List (Entry E)) (j : ℕ) (table : Table) (made : List MadeSdp) → AreReadBack (sdps past) → Sound fresh past → IsOffered at n said past
    → IsSideOf seen (before (other_side at) past) → m ≡ length (sdps past)
    → IsSound fresh past between (AcceptOffer (other_side at) n) (Answered j) (Some table) made → MakesSdp {E = E} (AcceptOffer (other_side at) n) (Answered j) (Some table) made
    → Accepted at n m (course_rows_after true 0 seen said) (entry (AcceptOffer (other_side at) n) (Answered j) (Some table) made ∷ past) table
accepted_next {E} fresh between at n m said seen past j table made read sound out side count replied says =
    let may : MayAccept out.offer at n past = may_accept fresh at n said past read sound out in
    let it = answered E (is_glare_at fresh (other_side at) past) (remote_sdp true (other_side at) n past) (view_in fresh (other_side at) past (held_by (between (other_side at)))) (length (sdps past)) j table.lines replied.0 in
    let text_is : it.offer ≡ as_read out.offer.sdp = read_same _ _ (sym it.is ∙ may.remote_is) in
    let after : table.lines ≡ rows_after theirs true 0 (map row_said offered) = it.leaves ∙ ap (λ sdp. table_after theirs (parsed_lines sdp) true) text_is ∙ may.leaves in
    let table_of : IsTable theirs = past_table fresh past (other_side at) sound in
    let apps : SayApps theirs offered = follows_say theirs 0 theirs offered table_of (all_left theirs) may.there in
    let names : Aligned offered table.lines = rw after (after_aligned theirs true 0 offered offered apps (aligned_self offered)) in
    let follows : Follows mine mine table.lines = rw after (answer_follows mine theirs mine theirs offered 0 apps out.same may.here may.there) in
    let live : StartsLive table.lines = rw after (text_live theirs true offered (past_table fresh past (other_side at) sound) may.there side.live out.offer.live) in
    let left : IsTable table.lines = reply_table fresh between past (AcceptOffer (other_side at) n) (Answered j) (Some table) made replied table_of in
    let are : map unnamed table.lines ≡ course_rows_after true 0 seen said =
    ap (map unnamed) after ∙ sdp_accepted theirs true offered (past_table fresh past (other_side at) sound) may.there
    ∙ ap (λ list. course_rows_after true 0 list (map unnamed offered)) side.are ∙ ap (λ list. course_rows_after true 0 seen list) out.are in
    record {
      phase = record {
        offer = out.offer;
        answer = record { sdp = says.sdp; rows = table.lines; says = says.says; fits = says.fits (starts_are_live table.lines live); live = live; table = left };
        are = are;
        has = offer_stays out.offer at n past n j (Some table) made out.has;
        answered = record {
          there = text_next past (entry (AcceptOffer (other_side at) n) (Answered j) (Some table) made) _ m says.one count;
          offered = names;
          mine = rw (other_side-same at) follows;
          theirs = rw (same_side-self (other_side at)) (aligned_self table.lines);
        };
      };
      side = record { are = are; live = starts_keep table.lines live };
    }
  where
    mine : List LineRow
    mine = before at past

    theirs : List LineRow
    theirs = before (other_side at) past

    offered : List LineRow
    offered = out.offer.front ++ out.offer.more

-- ---- an answer is accepted

-- The answer that is outstanding may be delivered to the side that offered, which does not refuse it.
pub record MayEnd {E : Type 0} (answer : AnswerSaid) (at : Side) (n m : ℕ) (past : List (Entry E)) : Type 0 where
  pub held : holds_token at n past ≡ true
  pub right : is_right at n past ≡ true
  pub remote_is : remote_sdp false at m past ≡ Readable (as_read answer.sdp)
  pub leaves : table_after (before at past) (parsed_lines (as_read answer.sdp)) false ≡ rows_after (before at past) false 0 (map row_said answer.rows)

pub may_end : {E : Type 0} → (fresh : Stances) (at : Side) (n m : ℕ) (said : List LineRow) (past : List (Entry E)) → AreReadBack (sdps past) → Sound fresh past → (it : IsAnswered at n m said past)
    → MayEnd it.answer at n m past
may_end fresh at n m said past read sound it =
    let offer : OfferSaid = it.offer in
    let answer : AnswerSaid = it.answer in
    let mine : List LineRow = before at past in
    let few : length mine ≡ length offer.front = length-aligned offer.front mine it.has.kept in
    let lines : length (map row_said answer.rows) ≡ length answer.rows = length-map answer.rows row_said in
    record {
      held = rw (it.has.there, it.has.unspent, same_side-self at) refl;
      right = it.has.right;
      remote_is = ap (λ said. signalled_if (sdp_for false at said)) it.answered.there ∙ ap signalled_if (remote_answer at answer.sdp)
          ∙ read_at past m _ read it.answered.there;
      leaves = ap (λ list. table_after mine list false) (lines_as_read answer.sdp ∙ answer.says)
          ∙ taken_whole mine (map row_said answer.rows) false (omega (arith, length-aligned (offer.front ++ offer.more) answer.rows it.answered.offered, length-append offer.front offer.more));
    }

-- the side that offered does not refuse the answer, where its head passes
pub end_passes : {E : Type 0} → (fresh : Stances) (at : Side) (n m : ℕ) (said : List LineRow) (past : List (Entry E)) (view : Held) → Sound fresh past → (it : IsAnswered at n m said past) → view.lines ≡ before at past
    → HeadPasses view (restarts_by n past) (as_read it.answer.sdp)
    → verdict view (Some (asked_in at n past)) (as_read it.answer.sdp) ≡ None
end_passes fresh at n m said past view sound it is head =
    let offer : OfferSaid = it.offer in
    let answer : AnswerSaid = it.answer in
    let few : length (before at past) ≡ length offer.front = length-aligned offer.front (before at past) it.has.kept in
    let adds : added_by (length (before at past)) n past ≡ offer.more = ap (λ (k : ℕ). added_by k n past) few ∙ it.has.adds in
    rw adds (answer_passes view (restarts_by n past) (init_told_by n past) offer answer.rows (as_read answer.sdp) (subst IsTable (sym is) (past_table fresh past at sound))
    (rw is (it.answered.mine)) answer.table.one_app it.answered.offered (rw is it.has.kept) (lines_as_read answer.sdp ∙ answer.says)
    (fits_as_read answer.sdp ∙ answer.fits) head)

-- What the side is left with that offered, and has accepted the answer.
pub record Ended {E : Type 0} (said : List LineRow) (past : List (Entry E)) (table : Table) : Type 0 where
  pub phase : InPhase Idle past
  pub side : IsSideOf said table.lines

-- The side that offered has accepted the answer.
pub ended_next : {E : Type 0} → (fresh between : Stances) (at : Side) (n m : ℕ) (said seen : List LineRow) (past : List (Entry E)) (table : Table) (made : List MadeSdp) → AreReadBack (sdps past) → Sound fresh past → IsAnswered at n m said past
    → IsSideOf seen (before at past) → IsSound fresh past between (AcceptAnswer at n m) Finished (Some table) made
    → Ended (course_rows_after false 0 seen said) (entry (AcceptAnswer at n m) Finished (Some table) made ∷ past) table
ended_next {E} fresh between at n m said seen past table made read sound out side replied =
    let may : MayEnd out.answer at n m past = may_end fresh at n m said past read sound out in
    let it = answer_taken E (holds_token at n past) (is_right at n past) (asked_in at n past) (remote_sdp false at m past) (view_in fresh at past (held_by (between at))) table.lines replied.0 in
    let text_is : it.answer ≡ as_read out.answer.sdp = read_same _ _ (sym it.is ∙ may.remote_is) in
    let after : table.lines ≡ rows_after mine false 0 (map row_said rows) = it.leaves ∙ ap (λ sdp. table_after mine (parsed_lines sdp) false) text_is ∙ may.leaves in
    let apps : SayApps mine rows = follows_say mine 0 mine rows (past_table fresh past at sound) (all_left mine) out.answered.mine in
    let names : Aligned rows table.lines = rw after (after_aligned mine false 0 rows rows apps (aligned_self rows)) in
    let live : StartsLive table.lines = rw after (text_live mine false rows (past_table fresh past at sound) out.answered.mine side.live out.answer.live) in
    record {
      phase = aligned_from at (entry (AcceptAnswer at n m) Finished (Some table) made ∷ past) (rw (same_side-self at, same_side-other at) (aligned_trans theirs rows table.lines (aligned_sym rows theirs out.answered.theirs) names));
      side = record {
        are = ap (map unnamed) after ∙ sdp_accepted mine false rows (past_table fresh past at sound) out.answered.mine
            ∙ ap (λ list. course_rows_after false 0 list (map unnamed rows)) side.are ∙ ap (λ list. course_rows_after false 0 seen list) out.are;
        live = starts_keep table.lines live;
      };
    }
  where
    mine : List LineRow
    mine = before at past

    theirs : List LineRow
    theirs = before (other_side at) past

    rows : List LineRow
    rows = out.answer.rows
