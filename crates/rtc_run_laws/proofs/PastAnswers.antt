-- The answer of a number in a past that is an offer's own: which offer the other side took, and what it left there.
use Rattle.rtc_change.specs.Held.{Held}
use Rattle.std.proofs.Common.{◌≡◌, ◌==◌, ℕ, Bool, true, false, not, ◌&&◌, List, [], ◌∷◌, ◌++◌, map, length, Option, Some, None, refl, subst}
use Rattle.std.specs.Prelude.{slice_get}
use Rattle.std.proofs.lemmas.Bool.{eqb-true, and_parts}
use Rattle.rtc_sdp_values.specs.declared.line_row.LineRow.{LineRow}
use Rattle.rtc_sdp_values.specs.declared.sdp.Sdp.{Sdp}
use Rattle.rtc_peer_rows.specs.ParsedLines.{parsed_lines}
use Rattle.rtc_change.specs.TableAfter.{table_after}
use Rattle.rtc_change.specs.Plans.{verdict}
use Rattle.rtc_run_history.specs.Signalled.{Signalled, NotMade, Unreadable, Readable, signalled_if}
use Rattle.rtc_run_history.specs.declared.side.Side.{Side}
use Rattle.rtc_run_history.specs.declared.side.Side.TheVariants.{Left, Right}
use Rattle.rtc_run_history.specs.declared.step.Step.{Step}
use Rattle.rtc_run_history.specs.declared.step.Step.TheVariants.{AcceptOffer}
use Rattle.rtc_run_history.specs.declared.outcome.Outcome.{Outcome}
use Rattle.rtc_run_history.specs.declared.outcome.Outcome.TheVariants.{Answered}
use Rattle.rtc_run_history.specs.declared.table.Table.{Table}
use Rattle.rtc_run_history.specs.Sides.{same_side, other_side}
use Rattle.rtc_run_history.specs.Past.{Entry, MadeSdp, before, sdps, sdp_for, remote_sdp}
use Rattle.rtc_run_history.specs.Sound.{RepliesToOffer, IsSound, is_glare_at}
use Rattle.rtc_run_history.specs.SaidRows.{row_said, MakesSdp}
use Rattle.rtc_run_history.specs.Rounds.{before_last, through_last, makes_answer, is_answer_to, is_own}
use Rattle.rtc_run_laws.proofs.SoundPasts.{IsSoundIn, Sound}
use Rattle.rtc_run_laws.proofs.Tells.{same_side-self}
use Rattle.rtc_run_laws.proofs.PastOffers.{stays_there, text_next}
use Rattle.rtc_run_history.specs.Views.{Stances, view_in}
use Rattle.rtc_peer_core.specs.Stance.{held_by}

-- What an answer says that a side made: the offer that it took, and the rows that it left.
pub record TookOffer (rows after : List LineRow) (offer sdp : Sdp) : Type 0 where
  pub leaves : after ≡ table_after rows (parsed_lines offer) true
  pub says : parsed_lines sdp ≡ map row_said after

-- What a past says of the answer of a number to the offer of a number, as the other side than this one read it.
pub record PastAnswer {E : Type 0} (at : Side) (t a : ℕ) (past : List (Entry E)) : Type 0 where
  pub offer : Sdp
  pub sdp : Sdp
  pub offered : signalled_if (sdp_for true (other_side at) (slice_get (sdps past) t)) ≡ Readable offer
  pub there : slice_get (sdps past) a ≡ Some (record { at = other_side at; offer = false; sdp = sdp })
  pub took : TookOffer (before (other_side at) (before_last (makes_answer at t a) past)) (before (other_side at) (through_last (makes_answer at t a) past)) offer sdp

pub another : (side at : Side) → not (same_side side at) ≡ true → side ≡ other_side at
another Left Left other = absurd (cc)
another Left Right other = refl
another Right Left other = refl
another Right Right other = absurd (cc)

-- What a step that made the answer of a number is.
record AnswerEntry {E : Type 0} (past : List (Entry E)) (entry : Entry E) (side : Side) (t a : ℕ) : Type 0 where
  offer : Sdp
  sdp : Sdp
  offered : remote_sdp true side t past ≡ Readable offer
  count : a ≡ length (sdps past)
  one : entry.made ≡ record { at = side; offer = false; sdp = sdp } ∷ []
  took : TookOffer (before side past) (before side (entry ∷ past)) offer sdp

-- an offer that was answered
pub record Answers (sdp : Signalled) (view : Held) (next k : ℕ) (after : List LineRow) : Type 0 where
  pub offer : Sdp
  pub is : sdp ≡ Readable offer
  pub passes : verdict view None offer ≡ None
  pub leaves : after ≡ table_after view.lines (parsed_lines offer) true
  pub count : k ≡ next

pub answered : (E : Type 0) (glare : Bool) (sdp : Signalled) (view : Held) (next k : ℕ) (after : List LineRow) → RepliesToOffer {E = E} glare sdp view next (Answered k) after → Answers sdp view next k after
answered E true NotMade view next k after takes = absurd takes
answered E true (Unreadable line) view next k after takes = absurd takes
answered E true (Readable sdp) view next k after takes = absurd takes
answered E false NotMade view next k after takes = absurd takes
answered E false (Unreadable line) view next k after takes = absurd takes
answered E false (Readable sdp) view next k after takes = record { offer = sdp; is = refl; passes = takes.0; leaves = takes.1; count = takes.2 }

answer_entry : {E : Type 0} → (fresh : Stances) (past : List (Entry E)) (entry : Entry E) (at : Side) (t a : ℕ) → IsSoundIn fresh past entry → makes_answer at t a entry ≡ true → AnswerEntry past entry (other_side at) t a
answer_entry {E} fresh past entry at t a sound makes_it = by sound.between entry.step entry.outcome entry.table entry.made sound.sound.replied sound.sound.made makes_it
  where
    here : (between : Stances) (side : Side) (offer k : ℕ) (table : Table) (made : List MadeSdp) → IsSound fresh past between (AcceptOffer side offer) (Answered k) (Some table) made → MakesSdp {E = E} (AcceptOffer side offer) (Answered k) (Some table) made
        → AnswerEntry past (record { step = AcceptOffer side offer; outcome = Answered k; table = Some table; made = made }) side offer k
    here between side offer k table made replied sdp =
        let it = answered E (is_glare_at fresh side past) (remote_sdp true side offer past) (view_in fresh side past (held_by (between side))) (length (sdps past)) k table.lines replied.0 in
        record {
          offer = it.offer;
          sdp = sdp.sdp;
          offered = it.is;
          count = it.count;
          one = sdp.one;
          took = rw (same_side-self side) (record { leaves = it.leaves; says = sdp.says });
        }

    by : (between : Stances) (step : Step) (outcome : Outcome E) (table : Option Table) (made : List MadeSdp) → IsSound fresh past between step outcome table made → MakesSdp step outcome table made → is_answer_to at t a step outcome ≡ true
        → AnswerEntry past (record { step = step; outcome = outcome; table = table; made = made }) (other_side at) t a
    by between (AcceptOffer side offer) (Answered k) None made replied sdp makes_it = absurd replied
    by between (AcceptOffer side offer) (Answered k) (Some table) made replied sdp makes_it =
        let parts = and_parts (not (same_side side at)) ((offer == t) && (k == a)) makes_it in
        let numbers = and_parts (offer == t) (k == a) parts.1 in
        let entry_of : Side → ℕ → ℕ → Type 0 = λ s o n. AnswerEntry past (record { step = AcceptOffer side offer; outcome = Answered k; table = Some table; made = made }) s o n in
        subst (λ (s : Side). entry_of s t a) (another side at parts.0)
        (subst (λ (o : ℕ). entry_of side o a) (eqb-true offer t numbers.0)
        (subst (λ (n : ℕ). entry_of side offer n) (eqb-true k a numbers.1) (here between side offer k table made replied sdp)))
    by between step outcome table made replied sdp makes_it = absurd (let e : false ≡ true = makes_it in cc)

remote_stays : (at : Side) (found : List MadeSdp) (more : List MadeSdp) (t : ℕ) (offer : Sdp) → signalled_if (sdp_for true at (slice_get found t)) ≡ Readable offer → signalled_if (sdp_for true at (slice_get (found ++ more) t)) ≡ Readable offer
remote_stays at found more t offer there = by (slice_get found t) refl there
  where
    by : (said : Option MadeSdp) → slice_get found t ≡ said → signalled_if (sdp_for true at said) ≡ Readable offer → signalled_if (sdp_for true at (slice_get (found ++ more) t)) ≡ Readable offer
    by None is there = absurd (cc)
    by (Some said) is there = rw (stays_there found more t said is) there

-- The answer of a number that is an offer's own.
pub past_answer : {E : Type 0} → (fresh : Stances) (at : Side) (t a : ℕ) (past : List (Entry E)) → Sound fresh past → is_own at t a past ≡ true → PastAnswer at t a past
past_answer fresh at t a [] sound own = absurd (cc)
past_answer fresh at t a (entry ∷ past) sound own = by (λ own. past_answer fresh at t a past sound.1 own) (makes_answer at t a entry) refl
  where
    by : (is_own at t a past ≡ true → PastAnswer at t a past) → (made : Bool) → makes_answer at t a entry ≡ made → PastAnswer at t a (entry ∷ past)
    by earlier true is =
        let it = answer_entry fresh past entry at t a sound.0 is in
        record {
          offer = it.offer;
          sdp = it.sdp;
          offered = remote_stays (other_side at) (sdps past) entry.made t it.offer it.offered;
          there = text_next past entry _ a it.one it.count;
          took = rw is it.took;
        }
    by earlier false is =
        let answer = earlier (rw is at own) in
        record {
          offer = answer.offer;
          sdp = answer.sdp;
          offered = remote_stays (other_side at) (sdps past) entry.made t answer.offer answer.offered;
          there = stays_there (sdps past) entry.made a _ answer.there;
          took = rw is answer.took;
        }
