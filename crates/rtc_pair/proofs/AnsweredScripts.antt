-- Runs answer each operation by its kind.
use Rattle.std.specs.List.{AllZip}
use Rattle.std.proofs.Common.{◌≡◌, ◌++◌, ◌∷◌, ℕ, Bool, true, false, true≢false, List, [], length, Option, Some, None, sym, subst}
use Rattle.rtc_sdp_values.specs.declared.line_row.LineRow.{LineRow}
use Rattle.rtc_change.specs.Held.{Asked, Held}
use Rattle.rtc_peer_core.specs.Meanings.{Meanings}
use Rattle.rtc_peer_core.specs.Stance.{held_by}
use Rattle.rtc_run_history.specs.declared.made.Made.{Made}
use Rattle.rtc_run_history.specs.declared.op_answer.OpAnswer.{OpAnswer}
use Rattle.rtc_run_history.specs.declared.outcome.Outcome.{Outcome}
use Rattle.rtc_run_history.specs.declared.outcome.Outcome.TheVariants.{Negotiated, Answered, Finished, Done, Wrote, Polled, Refused, NoSuch, Alloc}
use Rattle.rtc_run_history.specs.declared.reply.Reply.{Reply}
use Rattle.rtc_run_history.specs.declared.step.Step.{Step}
use Rattle.rtc_run_history.specs.declared.step.Step.TheVariants.{Negotiate, AcceptOffer, AcceptAnswer, Time, Datagram, Poll, Drain, Write, CloseChannel, Close, Rollback, ForeignOffer, ForeignAnswer, Raw}
use Rattle.rtc_run_history.specs.declared.table.Table.{Table}
use Rattle.rtc_run_history.specs.PairState.{PairState, addr_at, rtc_at, stances_of}
use Rattle.rtc_run_history.specs.Past.{Entry, MadeSdp, holds_token, is_right, remote_sdp, replies_of, reply_of, sdps, steps_of}
use Rattle.rtc_run_history.specs.Performs.{Acts, lent}
use Rattle.rtc_run_history.specs.Runs.{EntersSoundly, Runs, Went}
use Rattle.rtc_run_history.specs.Sides.{other_side, side_of}
use Rattle.rtc_run_history.specs.Signalled.{NotMade, Readable, Signalled, Unreadable, foreign}
use Rattle.rtc_run_history.specs.Sound.{IsSound, RepliesToAnswer, RepliesToOffer, RepliesToRollback, asked_in, is_glare_at}
use Rattle.rtc_run_history.specs.Undone.{table_shown, table_undone}
use Rattle.rtc_run_history.specs.Views.{Stances, view_in}
use Rattle.rtc_script_reports.specs.Fits.{AnswersOps, AnswersStep, AreAnswersTo, ops_of}
use Rattle.rtc_pair.proofs.DrawnAnswers.{ops_answered}

-- ---- only negotiation answers operations

IsNegotiation : Step → Type 0
IsNegotiation (Negotiate at ops apply) = Unit {0}
IsNegotiation step = ⊥

not_to_offer : (E : Type 0) (glare : Bool) (sdp : Signalled) (view : Held) (next : ℕ) (answers : List OpAnswer) (made : Made) (after : List LineRow)
    → RepliesToOffer {E = E} glare sdp view next (Negotiated answers made) after → ⊥
not_to_offer E true NotMade view next answers made after h = h
not_to_offer E true (Unreadable line) view next answers made after h = h
not_to_offer E true (Readable sdp) view next answers made after h = h
not_to_offer E false NotMade view next answers made after h = h
not_to_offer E false (Unreadable line) view next answers made after h = h
not_to_offer E false (Readable sdp) view next answers made after h = h

not_to_answer : (E : Type 0) (held right : Bool) (asked : Asked) (sdp : Signalled) (view : Held) (answers : List OpAnswer) (made : Made) (after : List LineRow)
    → RepliesToAnswer {E = E} held right asked sdp view (Negotiated answers made) after → ⊥
not_to_answer E true true asked NotMade view answers made after h = h
not_to_answer E true true asked (Unreadable line) view answers made after h = h
not_to_answer E true true asked (Readable sdp) view answers made after h = h
not_to_answer E true false asked NotMade view answers made after h = h
not_to_answer E true false asked (Unreadable line) view answers made after h = h
not_to_answer E true false asked (Readable sdp) view answers made after h = h
not_to_answer E false true asked NotMade view answers made after h = h
not_to_answer E false true asked (Unreadable line) view answers made after h = h
not_to_answer E false true asked (Readable sdp) view answers made after h = h
not_to_answer E false false asked NotMade view answers made after h = h
not_to_answer E false false asked (Unreadable line) view answers made after h = h
not_to_answer E false false asked (Readable sdp) view answers made after h = h

not_to_rollback : (E : Type 0) (held right : Bool) (earlier undone : Table) (answers : List OpAnswer) (made : Made) (table : Table)
    → RepliesToRollback {E = E} held right earlier undone (Negotiated answers made) table → ⊥
not_to_rollback E true true earlier undone answers made table h = h
not_to_rollback E true false earlier undone answers made table h = h
not_to_rollback E false true earlier undone answers made table h = h
not_to_rollback E false false earlier undone answers made table h = h

negotiates : {E : Type 0} (fresh : Stances) (past : List (Entry E)) (between : Stances) (step : Step) (answers : List OpAnswer) (made : Made) (table : Option Table) (said : List MadeSdp)
    → IsSound fresh past between step (Negotiated answers made) table said → IsNegotiation step
unfolding IsNegotiation
negotiates fresh past between (Negotiate at ops apply) answers made table said h = tt
negotiates fresh past between (Time at now) answers made None said h = absurd h
negotiates fresh past between (Time at now) answers made (Some table) said h = absurd (true≢false (sym h.0))
negotiates fresh past between (Datagram at packet now) answers made None said h = absurd h
negotiates fresh past between (Datagram at packet now) answers made (Some table) said h = absurd (true≢false (sym h.0))
negotiates fresh past between (Poll at) answers made None said h = absurd h
negotiates fresh past between (Poll at) answers made (Some table) said h = absurd (true≢false (sym h.0))
negotiates fresh past between (Drain at) answers made None said h = absurd h
negotiates fresh past between (Drain at) answers made (Some table) said h = absurd (true≢false (sym h.0))
negotiates fresh past between (Write at channel binary bytes) answers made None said h = absurd h
negotiates fresh past between (Write at channel binary bytes) answers made (Some table) said h = absurd (true≢false (sym h.0))
negotiates fresh past between (CloseChannel at channel) answers made None said h = absurd h
negotiates fresh past between (CloseChannel at channel) answers made (Some table) said h = absurd (true≢false (sym h.0))
negotiates fresh past between (Close at) answers made None said h = absurd h
negotiates fresh past between (Close at) answers made (Some table) said h = absurd (true≢false (sym h.0))
negotiates fresh past between (Raw at bytes now) answers made None said h = absurd h
negotiates fresh past between (Raw at bytes now) answers made (Some table) said h = absurd (true≢false (sym h.0))
negotiates fresh past between (AcceptOffer at offer) answers made None said h = absurd h
negotiates fresh past between (AcceptOffer at offer) answers made (Some table) said h = absurd (not_to_offer _ (is_glare_at fresh at past) (remote_sdp true at offer past) (view_in fresh at past (held_by (between at))) (length (sdps past)) answers made table.lines h.0)
negotiates fresh past between (ForeignOffer at text) answers made None said h = absurd h
negotiates fresh past between (ForeignOffer at text) answers made (Some table) said h = absurd (not_to_offer _ (is_glare_at fresh at past) (foreign text) (view_in fresh at past (held_by (between at))) (length (sdps past)) answers made table.lines h.0)
negotiates fresh past between (AcceptAnswer at token answer) answers made None said h = absurd h
negotiates fresh past between (AcceptAnswer at token answer) answers made (Some table) said h = absurd (not_to_answer _ (holds_token at token past) (is_right at token past) (asked_in at token past) (remote_sdp false at answer past) (view_in fresh at past (held_by (between at))) answers made table.lines h.0)
negotiates fresh past between (ForeignAnswer at token text) answers made None said h = absurd h
negotiates fresh past between (ForeignAnswer at token text) answers made (Some table) said h = absurd (not_to_answer _ (holds_token at token past) (is_right at token past) (asked_in at token past) (foreign text) (view_in fresh at past (held_by (between at))) answers made table.lines h.0)
negotiates fresh past between (Rollback at token) answers made None said h = absurd h
negotiates fresh past between (Rollback at token) answers made (Some table) said h = absurd (not_to_rollback _ (holds_token at token past) (is_right at token past) (table_shown at past) (table_undone at token past) answers made table h)

-- ---- entries and runs

zip_more : {A B : Type 0} (R : A → B → Type 0) (xs : List A) (ys : List B) (x : A) (y : B) → AllZip R xs ys → R x y → AllZip R (xs ++ x ∷ []) (ys ++ y ∷ [])
zip_more R [] [] x y all one = (one, tt)
zip_more R [] (b ∷ ys) x y all one = absurd all
zip_more R (a ∷ xs) [] x y all one = absurd all
zip_more R (a ∷ xs) (b ∷ ys) x y all one = (all.0, zip_more R xs ys x y all.1 one)

module _ {I D S M E X T W N : Type 0} (m : Meanings I D S M E X T W N) (stun : List ℕ → Bool) where
  negotiated : (step : Step) (answers : List OpAnswer) (made : Made) (table : Option Table) (old new : PairState I D S M N)
      → Acts m stun (addr_at (other_side (side_of step)) old) (addr_at (side_of step) old) step (rtc_at (side_of step) old) old.sdps old.packets (Negotiated answers made) table (rtc_at (side_of step) new) new.sdps new.packets
      → IsNegotiation step → AnswersOps (ops_of step) answers
  unfolding IsNegotiation
  negotiated (Negotiate at ops apply) answers made None old new h is = absurd h.0
  negotiated (Negotiate at ops apply) answers made (Some table) old new h is = ops_answered m (lent (rtc_at at old).core) ops answers h.0.0 h.0.1
  negotiated step answers made table old new h is = absurd is

  entry_answered : (start : PairState I D S M N) (past : List (Entry E)) (old : PairState I D S M N) (step : Step) (outcome : Outcome E) (table : Option Table) (made : List MadeSdp) (new : PairState I D S M N)
      → EntersSoundly m stun start past old (record { step = step; outcome = outcome; table = table; made = made }) new → AnswersStep step outcome
  entry_answered start past old step (Negotiated answers made) table said new h =
      negotiated step answers made table old new h.0.performs.acts (negotiates (stances_of m start) past (stances_of m old) step answers made table said h.1.replied)
  entry_answered start past old step (Answered text) table said new h = tt
  entry_answered start past old step Finished table said new h = tt
  entry_answered start past old step Done table said new h = tt
  entry_answered start past old step (Wrote taken) table said new h = tt
  entry_answered start past old step (Polled outputs end) table said new h = tt
  entry_answered start past old step (Refused error) table said new h = tt
  entry_answered start past old step NoSuch table said new h = tt
  entry_answered start past old step Alloc table said new h = tt

  went_answered : (start pair : PairState I D S M N) (past : List (Entry E)) → Went (EntersSoundly m stun start) (λ fresh. fresh ≡ start) past pair → AreAnswersTo (steps_of past) (replies_of past)
  went_answered start pair [] h = tt
  went_answered start pair (entry ∷ past) h =
      zip_more (λ (step : Step) (reply : Reply E). AnswersStep step reply.outcome) (steps_of past) (replies_of past) entry.step (reply_of entry) (went_answered start h.0 past h.1)
      (entry_answered start past h.0 entry.step entry.outcome entry.table entry.made pair h.2)

  -- the replies of a run have the answers that its steps ask for
  pub run_answered : (start pair : PairState I D S M N) (steps : List Step) (replies : List (Reply E)) → Runs m stun start steps replies pair → AreAnswersTo steps replies
  run_answered start pair steps replies run =
      subst (λ (rs : List (Reply E)). AreAnswersTo steps rs) run.replies_are
      (subst (λ (ss : List Step). AreAnswersTo ss (replies_of run.past)) run.steps_are (went_answered start pair run.past run.went))
