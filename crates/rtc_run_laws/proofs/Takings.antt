-- What a sound reply to an acceptance or to a rollback says.
use Rattle.std.proofs.Common.{ℕ, true, false, List, length, Some}
use Rattle.rtc_run_history.specs.declared.side.Side.{Side}
use Rattle.rtc_run_history.specs.declared.step.Step.TheVariants.{AcceptOffer, AcceptAnswer, Rollback, ForeignOffer, ForeignAnswer}
use Rattle.rtc_run_history.specs.declared.outcome.Outcome.{Outcome}
use Rattle.rtc_run_history.specs.declared.outcome.Outcome.TheVariants.{Negotiated, Answered, Finished, Done, Wrote, Polled, Refused, NoSuch, Alloc}
use Rattle.rtc_run_history.specs.declared.table.Table.{Table}
use Rattle.rtc_run_history.specs.Past.{Entry, MadeSdp, sdps, remote_sdp, holds_token, is_right}
use Rattle.rtc_run_history.specs.Signalled.{foreign}
use Rattle.rtc_run_history.specs.Sound.{RepliesToOffer, RepliesToAnswer, RepliesToRollback, IsSound, asked_in, is_glare_at}
use Rattle.rtc_run_history.specs.Undone.{table_shown, table_undone}
use Rattle.rtc_run_history.specs.Views.{Stances, view_in}
use Rattle.rtc_peer_core.specs.Stance.{held_by}

-- the reply to an offer, or to an answer, that was delivered
pub offer_taking : {E : Type 0} → (fresh between : Stances) (past : List (Entry E)) (at : Side) (k : ℕ) (outcome : Outcome E) (table : Table) (made : List MadeSdp) → IsSound fresh past between (AcceptOffer at k) outcome (Some table) made
    → RepliesToOffer (is_glare_at fresh at past) (remote_sdp true at k past) (view_in fresh at past (held_by (between at))) (length (sdps past)) outcome table.lines
offer_taking fresh between past at k (Negotiated answers what) table made sound = sound.0
offer_taking fresh between past at k (Answered n) table made sound = sound.0
offer_taking fresh between past at k Finished table made sound = sound.0
offer_taking fresh between past at k Done table made sound = sound.0
offer_taking fresh between past at k (Wrote taken) table made sound = sound.0
offer_taking fresh between past at k (Polled outputs end) table made sound = sound.0
offer_taking fresh between past at k (Refused error) table made sound = sound.0
offer_taking fresh between past at k NoSuch table made sound = sound.0
offer_taking fresh between past at k Alloc table made sound = sound.0

pub answer_taking : {E : Type 0} → (fresh between : Stances) (past : List (Entry E)) (at : Side) (t a : ℕ) (outcome : Outcome E) (table : Table) (made : List MadeSdp) → IsSound fresh past between (AcceptAnswer at t a) outcome (Some table) made
    → RepliesToAnswer (holds_token at t past) (is_right at t past) (asked_in at t past) (remote_sdp false at a past) (view_in fresh at past (held_by (between at))) outcome table.lines
answer_taking fresh between past at t a (Negotiated answers what) table made sound = sound.0
answer_taking fresh between past at t a (Answered k) table made sound = sound.0
answer_taking fresh between past at t a Finished table made sound = sound.0
answer_taking fresh between past at t a Done table made sound = sound.0
answer_taking fresh between past at t a (Wrote taken) table made sound = sound.0
answer_taking fresh between past at t a (Polled outputs end) table made sound = sound.0
answer_taking fresh between past at t a (Refused error) table made sound = sound.0
answer_taking fresh between past at t a NoSuch table made sound = sound.0
answer_taking fresh between past at t a Alloc table made sound = sound.0

-- the same of texts that anybody wrote
pub foreign_offer_taking : {E : Type 0} → (fresh between : Stances) (past : List (Entry E)) (at : Side) (text : List ℕ) (outcome : Outcome E) (table : Table) (made : List MadeSdp) → IsSound fresh past between (ForeignOffer at text) outcome (Some table) made
    → RepliesToOffer (is_glare_at fresh at past) (foreign text) (view_in fresh at past (held_by (between at))) (length (sdps past)) outcome table.lines
foreign_offer_taking fresh between past at text (Negotiated answers what) table made sound = sound.0
foreign_offer_taking fresh between past at text (Answered n) table made sound = sound.0
foreign_offer_taking fresh between past at text Finished table made sound = sound.0
foreign_offer_taking fresh between past at text Done table made sound = sound.0
foreign_offer_taking fresh between past at text (Wrote taken) table made sound = sound.0
foreign_offer_taking fresh between past at text (Polled outputs end) table made sound = sound.0
foreign_offer_taking fresh between past at text (Refused error) table made sound = sound.0
foreign_offer_taking fresh between past at text NoSuch table made sound = sound.0
foreign_offer_taking fresh between past at text Alloc table made sound = sound.0

pub foreign_answer_taking : {E : Type 0} → (fresh between : Stances) (past : List (Entry E)) (at : Side) (t : ℕ) (text : List ℕ) (outcome : Outcome E) (table : Table) (made : List MadeSdp) → IsSound fresh past between (ForeignAnswer at t text) outcome (Some table) made
    → RepliesToAnswer (holds_token at t past) (is_right at t past) (asked_in at t past) (foreign text) (view_in fresh at past (held_by (between at))) outcome table.lines
foreign_answer_taking fresh between past at t text (Negotiated answers what) table made sound = sound.0
foreign_answer_taking fresh between past at t text (Answered n) table made sound = sound.0
foreign_answer_taking fresh between past at t text Finished table made sound = sound.0
foreign_answer_taking fresh between past at t text Done table made sound = sound.0
foreign_answer_taking fresh between past at t text (Wrote taken) table made sound = sound.0
foreign_answer_taking fresh between past at t text (Polled outputs end) table made sound = sound.0
foreign_answer_taking fresh between past at t text (Refused error) table made sound = sound.0
foreign_answer_taking fresh between past at t text NoSuch table made sound = sound.0
foreign_answer_taking fresh between past at t text Alloc table made sound = sound.0

-- the reply to a rollback
pub rollback_taking : {E : Type 0} → (fresh between : Stances) (past : List (Entry E)) (at : Side) (t : ℕ) (outcome : Outcome E) (table : Table) (made : List MadeSdp) → IsSound fresh past between (Rollback at t) outcome (Some table) made
    → RepliesToRollback (holds_token at t past) (is_right at t past) (table_shown at past) (table_undone at t past) outcome table
rollback_taking fresh between past at t (Negotiated answers what) table made sound = sound
rollback_taking fresh between past at t (Answered n) table made sound = sound
rollback_taking fresh between past at t Finished table made sound = sound
rollback_taking fresh between past at t Done table made sound = sound
rollback_taking fresh between past at t (Wrote taken) table made sound = sound
rollback_taking fresh between past at t (Polled outputs end) table made sound = sound
rollback_taking fresh between past at t (Refused error) table made sound = sound
rollback_taking fresh between past at t NoSuch table made sound = sound
rollback_taking fresh between past at t Alloc table made sound = sound
