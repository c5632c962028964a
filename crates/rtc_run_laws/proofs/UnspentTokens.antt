-- No token past the SDPs of a past is spent.
use Rattle.std.proofs.Common.{◌≡◌, ◌<◌, ◌≤◌, ◌==◌, ℕ, Bool, true, false, not, ◌&&◌, List, [], ◌∷◌, length, Option, Some, None, refl, arith, length-append}
use Rattle.std.specs.Prelude.{slice_get}
use Rattle.std.proofs.lemmas.Bool.{ne_eqb, and_parts}
use Rattle.std.proofs.lemmas.Option.{slice_get_within}
use Rattle.rtc_sdp_values.specs.declared.line_row.LineRow.{LineRow}
use Rattle.rtc_change.specs.Held.{Held, Asked}
use Rattle.rtc_run_history.specs.Signalled.{Signalled, foreign}
use Rattle.rtc_run_history.specs.declared.side.Side.{Side}
use Rattle.rtc_run_history.specs.declared.step.Step.{Step}
use Rattle.rtc_run_history.specs.declared.step.Step.TheVariants.{Negotiate, AcceptOffer, AcceptAnswer, Time, Datagram, Poll, Drain, Write, CloseChannel, Close, Rollback, ForeignOffer, ForeignAnswer, Raw}
use Rattle.rtc_run_history.specs.declared.outcome.Outcome.{Outcome}
use Rattle.rtc_run_history.specs.declared.outcome.Outcome.TheVariants.{NoSuch, Alloc}
use Rattle.rtc_run_history.specs.declared.table.Table.{Table}
use Rattle.rtc_run_history.specs.Past.{Entry, MadeSdp, sdps, remote_sdp, was_called, was_rolled_back, is_offer_of, holds_token, spends, is_spent, is_right}
use Rattle.rtc_run_history.specs.Sound.{RepliesToAnswer, RepliesToRollback, IsSound, asked_in}
use Rattle.rtc_run_history.specs.Undone.{table_shown, table_undone}
use Rattle.rtc_run_laws.proofs.SoundPasts.{Sound}
use Rattle.rtc_run_laws.proofs.Takings.{answer_taking, foreign_answer_taking, rollback_taking}
use Rattle.rtc_run_history.specs.Views.{Stances, view_in}
use Rattle.rtc_peer_core.specs.Stance.{held_by}

called_held : {E : Type 0} → (held right : Bool) (asked : Asked) (sdp : Signalled) (view : Held) (outcome : Outcome E) (after : List LineRow) → RepliesToAnswer held right asked sdp view outcome after → was_called outcome ≡ true → held ≡ true
called_held true right asked sdp view outcome after takes was = refl
called_held false right asked sdp view NoSuch after takes was = absurd (cc)
called_held false right asked sdp view outcome after takes was = absurd takes

rolled_held : {E : Type 0} → (held right : Bool) (earlier undone : Table) (outcome : Outcome E) (table : Table) → RepliesToRollback held right earlier undone outcome table → was_rolled_back outcome ≡ true → held ≡ true
rolled_held true right earlier undone outcome table replied was = refl
rolled_held false right earlier undone NoSuch table replied was = absurd (cc)
rolled_held false right earlier undone outcome table replied was = absurd replied

and_false : (b : Bool) → (b && false) ≡ false
and_false true = refl
and_false false = refl

-- a token of a number past the SDPs is not held, and so not spent
token_within : (at : Side) (said : List MadeSdp) (t : ℕ) (found : Option MadeSdp) → slice_get said t ≡ found → is_offer_of at found ≡ true → t < length said
token_within at said t None there mine = absurd (cc)
token_within at said t (Some one) there mine = slice_get_within said t one there

unspent_by : {E : Type 0} → (past : List (Entry E)) (at : Side) (t n : ℕ) (called : Bool) → (called ≡ true → holds_token at t past ≡ true) → length (sdps past) ≤ n → ((t == n) && called) ≡ false
unspent_by past at t n false held most = and_false (t == n)
unspent_by past at t n true held most =
    let parts = and_parts (is_offer_of at (slice_get (sdps past) t)) (not (is_spent t past)) (held refl) in
    let less : t < length (sdps past) = token_within at (sdps past) t (slice_get (sdps past) t) refl parts.0 in
    rw (ne_eqb t n (λ e. omega (arith, e, less, most))) refl

unspent_step : {E : Type 0} → (fresh between : Stances) (past : List (Entry E)) (step : Step) (outcome : Outcome E) (table : Option Table) (made : List MadeSdp) (n : ℕ) → IsSound fresh past between step outcome table made → length (sdps past) ≤ n → spends n step outcome ≡ false
unspent_step fresh between past (Negotiate at ops apply) outcome table made n sound most = refl
unspent_step fresh between past (AcceptOffer at k) outcome table made n sound most = refl
unspent_step fresh between past (Time at now) outcome table made n sound most = refl
unspent_step fresh between past (Datagram at packet now) outcome table made n sound most = refl
unspent_step fresh between past (Poll at) outcome table made n sound most = refl
unspent_step fresh between past (Drain at) outcome table made n sound most = refl
unspent_step fresh between past (Write at channel binary bytes) outcome table made n sound most = refl
unspent_step fresh between past (CloseChannel at channel) outcome table made n sound most = refl
unspent_step fresh between past (Close at) outcome table made n sound most = refl
unspent_step fresh between past (ForeignOffer at text) outcome table made n sound most = refl
unspent_step fresh between past (Raw at bytes now) outcome table made n sound most = refl
unspent_step fresh between past (AcceptAnswer at t a) Alloc None made n sound most = and_false (t == n)
unspent_step fresh between past (AcceptAnswer at t a) outcome (Some table) made n sound most =
    unspent_by past at t n (was_called outcome)
    (called_held (holds_token at t past) (is_right at t past) (asked_in at t past) (remote_sdp false at a past) (view_in fresh at past (held_by (between at))) outcome table.lines (answer_taking fresh between past at t a outcome table made sound)) most
unspent_step fresh between past (AcceptAnswer at t a) outcome None made n sound most = absurd sound
unspent_step fresh between past (ForeignAnswer at t text) Alloc None made n sound most = and_false (t == n)
unspent_step fresh between past (ForeignAnswer at t text) outcome (Some table) made n sound most =
    unspent_by past at t n (was_called outcome)
    (called_held (holds_token at t past) (is_right at t past) (asked_in at t past) (foreign text) (view_in fresh at past (held_by (between at))) outcome table.lines (foreign_answer_taking fresh between past at t text outcome table made sound)) most
unspent_step fresh between past (ForeignAnswer at t text) outcome None made n sound most = absurd sound
unspent_step fresh between past (Rollback at t) Alloc None made n sound most = and_false (t == n)
unspent_step fresh between past (Rollback at t) outcome (Some table) made n sound most =
    unspent_by past at t n (was_rolled_back outcome)
    (rolled_held (holds_token at t past) (is_right at t past) (table_shown at past) (table_undone at t past) outcome table (rollback_taking fresh between past at t outcome table made sound)) most
unspent_step fresh between past (Rollback at t) outcome None made n sound most = absurd sound

-- no token past the SDPs is spent
pub unspent_later : {E : Type 0} → (fresh : Stances) (past : List (Entry E)) (n : ℕ) → Sound fresh past → length (sdps past) ≤ n → is_spent n past ≡ false
unspent_later fresh [] n sound most = refl
unspent_later fresh (last ∷ past) n sound most =
    let fewer : length (sdps past) ≤ n = omega (arith, length-append (sdps past) last.made) in
    rw (unspent_step fresh sound.0.between past last.step last.outcome last.table last.made n sound.0.sound.replied fewer) (unspent_later fresh past n sound.1 fewer)
