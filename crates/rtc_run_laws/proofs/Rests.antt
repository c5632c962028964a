-- Steps that negotiate nothing: inputs, polls, writes and closes. They leave what negotiation reads of both sides.
use Rattle.std.proofs.Common.{◌≡◌, ◌∙◌, ℕ, Bool, true, false, List, [], ◌∷◌, Option, Some, None, refl, sym, ap}
use Rattle.rtc_sdp_values.specs.declared.line_row.LineRow.{LineRow}
use Rattle.rtc_channels.specs.declared.channel_row.ChannelRow.{ChannelRow}
use Rattle.rtc_peer_core.specs.Stance.{Stance}
use Rattle.rtc_run_history.specs.declared.side.Side.{Side}
use Rattle.rtc_run_history.specs.declared.side.Side.TheVariants.{Left, Right}
use Rattle.rtc_run_history.specs.declared.step.Step.{Step}
use Rattle.rtc_run_history.specs.declared.step.Step.TheVariants.{Negotiate, AcceptOffer, AcceptAnswer, Time, Datagram, Poll, Drain, Write, CloseChannel, Close, Rollback, ForeignOffer, ForeignAnswer, Raw}
use Rattle.rtc_run_history.specs.declared.op_answer.OpAnswer.{OpAnswer}
use Rattle.rtc_run_history.specs.declared.made.Made.{Made}
use Rattle.rtc_run_history.specs.declared.outcome.Outcome.{Outcome}
use Rattle.rtc_run_history.specs.declared.outcome.Outcome.TheVariants.{Negotiated, Answered, Finished, Done, Wrote, Polled, Refused, NoSuch, Alloc}
use Rattle.rtc_run_history.specs.declared.table.Table.{Table}
use Rattle.rtc_run_history.specs.SaidRows.{MakesSdp}
use Rattle.rtc_run_history.specs.Sides.{side_of, other_side, same_side}
use Rattle.rtc_run_history.specs.Past.{Entry, MadeSdp, before, rows_or, channel_rows_or, channels_shown, makes, moves, spends}
use Rattle.rtc_run_history.specs.Sound.{IsSound, is_handled, is_heard, is_polled, is_written, is_channel_closed}
use Rattle.rtc_run_history.specs.Views.{Stances}
use Rattle.rtc_run_laws.proofs.StanceSteps.{PairStance, RestTold, StanceRests}
use Rattle.rtc_run_laws.proofs.Tells.{Tells}
use Rattle.rtc_run_laws.proofs.Around.{entry, Around, channels_next, quiet_tells}

-- a step that negotiates nothing
abbrev pub IsRest : Step → Type 0
IsRest (Negotiate at ops apply) = ⊥
IsRest (AcceptOffer at offer) = ⊥
IsRest (AcceptAnswer at token answer) = ⊥
IsRest (Time at now) = Unit {0}
IsRest (Datagram at packet now) = Unit {0}
IsRest (Poll at) = Unit {0}
IsRest (Drain at) = Unit {0}
IsRest (Write at channel binary bytes) = Unit {0}
IsRest (CloseChannel at channel) = Unit {0}
IsRest (Close at) = Unit {0}
IsRest (Rollback at token) = ⊥
IsRest (ForeignOffer at text) = ⊥
IsRest (ForeignAnswer at token text) = ⊥
IsRest (Raw at bytes now) = Unit {0}

-- an outcome that such a step may have
abbrev pub rests : {E : Type 0} → Outcome E → Bool
rests (Negotiated answers made) = false
rests (Answered k) = false
rests Finished = false
rests Done = true
rests (Wrote taken) = true
rests (Polled outputs end) = true
rests (Refused error) = true
rests NoSuch = true
rests Alloc = true

pub handled_rests : {E : Type 0} → (outcome : Outcome E) → is_handled outcome ≡ true → rests outcome ≡ true
handled_rests (Negotiated answers made) is = is
handled_rests (Answered k) is = is
handled_rests Finished is = is
handled_rests Done is = refl
handled_rests (Wrote taken) is = refl
handled_rests (Polled outputs end) is = refl
handled_rests (Refused error) is = refl
handled_rests NoSuch is = refl
handled_rests Alloc is = refl

pub heard_rests : {E : Type 0} → (outcome : Outcome E) → is_heard outcome ≡ true → rests outcome ≡ true
heard_rests (Negotiated answers made) is = is
heard_rests (Answered k) is = is
heard_rests Finished is = is
heard_rests Done is = refl
heard_rests (Wrote taken) is = refl
heard_rests (Polled outputs end) is = refl
heard_rests (Refused error) is = refl
heard_rests NoSuch is = refl
heard_rests Alloc is = refl

pub polled_rests : {E : Type 0} → (outcome : Outcome E) → is_polled outcome ≡ true → rests outcome ≡ true
polled_rests (Negotiated answers made) is = is
polled_rests (Answered k) is = is
polled_rests Finished is = is
polled_rests Done is = refl
polled_rests (Wrote taken) is = refl
polled_rests (Polled outputs end) is = refl
polled_rests (Refused error) is = refl
polled_rests NoSuch is = refl
polled_rests Alloc is = refl

pub written_rests : {E : Type 0} → (outcome : Outcome E) → is_written outcome ≡ true → rests outcome ≡ true
written_rests (Negotiated answers made) is = is
written_rests (Answered k) is = is
written_rests Finished is = is
written_rests Done is = refl
written_rests (Wrote taken) is = refl
written_rests (Polled outputs end) is = refl
written_rests (Refused error) is = refl
written_rests NoSuch is = refl
written_rests Alloc is = refl

pub closed_rests : {E : Type 0} → (outcome : Outcome E) → is_channel_closed outcome ≡ true → rests outcome ≡ true
closed_rests (Negotiated answers made) is = is
closed_rests (Answered k) is = is
closed_rests Finished is = is
closed_rests Done is = refl
closed_rests (Wrote taken) is = refl
closed_rests (Polled outputs end) is = refl
closed_rests (Refused error) is = refl
closed_rests NoSuch is = refl
closed_rests Alloc is = refl

pub told_rests : {E : Type 0} → (may : Outcome E → Bool) (old : Stance) (outcome : Outcome E) (table : Option Table) (new : Stance)
    → ((one : Outcome E) → may one ≡ true → rests one ≡ true) → RestTold may old outcome table new → rests outcome ≡ true
told_rests may old outcome None new rest told = rw told.0 refl
told_rests may old outcome (Some table) new rest told = rest outcome told.0

-- ---- what such a step does not do

pub moves_none : {E : Type 0} → (at : Side) (step : Step) (outcome : Outcome E) → IsRest step → moves at step outcome ≡ false
moves_none at (Negotiate side ops apply) outcome rest = absurd rest
moves_none at (AcceptOffer side offer) outcome rest = absurd rest
moves_none at (AcceptAnswer side token answer) outcome rest = refl
moves_none at (Time side now) outcome rest = refl
moves_none at (Datagram side packet now) outcome rest = refl
moves_none at (Poll side) outcome rest = refl
moves_none at (Drain side) outcome rest = refl
moves_none at (Write side channel binary bytes) outcome rest = refl
moves_none at (CloseChannel side channel) outcome rest = refl
moves_none at (Close side) outcome rest = refl
moves_none at (Rollback side token) outcome rest = refl
moves_none at (ForeignOffer side text) outcome rest = absurd rest
moves_none at (ForeignAnswer side token text) outcome rest = refl
moves_none at (Raw side bytes now) outcome rest = refl

pub spends_none : {E : Type 0} → (t : ℕ) (step : Step) (outcome : Outcome E) → IsRest step → spends t step outcome ≡ false
spends_none t (Negotiate at ops apply) outcome rest = refl
spends_none t (AcceptOffer at offer) outcome rest = refl
spends_none t (AcceptAnswer at token answer) outcome rest = absurd rest
spends_none t (Time at now) outcome rest = refl
spends_none t (Datagram at packet now) outcome rest = refl
spends_none t (Poll at) outcome rest = refl
spends_none t (Drain at) outcome rest = refl
spends_none t (Write at channel binary bytes) outcome rest = refl
spends_none t (CloseChannel at channel) outcome rest = refl
spends_none t (Close at) outcome rest = refl
spends_none t (Rollback at token) outcome rest = absurd rest
spends_none t (ForeignOffer at text) outcome rest = refl
spends_none t (ForeignAnswer at token text) outcome rest = absurd rest
spends_none t (Raw at bytes now) outcome rest = refl

pub makes_none : {E : Type 0} → (t : ℕ) (outcome : Outcome E) → rests outcome ≡ true → makes t outcome ≡ false
makes_none t (Negotiated answers made) is = absurd (cc)
makes_none t (Answered k) is = refl
makes_none t Finished is = refl
makes_none t Done is = refl
makes_none t (Wrote taken) is = refl
makes_none t (Polled outputs end) is = refl
makes_none t (Refused error) is = refl
makes_none t NoSuch is = refl
makes_none t Alloc is = refl

-- ---- what a past tells after it

rest_rows : {E : Type 0} → (may : Outcome E → Bool) (outcome : Outcome E) (table : Option Table) (s t : Stance) (earlier : List LineRow) → s.lines ≡ earlier
    → RestTold may s outcome table t → t.lines ≡ rows_or true table earlier
rest_rows may outcome None s t earlier rows told = ap (λ (p : Stance). p.lines) told.1 ∙ rows
rest_rows may outcome (Some table) s t earlier rows told = sym told.1.lines

rest_channels : {E : Type 0} → (may : Outcome E → Bool) (outcome : Outcome E) (table : Option Table) (s t : Stance) (earlier : List ChannelRow)
    → earlier ≡ s.rows → RestTold may s outcome table t → channel_rows_or true table earlier ≡ t.rows
rest_channels may outcome None s t earlier shown told = shown ∙ sym (ap (λ (p : Stance). p.rows) told.1)
rest_channels may outcome (Some table) s t earlier shown told = told.1.channels

pub rest_tells : {E : Type 0} → (past : List (Entry E)) (step : Step) (outcome : Outcome E) (table : Option Table) (made : List MadeSdp) (old new : PairStance) (may : Outcome E → Bool) → IsRest step
    → rests outcome ≡ true → StanceRests may (old.sides (side_of step)) old.sdps outcome table (new.sides (side_of step)) new.sdps → Around step made old new → Tells past old
    → Tells (entry step outcome table made ∷ past) new
rest_tells past step outcome table made old new may rest quiet does around tells =
    let at = side_of step in
    quiet_tells false past step outcome table made old new does.sdps_kept
    (rest_rows may outcome table (old.sides at) (new.sides at) (before at past) (tells.sides at).rows does.told)
    (channels_next past step outcome table made (old.sides at) (new.sides at) does.numbered
    (rest_channels may outcome table (old.sides at) (new.sides at) (channels_shown at past) (sym (tells.sides at).channels.shown) does.told) (tells.sides at).channels)
    (ap (λ (p : Stance). p.counter) does.peer) (moves_none at step outcome rest) (moves_none (other_side at) step outcome rest) (λ t. spends_none t step outcome rest)
    (λ t. makes_none t outcome quiet) around tells

-- ---- what a sound reply to it tells

-- it answers no ops
pub no_rest : {E : Type 0} → (fresh between : Stances) (step : Step) (answers : List OpAnswer) (what : Made) (table : Option Table) (made : List MadeSdp) (past : List (Entry E)) → IsRest step
    → IsSound fresh past between step (Negotiated answers what) table made → ⊥
no_rest fresh between (Negotiate at ops apply) answers what table made past rest sound = rest
no_rest fresh between (AcceptOffer at offer) answers what table made past rest sound = rest
no_rest fresh between (AcceptAnswer at token answer) answers what table made past rest sound = rest
no_rest fresh between (Time at now) answers what None made past rest sound = sound
no_rest fresh between (Time at now) answers what (Some table) made past rest sound = let e : false ≡ true = sound.0 in cc
no_rest fresh between (Datagram at packet now) answers what None made past rest sound = sound
no_rest fresh between (Datagram at packet now) answers what (Some table) made past rest sound = let e : false ≡ true = sound.0 in cc
no_rest fresh between (Poll at) answers what None made past rest sound = sound
no_rest fresh between (Poll at) answers what (Some table) made past rest sound = let e : false ≡ true = sound.0 in cc
no_rest fresh between (Drain at) answers what None made past rest sound = sound
no_rest fresh between (Drain at) answers what (Some table) made past rest sound = let e : false ≡ true = sound.0 in cc
no_rest fresh between (Write at channel binary bytes) answers what None made past rest sound = sound
no_rest fresh between (CloseChannel at channel) answers what None made past rest sound = sound
no_rest fresh between (Close at) answers what None made past rest sound = sound
no_rest fresh between (Write at channel binary bytes) answers what (Some table) made past rest sound = let e : false ≡ true = sound.0 in cc
no_rest fresh between (CloseChannel at channel) answers what (Some table) made past rest sound = let e : false ≡ true = sound.0 in cc
no_rest fresh between (Close at) answers what (Some table) made past rest sound = let e : false ≡ true = sound.0 in cc
no_rest fresh between (Rollback at token) answers what table made past rest sound = rest
no_rest fresh between (ForeignOffer at text) answers what table made past rest sound = rest
no_rest fresh between (ForeignAnswer at token text) answers what table made past rest sound = rest
no_rest fresh between (Raw at bytes now) answers what None made past rest sound = sound
no_rest fresh between (Raw at bytes now) answers what (Some table) made past rest sound = let e : false ≡ true = sound.0 in cc

-- it makes no offer
pub rest_unmade : {E : Type 0} → (fresh between : Stances) (past : List (Entry E)) (step : Step) (outcome : Outcome E) (table : Option Table) (made : List MadeSdp) (t : ℕ) → IsRest step
    → IsSound fresh past between step outcome table made → makes t outcome ≡ false
rest_unmade fresh between past step (Negotiated answers what) table made t rest sound = absurd (no_rest fresh between step answers what table made past rest sound)
rest_unmade fresh between past step (Answered k) table made t rest sound = refl
rest_unmade fresh between past step Finished table made t rest sound = refl
rest_unmade fresh between past step Done table made t rest sound = refl
rest_unmade fresh between past step (Wrote taken) table made t rest sound = refl
rest_unmade fresh between past step (Polled outputs end) table made t rest sound = refl
rest_unmade fresh between past step (Refused error) table made t rest sound = refl
rest_unmade fresh between past step NoSuch table made t rest sound = refl
rest_unmade fresh between past step Alloc table made t rest sound = refl

-- it leaves the rows of its side
rest_shows : {E : Type 0} → (fresh between : Stances) (past : List (Entry E)) (step : Step) (outcome : Outcome E) (table : Option Table) (made : List MadeSdp) → IsRest step
    → IsSound fresh past between step outcome table made → rows_or true table (before (side_of step) past) ≡ before (side_of step) past
rest_shows fresh between past (Negotiate at ops apply) outcome table made rest sound = absurd rest
rest_shows fresh between past (AcceptOffer at offer) outcome table made rest sound = absurd rest
rest_shows fresh between past (AcceptAnswer at token answer) outcome table made rest sound = absurd rest
rest_shows fresh between past (Time at now) outcome None made rest sound = refl
rest_shows fresh between past (Time at now) outcome (Some table) made rest sound = sound.1
rest_shows fresh between past (Datagram at packet now) outcome None made rest sound = refl
rest_shows fresh between past (Datagram at packet now) outcome (Some table) made rest sound = sound.1
rest_shows fresh between past (Poll at) outcome None made rest sound = refl
rest_shows fresh between past (Poll at) outcome (Some table) made rest sound = sound.1
rest_shows fresh between past (Drain at) outcome None made rest sound = refl
rest_shows fresh between past (Drain at) outcome (Some table) made rest sound = sound.1
rest_shows fresh between past (Write at channel binary bytes) outcome None made rest sound = refl
rest_shows fresh between past (CloseChannel at channel) outcome None made rest sound = refl
rest_shows fresh between past (Close at) outcome None made rest sound = refl
rest_shows fresh between past (Write at channel binary bytes) outcome (Some table) made rest sound = sound.1
rest_shows fresh between past (CloseChannel at channel) outcome (Some table) made rest sound = sound.1
rest_shows fresh between past (Close at) outcome (Some table) made rest sound = sound.1
rest_shows fresh between past (Rollback at token) outcome table made rest sound = absurd rest
rest_shows fresh between past (ForeignOffer at text) outcome table made rest sound = absurd rest
rest_shows fresh between past (ForeignAnswer at token text) outcome table made rest sound = absurd rest
rest_shows fresh between past (Raw at bytes now) outcome None made rest sound = refl
rest_shows fresh between past (Raw at bytes now) outcome (Some table) made rest sound = sound.1

shown_at : {E : Type 0} → (at side : Side) (table : Option Table) (past : List (Entry E)) → rows_or true table (before at past) ≡ before at past
    → rows_or (same_side at side) table (before side past) ≡ before side past
shown_at Left Left table past rows = rows
shown_at Left Right table past rows = refl
shown_at Right Left table past rows = refl
shown_at Right Right table past rows = rows

pub rest_before : {E : Type 0} → (fresh between : Stances) (past : List (Entry E)) (step : Step) (outcome : Outcome E) (table : Option Table) (made : List MadeSdp) → IsRest step
    → IsSound fresh past between step outcome table made → (side : Side) → before side (entry step outcome table made ∷ past) ≡ before side past
rest_before fresh between past step outcome table made rest sound side =
    shown_at (side_of step) side table past (rest_shows fresh between past step outcome table made rest sound)

-- it makes no SDP
pub rest_says : {E : Type 0} → (step : Step) (outcome : Outcome E) (table : Option Table) (made : List MadeSdp) → IsRest step → MakesSdp step outcome table made → made ≡ []
rest_says (Negotiate at ops apply) outcome table made rest says = absurd rest
rest_says (AcceptOffer at offer) outcome table made rest says = absurd rest
rest_says (AcceptAnswer at token answer) outcome table made rest says = absurd rest
rest_says (Time at now) outcome table made rest says = says
rest_says (Datagram at packet now) outcome table made rest says = says
rest_says (Poll at) outcome table made rest says = says
rest_says (Drain at) outcome table made rest says = says
rest_says (Write at channel binary bytes) outcome table made rest says = says
rest_says (CloseChannel at channel) outcome table made rest says = says
rest_says (Close at) outcome table made rest says = says
rest_says (Rollback at token) outcome table made rest says = absurd rest
rest_says (ForeignOffer at text) outcome table made rest says = absurd rest
rest_says (ForeignAnswer at token text) outcome table made rest says = absurd rest
rest_says (Raw at bytes now) outcome table made rest says = says
