-- How many channel numbers steps tell: while numbers are left, no channel that every peer makes is refused.
use Rattle.std.proofs.Common.{◌≡◌, ◌≤◌, ◌<◌, ◌+◌, ◌-◌, ◌^◌, ◌==◌, ℕ, Bool, true, false, not, ◌&&◌, List, [], ◌∷◌, ◌++◌, length, Option, Some, None, refl, ap, arith, length-append}
use Rattle.std.specs.Prelude.{is_some}
use Rattle.std.proofs.lemmas.Bool.{or_parts, or_from, and_parts, not-true, ne_eqb, both_ways}
use Rattle.rtc_wire.specs.declared.channel_config.ChannelConfig.{ChannelConfig}
use Rattle.rtc_wire.specs.ChannelConfig.{is_overlong}
use Rattle.rtc_sdp_values.specs.declared.line_row.LineRow.{LineRow}
use Rattle.rtc_channels.specs.Channels.{Channel, Channels, claims_again, is_bad_channel}
use Rattle.rtc_run_history.specs.Signalled.{Signalled, NotMade, Unreadable, Readable}
use Rattle.rtc_run_history.specs.declared.op.Op.{Op}
use Rattle.rtc_run_history.specs.declared.op.Op.TheVariants.{AddMedia, SetDirection, StopMedia, AddChannel, IceRestart}
use Rattle.rtc_run_history.specs.declared.op_answer.OpAnswer.{OpAnswer}
use Rattle.rtc_run_history.specs.declared.op_answer.OpAnswer.TheVariants.{Mid, Changed, NoLine, Channel as Numbered, BadChannel, Alloc as OpAlloc, Creds}
use Rattle.rtc_run_history.specs.declared.step.Step.{Step}
use Rattle.rtc_run_history.specs.declared.step.Step.TheVariants.{Negotiate, AcceptOffer, AcceptAnswer, Time, Datagram, Poll, Drain, Write, CloseChannel, Close, Rollback, ForeignOffer, ForeignAnswer, Raw}
use Rattle.rtc_run_history.specs.declared.outcome.Outcome.{Outcome}
use Rattle.rtc_run_history.specs.declared.outcome.Outcome.TheVariants.{Negotiated, Answered, Finished, Done, Wrote, Polled, Refused, NoSuch, Alloc}
use Rattle.rtc_run_history.specs.Sides.{same_side, side_of}
use Rattle.rtc_run_history.specs.Sizes.{step_size, steps_size}
use Rattle.rtc_run_history.specs.Answers.{numbers_answered}
use Rattle.rtc_run_history.specs.declared.table.Table.{Table}
use Rattle.rtc_run_history.specs.Past.{Entry, MadeSdp, remote_sdp, holds_token, is_right, new_app, numbers_in, numbers_told, numbers_or}
use Rattle.rtc_run_history.specs.Sound.{Midway, holding_mid, having_rows, having_channel, OpsAnswered, RepliesToOffer, RepliesToAnswer, IsSound, asked_in, at_first, is_glare_at}
use Rattle.rtc_run_history.specs.Orderly.{AreNumbersLeft, negotiates}
use Rattle.rtc_run_history.specs.Views.{Stances}
use Rattle.rtc_change.specs.Held.{Held, Asked}
use Rattle.rtc_run_laws.proofs.Takings.{offer_taking, answer_taking}
use Rattle.rtc_run_laws.proofs.Tells.{same_side-self}
use Rattle.rtc_peer_rows.specs.RowChanges.{directed_row, stopped_row, changed_at}
use Rattle.rtc_run_history.specs.CourseRows.{is_in_band, do_add_odd_channel}
use Rattle.rtc_run_laws.proofs.CourseOps.{AreFine}

-- ---- sizes

pub steps_size-append : (steps : List Step) (step : Step) → steps_size (steps ++ step ∷ []) ≡ steps_size steps + step_size step
steps_size-append [] step = omega arith
steps_size-append (first ∷ steps) step = omega (arith, steps_size-append steps step)

-- ---- numbers that are left

-- a side told no fewer numbers after a step
told_grow : {E : Type 0} → (here : Bool) (outcome : Outcome E) (earlier : List ℕ) → length earlier ≤ length (numbers_or here outcome earlier)
told_grow true outcome earlier = omega (arith, length-append (numbers_in outcome) earlier)
told_grow false outcome earlier = omega arith

-- numbers that are left after a step were left before
pub left_before : {E : Type 0} → (last : Entry E) (past : List (Entry E)) (more : ℕ) → AreNumbersLeft more (last ∷ past) → AreNumbersLeft more past
left_before last past more left at =
    let now : length (numbers_or (same_side (side_of last.step) at) last.outcome (numbers_told at past)) + more < 2 ^ 64 = left at in
    omega (arith, now, told_grow (same_side (side_of last.step) at) last.outcome (numbers_told at past))

pub left_fewer : {E : Type 0} → (past : List (Entry E)) (more : ℕ) → 1 ≤ more → AreNumbersLeft more past → AreNumbersLeft 1 past
left_fewer past more some left at = omega (arith, some, left at)

-- where numbers are left after a step, its side gave not all before it, and told not all in it
pub few_left : {E : Type 0} → (last : Entry E) (past : List (Entry E)) (given : ℕ) → given ≤ length (numbers_told (side_of last.step) past) → AreNumbersLeft 1 (last ∷ past)
    → given + length (numbers_in last.outcome) < 2 ^ 64 - 1
few_left last past given least left =
    let at = side_of last.step in
    let earlier : List ℕ = numbers_told at past in
    let all : numbers_told at (last ∷ past) ≡ numbers_in last.outcome ++ earlier = ap (λ b. numbers_or b last.outcome earlier) (same_side-self at) in
    omega (arith, least, left at, ap length all, length-append (numbers_in last.outcome) earlier)

-- ---- the numbers that a step tells

ops_within : (m : Midway) (ops : List Op) (answers : List OpAnswer) (after : List LineRow) → OpsAnswered m ops answers after → length (numbers_answered answers) ≤ length ops
ops_within m [] [] after answered = omega arith
ops_within m (AddMedia kind dir ∷ ops) (Mid mid ∷ answers) after answered = let rest = ops_within (holding_mid mid m) ops answers after answered.1 in omega (arith, rest)
ops_within m (AddMedia kind dir ∷ ops) (OpAlloc ∷ []) after answered = omega arith
ops_within m (SetDirection place dir ∷ ops) (NoLine ∷ answers) after answered = let rest = ops_within m ops answers after answered.1 in omega (arith, rest)
ops_within m (SetDirection place dir ∷ ops) (Changed changed ∷ answers) after answered =
    let rest = ops_within (having_rows (changed_at (directed_row dir) place m.rows) m) ops answers after answered.1 in omega (arith, rest)
ops_within m (SetDirection place dir ∷ ops) (OpAlloc ∷ []) after answered = omega arith
ops_within m (StopMedia place ∷ ops) (NoLine ∷ answers) after answered = let rest = ops_within m ops answers after answered.1 in omega (arith, rest)
ops_within m (StopMedia place ∷ ops) (Changed changed ∷ answers) after answered =
    let rest = ops_within (having_rows (changed_at stopped_row place m.rows) m) ops answers after answered.1 in omega (arith, rest)
ops_within m (StopMedia place ∷ ops) (OpAlloc ∷ []) after answered = omega arith
ops_within m (AddChannel config ∷ ops) (Numbered id ∷ answers) after answered = let rest = ops_within (having_channel id config m) ops answers after answered.2 in omega (arith, rest)
ops_within m (AddChannel config ∷ ops) (BadChannel ∷ answers) after answered = let rest = ops_within m ops answers after answered.1 in omega (arith, rest)
ops_within m (AddChannel config ∷ ops) (OpAlloc ∷ []) after answered = omega arith
ops_within m (IceRestart keep ∷ ops) (Creds creds ∷ answers) after answered = let rest = ops_within m ops answers after answered in omega (arith, rest)
ops_within m (IceRestart keep ∷ ops) (OpAlloc ∷ []) after answered = omega arith
ops_within m ops answers after answered = absurd answered

-- acceptances tell none
offer_untold : {E : Type 0} → (glare : Bool) (sdp : Signalled) (view : Held) (next : ℕ) (outcome : Outcome E) (after : List LineRow) → RepliesToOffer glare sdp view next outcome after → numbers_in outcome ≡ []
offer_untold true NotMade view next (Negotiated answers made) after takes = absurd takes
offer_untold true (Unreadable line) view next (Negotiated answers made) after takes = absurd takes
offer_untold true (Readable sdp) view next (Negotiated answers made) after takes = absurd takes
offer_untold false NotMade view next (Negotiated answers made) after takes = absurd takes
offer_untold false (Unreadable line) view next (Negotiated answers made) after takes = absurd takes
offer_untold false (Readable sdp) view next (Negotiated answers made) after takes = absurd takes
offer_untold true NotMade view next (Polled outputs end) after takes = absurd takes
offer_untold true (Unreadable line) view next (Polled outputs end) after takes = absurd takes
offer_untold true (Readable sdp) view next (Polled outputs end) after takes = absurd takes
offer_untold false NotMade view next (Polled outputs end) after takes = absurd takes
offer_untold false (Unreadable line) view next (Polled outputs end) after takes = absurd takes
offer_untold false (Readable sdp) view next (Polled outputs end) after takes = absurd takes
offer_untold glare sdp view next (Answered k) after takes = refl
offer_untold glare sdp view next Finished after takes = refl
offer_untold glare sdp view next Done after takes = refl
offer_untold glare sdp view next (Wrote taken) after takes = refl
offer_untold glare sdp view next (Refused error) after takes = refl
offer_untold glare sdp view next NoSuch after takes = refl
offer_untold glare sdp view next Alloc after takes = refl

answer_untold : {E : Type 0} → (held right : Bool) (asked : Asked) (sdp : Signalled) (view : Held) (outcome : Outcome E) (after : List LineRow) → RepliesToAnswer held right asked sdp view outcome after → numbers_in outcome ≡ []
answer_untold false right asked sdp view (Negotiated answers made) after takes = absurd takes
answer_untold true right asked NotMade view (Negotiated answers made) after takes = absurd takes
answer_untold true right asked (Unreadable line) view (Negotiated answers made) after takes = absurd takes
answer_untold true false asked (Readable sdp) view (Negotiated answers made) after takes = absurd takes
answer_untold true true asked (Readable sdp) view (Negotiated answers made) after takes = absurd takes
answer_untold false right asked sdp view (Polled outputs end) after takes = absurd takes
answer_untold true right asked NotMade view (Polled outputs end) after takes = absurd takes
answer_untold true right asked (Unreadable line) view (Polled outputs end) after takes = absurd takes
answer_untold true false asked (Readable sdp) view (Polled outputs end) after takes = absurd takes
answer_untold true true asked (Readable sdp) view (Polled outputs end) after takes = absurd takes
answer_untold held right asked sdp view (Answered k) after takes = refl
answer_untold held right asked sdp view Finished after takes = refl
answer_untold held right asked sdp view Done after takes = refl
answer_untold held right asked sdp view (Wrote taken) after takes = refl
answer_untold held right asked sdp view (Refused error) after takes = refl
answer_untold held right asked sdp view NoSuch after takes = refl
answer_untold held right asked sdp view Alloc after takes = refl

none_told : {E : Type 0} → (outcome : Outcome E) (n : ℕ) → numbers_in outcome ≡ [] → length (numbers_in outcome) + 1 ≤ 1 + n
none_told outcome n none = omega (arith, ap length none)

-- a step that negotiates tells fewer numbers than its size
pub told_within : {E : Type 0} → (fresh between : Stances) (past : List (Entry E)) (step : Step) (outcome : Outcome E) (table : Option Table) (made : List MadeSdp) → negotiates step ≡ true
    → IsSound fresh past between step outcome table made → length (numbers_in outcome) + 1 ≤ step_size step
told_within fresh between past (Negotiate at ops apply) Alloc None made negotiating sound = omega arith
told_within fresh between past (Negotiate at ops apply) (Negotiated answers what) (Some table) made negotiating sound =
    let some = ops_within (at_first (between at) at past (new_app table.lines made)) ops answers table.lines sound.0 in omega (arith, some)
told_within fresh between past (AcceptOffer at k) Alloc None made negotiating sound = omega arith
told_within fresh between past (AcceptOffer at k) outcome (Some table) made negotiating sound =
    none_told outcome 0 (offer_untold (is_glare_at fresh at past) (remote_sdp true at k past) _ _ outcome table.lines (offer_taking fresh between past at k outcome table made sound))
told_within fresh between past (AcceptAnswer at t a) Alloc None made negotiating sound = omega arith
told_within fresh between past (AcceptAnswer at t a) outcome (Some table) made negotiating sound =
    none_told outcome 0 (answer_untold (holds_token at t past) (is_right at t past) (asked_in at t past) (remote_sdp false at a past) _ outcome table.lines (answer_taking fresh between past at t a outcome table made sound))
told_within fresh between past (Time at now) outcome table made negotiating sound = absurd (cc)
told_within fresh between past (Datagram at packet now) outcome table made negotiating sound = absurd (cc)
told_within fresh between past (Poll at) outcome table made negotiating sound = absurd (cc)
told_within fresh between past (Drain at) outcome table made negotiating sound = absurd (cc)
told_within fresh between past (Write at channel binary bytes) outcome table made negotiating sound = absurd (cc)
told_within fresh between past (CloseChannel at channel) outcome table made negotiating sound = absurd (cc)
told_within fresh between past (Close at) outcome table made negotiating sound = absurd (cc)
told_within fresh between past (Rollback at t) outcome table made negotiating sound = absurd (cc)
told_within fresh between past (ForeignOffer at text) outcome table made negotiating sound = absurd (cc)
told_within fresh between past (ForeignAnswer at t text) outcome table made negotiating sound = absurd (cc)
told_within fresh between past (Raw at bytes now) outcome table made negotiating sound = absurd (cc)
told_within fresh between past step outcome table made negotiating sound = absurd sound

-- ---- channels that every peer makes

unclaimed : (settled : Option ℕ) (rows : List Channel) → not (is_some settled) ≡ true → claims_again settled rows ≡ false
unclaimed None rows none = refl
unclaimed (Some stream) rows none = absurd (cc)

-- a channel that every peer makes is not refused, while numbers are left
fine_channel : (held : Channels) (config : ChannelConfig) → is_in_band config ≡ true → held.given < 2 ^ 64 - 1 → is_bad_channel held config ≡ false
fine_channel held config band few =
    let parts = and_parts (not (is_some config.negotiated)) (not (is_overlong config.label) && not (is_overlong config.protocol)) band in
    let texts = and_parts (not (is_overlong config.label)) (not (is_overlong config.protocol)) parts.1 in
    let left : (held.given == 2 ^ 64 - 1) ≡ false = ne_eqb held.given (2 ^ 64 - 1) (λ e. omega arith) in
    or_from (is_overlong config.label) _ (not-true (is_overlong config.label) texts.0)
    (or_from (is_overlong config.protocol) _ (not-true (is_overlong config.protocol) texts.1) (or_from (claims_again config.negotiated held.rows) _ (unclaimed config.negotiated held.rows parts.0) left))

band_is : (band : Bool) → not band ≡ false → band ≡ true
band_is true plain = refl
band_is false plain = absurd (cc)

-- no channel of ops in order is refused
pub ops_fine : (m : Midway) (ops : List Op) (answers : List OpAnswer) (after : List LineRow) → OpsAnswered m ops answers after → do_add_odd_channel ops ≡ false → m.channels.given + length (numbers_answered answers) < 2 ^ 64 - 1 → AreFine answers
ops_fine m [] [] after answered plain few = refl
ops_fine m (AddMedia kind dir ∷ ops) (Mid mid ∷ answers) after answered plain few = ops_fine (holding_mid mid m) ops answers after answered.1 plain few
ops_fine m (AddMedia kind dir ∷ ops) (OpAlloc ∷ []) after answered plain few = refl
ops_fine m (SetDirection place dir ∷ ops) (NoLine ∷ answers) after answered plain few = ops_fine m ops answers after answered.1 plain few
ops_fine m (SetDirection place dir ∷ ops) (Changed changed ∷ answers) after answered plain few = ops_fine (having_rows (changed_at (directed_row dir) place m.rows) m) ops answers after answered.1 plain few
ops_fine m (SetDirection place dir ∷ ops) (OpAlloc ∷ []) after answered plain few = refl
ops_fine m (StopMedia place ∷ ops) (NoLine ∷ answers) after answered plain few = ops_fine m ops answers after answered.1 plain few
ops_fine m (StopMedia place ∷ ops) (Changed changed ∷ answers) after answered plain few = ops_fine (having_rows (changed_at stopped_row place m.rows) m) ops answers after answered.1 plain few
ops_fine m (StopMedia place ∷ ops) (OpAlloc ∷ []) after answered plain few = refl
ops_fine m (AddChannel config ∷ ops) (Numbered id ∷ answers) after answered plain few =
    ops_fine (having_channel id config m) ops answers after answered.2 (or_parts (not (is_in_band config)) (do_add_odd_channel ops) plain).1 (omega arith)
ops_fine m (AddChannel config ∷ ops) (BadChannel ∷ answers) after answered plain few =
    let parts = or_parts (not (is_in_band config)) (do_add_odd_channel ops) plain in
    absurd (both_ways (is_bad_channel m.channels config) (fine_channel m.channels config (band_is (is_in_band config) parts.0) (omega (arith, few))) answered.0)
ops_fine m (AddChannel config ∷ ops) (OpAlloc ∷ []) after answered plain few = refl
ops_fine m (IceRestart keep ∷ ops) (Creds creds ∷ answers) after answered plain few = ops_fine m ops answers after answered plain few
ops_fine m (IceRestart keep ∷ ops) (OpAlloc ∷ []) after answered plain few = refl
ops_fine m ops answers after answered plain few = absurd answered
