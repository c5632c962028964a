-- A demo finishes each of its rounds, where no reply tells that memory ran out or that a part failed.
use Rattle.std.proofs.Common.{◌≡◌, ◌+◌, ◌*◌, ◌<◌, ◌≤◌, ◌^◌, ℕ, zero, suc, Bool, true, false, ◌&&◌, ◌||◌, List, [], ◌∷◌, ◌++◌, length, Option, Some, None, cond, refl, sym, ap, ◌∙◌, arith, length-append}
use Rattle.std.specs.Prelude.{is_some}
use Rattle.std.specs.List.{list_any, list_all}
use Rattle.std.proofs.lemmas.Bool.{or_parts, and_parts}
use Rattle.std.proofs.lemmas.List.Folds.{list_any-append, list_all-append}
use Rattle.std.proofs.lemmas.List.Sums.{sum_by-append}
use Rattle.rtc_change.specs.Held.{Held, Asked}
use Rattle.rtc_peer_core.specs.Meanings.{Meanings}
use Rattle.rtc_sdp_values.specs.declared.line_row.LineRow.{LineRow}
use Rattle.rtc_run_history.specs.Signalled.{Signalled, NotMade, Unreadable, Readable}
use Rattle.rtc_run_history.specs.Views.{AreFormed}
use Rattle.rtc_run_history.specs.Memory.{lacks_memory, outcome_lacks, tells_fault, tell_fault, fails}
use Rattle.rtc_run_history.specs.Orderly.{Course, course_of, are_orderly, has_failed, can_connect, is_ok, negotiates, AreNumbersLeft}
use Rattle.rtc_run_history.specs.PairState.{PairState, stances_of}
use Rattle.rtc_run_history.specs.Past.{Entry, MadeSdp, steps_of, replies_of, reply_of, remote_sdp, holds_token, is_right, numbers_in, numbers_told, numbers_or}
use Rattle.rtc_run_history.specs.Native.{are_native, is_native}
use Rattle.rtc_run_history.specs.Runs.{Went, EntersSoundly, Runs}
use Rattle.rtc_run_history.specs.Sides.{same_side, side_of}
use Rattle.rtc_run_history.specs.Sizes.{step_size, steps_size}
use Rattle.rtc_run_history.specs.Sound.{IsSound, RepliesToOffer, RepliesToAnswer, asked_in, is_glare_at}
use Rattle.rtc_run_history.specs.SoundEntry.{IsSoundEntry}
use Rattle.rtc_run_history.specs.Views.{Stances}
use Rattle.rtc_run_history.specs.declared.outcome.Outcome.{Outcome}
use Rattle.rtc_run_history.specs.declared.outcome.Outcome.TheVariants.{Negotiated, Answered, Finished, Done, Wrote, Polled, Refused, NoSuch, Alloc}
use Rattle.rtc_run_history.specs.declared.reply.Reply.{Reply}
use Rattle.rtc_run_history.specs.declared.side.Side.{Side}
use Rattle.rtc_run_history.specs.declared.step.Step.{Step}
use Rattle.rtc_run_history.specs.declared.step.Step.TheVariants.{Negotiate, AcceptOffer, AcceptAnswer, Time, Datagram, Poll, Drain}
use Rattle.rtc_run_history.specs.declared.step.Step.TheVariants.{Write, CloseChannel, Close, Rollback, ForeignOffer, ForeignAnswer, Raw}
use Rattle.rtc_run_history.specs.declared.table.Table.{Table}
use Rattle.rtc_run_laws.proofs.ChannelCounts.{steps_size-append, told_within}
use Rattle.rtc_run_laws.proofs.OrderlyPasts.{next_of, follow_last}
use Rattle.rtc_run_laws.proofs.Takings.{offer_taking, answer_taking}
use Rattle.rtc_demo.specs.DemoCounts.{tells_finished, count_finished}
use Rattle.rtc_demo.specs.DemoSteps.{round_steps, demo_steps}
use Rattle.rtc_demo.proofs.OrderlyDemos.{demo_orderly, demo_size}
use Rattle.rtc_demo.proofs.RoundForms.{RoundForm, round_form}

-- whether a step accepts an answer
abbrev accepts_answer : Step → Bool
accepts_answer (Negotiate at ops apply) = false
accepts_answer (AcceptOffer at offer) = false
accepts_answer (AcceptAnswer at token answer) = true
accepts_answer (Time at now) = false
accepts_answer (Datagram at packet now) = false
accepts_answer (Poll at) = false
accepts_answer (Drain at) = false
accepts_answer (Write at channel binary bytes) = false
accepts_answer (CloseChannel at channel) = false
accepts_answer (Close at) = false
accepts_answer (Rollback at token) = false
accepts_answer (ForeignOffer at text) = false
accepts_answer (ForeignAnswer at token text) = true
accepts_answer (Raw at bytes now) = false

-- how many steps do
abbrev answers_in : List Step → ℕ
answers_in [] = 0
answers_in (step ∷ steps) = cond (accepts_answer step) 1 0 + answers_in steps

answers_in_both : (steps more : List Step) → answers_in (steps ++ more) ≡ answers_in steps + answers_in more
answers_in_both [] more = omega arith
answers_in_both (step ∷ steps) more = omega (arith, answers_in_both steps more)

-- ---- a step that negotiates, and succeeded

offer_unfinished : {E : Type 0} → (glare : Bool) (sdp : Signalled) (view : Held) (next : ℕ) (outcome : Outcome E) (after : List LineRow) → RepliesToOffer glare sdp view next outcome after → tells_finished outcome ≡ false
offer_unfinished false NotMade view next Finished after takes = absurd takes
offer_unfinished false (Unreadable line) view next Finished after takes = absurd takes
offer_unfinished false (Readable sdp) view next Finished after takes = absurd takes
offer_unfinished true NotMade view next Finished after takes = absurd takes
offer_unfinished true (Unreadable line) view next Finished after takes = absurd takes
offer_unfinished true (Readable sdp) view next Finished after takes = absurd takes
offer_unfinished glare sdp view next (Negotiated answers made) after takes = refl
offer_unfinished glare sdp view next (Answered k) after takes = refl
offer_unfinished glare sdp view next Done after takes = refl
offer_unfinished glare sdp view next (Wrote taken) after takes = refl
offer_unfinished glare sdp view next (Polled outputs end) after takes = refl
offer_unfinished glare sdp view next (Refused error) after takes = refl
offer_unfinished glare sdp view next NoSuch after takes = refl
offer_unfinished glare sdp view next Alloc after takes = refl

-- an acceptance of an answer is answered by no other Ok
answer_finished : {E : Type 0} → (held right : Bool) (asked : Asked) (sdp : Signalled) (view : Held) (outcome : Outcome E) (after : List LineRow) → RepliesToAnswer held right asked sdp view outcome after → is_ok outcome ≡ true → tells_finished outcome ≡ true
answer_finished held right asked sdp view Finished after takes fine = refl
answer_finished held right asked sdp view (Refused error) after takes fine = absurd (cc)
answer_finished held right asked sdp view NoSuch after takes fine = absurd (cc)
answer_finished held right asked sdp view Alloc after takes fine = absurd (cc)
answer_finished false right asked sdp view (Negotiated answers made) after takes fine = absurd takes
answer_finished true right asked NotMade view (Negotiated answers made) after takes fine = absurd takes
answer_finished true right asked (Unreadable line) view (Negotiated answers made) after takes fine = absurd takes
answer_finished true false asked (Readable sdp) view (Negotiated answers made) after takes fine = absurd takes
answer_finished true true asked (Readable sdp) view (Negotiated answers made) after takes fine = absurd takes
answer_finished false right asked sdp view (Answered k) after takes fine = absurd takes
answer_finished true right asked NotMade view (Answered k) after takes fine = absurd takes
answer_finished true right asked (Unreadable line) view (Answered k) after takes fine = absurd takes
answer_finished true false asked (Readable sdp) view (Answered k) after takes fine = absurd takes
answer_finished true true asked (Readable sdp) view (Answered k) after takes fine = absurd takes
answer_finished false right asked sdp view Done after takes fine = absurd takes
answer_finished true right asked NotMade view Done after takes fine = absurd takes
answer_finished true right asked (Unreadable line) view Done after takes fine = absurd takes
answer_finished true false asked (Readable sdp) view Done after takes fine = absurd takes
answer_finished true true asked (Readable sdp) view Done after takes fine = absurd takes
answer_finished false right asked sdp view (Wrote taken) after takes fine = absurd takes
answer_finished true right asked NotMade view (Wrote taken) after takes fine = absurd takes
answer_finished true right asked (Unreadable line) view (Wrote taken) after takes fine = absurd takes
answer_finished true false asked (Readable sdp) view (Wrote taken) after takes fine = absurd takes
answer_finished true true asked (Readable sdp) view (Wrote taken) after takes fine = absurd takes
answer_finished false right asked sdp view (Polled outputs end) after takes fine = absurd takes
answer_finished true right asked NotMade view (Polled outputs end) after takes fine = absurd takes
answer_finished true right asked (Unreadable line) view (Polled outputs end) after takes fine = absurd takes
answer_finished true false asked (Readable sdp) view (Polled outputs end) after takes fine = absurd takes
answer_finished true true asked (Readable sdp) view (Polled outputs end) after takes fine = absurd takes

-- it tells Finished exactly where it accepts an answer
ok_finished : {E : Type 0} → (fresh between : Stances) (past : List (Entry E)) (step : Step) (outcome : Outcome E) (table : Option Table) (made : List MadeSdp) → negotiates step ≡ true
    → IsSound fresh past between step outcome table made → is_ok outcome ≡ true → tells_finished outcome ≡ accepts_answer step
ok_finished fresh between past (Negotiate at ops apply) Alloc None made negotiating sound fine = absurd (cc)
ok_finished fresh between past (Negotiate at ops apply) (Negotiated answers what) (Some table) made negotiating sound fine = refl
ok_finished fresh between past (AcceptOffer at k) Alloc None made negotiating sound fine = absurd (cc)
ok_finished fresh between past (AcceptOffer at k) outcome (Some table) made negotiating sound fine =
    offer_unfinished (is_glare_at fresh at past) (remote_sdp true at k past) _ _ outcome table.lines (offer_taking fresh between past at k outcome table made sound)
ok_finished fresh between past (AcceptAnswer at t a) Alloc None made negotiating sound fine = absurd (cc)
ok_finished fresh between past (AcceptAnswer at t a) outcome (Some table) made negotiating sound fine =
    answer_finished (holds_token at t past) (is_right at t past) (asked_in at t past) (remote_sdp false at a past) _ outcome table.lines (answer_taking fresh between past at t a outcome table made sound) fine
ok_finished fresh between past (Time at now) outcome table made negotiating sound fine = absurd (cc)
ok_finished fresh between past (Datagram at packet now) outcome table made negotiating sound fine = absurd (cc)
ok_finished fresh between past (Poll at) outcome table made negotiating sound fine = absurd (cc)
ok_finished fresh between past (Drain at) outcome table made negotiating sound fine = absurd (cc)
ok_finished fresh between past (Write at channel binary bytes) outcome table made negotiating sound fine = absurd (cc)
ok_finished fresh between past (CloseChannel at channel) outcome table made negotiating sound fine = absurd (cc)
ok_finished fresh between past (Close at) outcome table made negotiating sound fine = absurd (cc)
ok_finished fresh between past (Rollback at token) outcome table made negotiating sound fine = absurd (cc)
ok_finished fresh between past (ForeignOffer at text) outcome table made negotiating sound fine = absurd (cc)
ok_finished fresh between past (ForeignAnswer at token text) outcome table made negotiating sound fine = absurd (cc)
ok_finished fresh between past (Raw at bytes now) outcome table made negotiating sound fine = absurd (cc)
ok_finished fresh between past step outcome table made negotiating sound fine = absurd sound

-- ---- pasts

-- a list whose last step is in order was so before
orderly_before : (steps : List Step) (step : Step) → are_orderly (steps ++ step ∷ []) ≡ true → are_orderly steps ≡ true
orderly_before steps step orderly = by (course_of steps) (sym (ap is_some (follow_last _ steps step)) ∙ orderly)
  where
    by : (course : Option Course) → is_some (next_of course step) ≡ true → is_some course ≡ true
    by None is = absurd (cc)
    by (Some course) is = refl

numbers_grow : {E : Type 0} → (here : Bool) (outcome : Outcome E) (earlier : List ℕ) → length (numbers_or here outcome earlier) ≤ length (numbers_in outcome) + length earlier
numbers_grow true outcome earlier = omega (arith, length-append (numbers_in outcome) earlier)
numbers_grow false outcome earlier = omega arith

-- one of the two tells an Ok
ok_unfailed : (fine failed : Bool) → (fine || failed) ≡ true → failed ≡ false → fine ≡ true
ok_unfailed true failed either none = refl
ok_unfailed false true either none = absurd (cc)
ok_unfailed false false either none = absurd (cc)

unfailed : {E : Type 0} → (past : List (Entry E)) → list_any lacks_memory (replies_of past) ≡ false → tell_fault (replies_of past) ≡ false → has_failed past ≡ false
unfailed [] enough whole = refl
unfailed (last ∷ past) enough whole =
    let lacking = or_parts (list_any lacks_memory (replies_of past)) (list_any lacks_memory (reply_of last ∷ [])) (sym (list_any-append lacks_memory (replies_of past) (reply_of last ∷ [])) ∙ enough) in
    let failing = or_parts (tell_fault (replies_of past)) (tell_fault (reply_of last ∷ [])) (sym (list_any-append (λ reply. tells_fault reply.outcome) (replies_of past) (reply_of last ∷ [])) ∙ whole) in
    both (outcome_lacks last.outcome) (tells_fault last.outcome) (has_failed past) lacking.1 failing.1 (unfailed past lacking.0 failing.0)
  where
    both : (a b c : Bool) → (a || false) ≡ false → (b || false) ≡ false → c ≡ false → ((a || b) || c) ≡ false
    both false false c one two three = three
    both true b c one two three = absurd (cc)
    both false true c one two three = absurd (cc)

module _ {I D S M E X T W N : Type 0} (m : Meanings I D S M E X T W N) (stun : List ℕ → Bool) where
  abbrev GoesThrough : PairState I D S M N → List (Entry E) → PairState I D S M N → Type 0
  GoesThrough start past pair = Went (EntersSoundly m stun start) (λ fresh. fresh ≡ start) past pair

  -- a side tells fewer channel numbers than the size of the steps
  numbers_within : (start : PairState I D S M N) (past : List (Entry E)) (pair : PairState I D S M N) → GoesThrough start past pair → list_all negotiates (steps_of past) ≡ true
      → (at : Side) → length (numbers_told at past) ≤ steps_size (steps_of past)
  numbers_within start [] pair went all at = omega arith
  numbers_within start (last ∷ past) pair went all at =
      let parts = and_parts (list_all negotiates (steps_of past)) (negotiates last.step && true) (sym (list_all-append negotiates (steps_of past) (last.step ∷ [])) ∙ all) in
      let here = and_parts (negotiates last.step) true parts.1 in
      let sound : IsSoundEntry (stances_of m start) past (stances_of m went.0) last (stances_of m pair) = went.2.1 in
      let some = told_within (stances_of m start) (stances_of m went.0) past last.step last.outcome last.table last.made here.0 sound.replied in
      let earlier = numbers_within start past went.0 went.1 parts.0 at in
      omega (arith, some, earlier, numbers_grow (same_side (side_of last.step) at) last.outcome (numbers_told at past), steps_size-append (steps_of past) last.step)

  -- as many replies tell Finished as steps accept an answer
  run_finishes : (start : PairState I D S M N) (past : List (Entry E)) (pair : PairState I D S M N) → AreFormed (stances_of m start) → can_connect (stances_of m start) ≡ true → GoesThrough start past pair → list_all negotiates (steps_of past) ≡ true
      → are_orderly (steps_of past) ≡ true → has_failed past ≡ false → steps_size (steps_of past) < 2 ^ 64 → count_finished (replies_of past) ≡ answers_in (steps_of past)
  run_finishes start [] pair formed connect went all orderly whole small = refl
  run_finishes start (last ∷ past) pair formed connect went all orderly whole small =
      let parts = and_parts (list_all negotiates (steps_of past)) (negotiates last.step && true) (sym (list_all-append negotiates (steps_of past) (last.step ∷ [])) ∙ all) in
      let here = and_parts (negotiates last.step) true parts.1 in
      let failing = or_parts (fails last.outcome) (has_failed past) whole in
      let size = steps_size-append (steps_of past) last.step in
      let sound : IsSoundEntry (stances_of m start) past (stances_of m went.0) last (stances_of m pair) = went.2.1 in
      let left : AreNumbersLeft (step_size last.step) past = λ at. omega (arith, size, small, numbers_within start past went.0 went.1 parts.0 at) in
      let fine : is_ok last.outcome ≡ true = ok_unfailed (is_ok last.outcome) (fails last.outcome) (sound.orderly formed here.0 connect orderly failing.1 left) failing.0 in
      let finished : tells_finished last.outcome ≡ accepts_answer last.step = ok_finished (stances_of m start) (stances_of m went.0) past last.step last.outcome last.table last.made here.0 sound.replied fine in
      let earlier = run_finishes start past went.0 formed connect went.1 parts.0 (orderly_before (steps_of past) last.step orderly) failing.1 (omega (arith, size, small)) in
      let both = sum_by-append (λ reply. cond (tells_finished reply.outcome) 1 0) (replies_of past) (reply_of last ∷ []) in
      let one : ◌≡◌ {A = ℕ} (cond (tells_finished last.outcome) 1 0) (cond (accepts_answer last.step) 1 0) = ap (λ (b : Bool). cond {A = ℕ} b 1 0) finished in
      omega (arith, both, one, earlier, answers_in_both (steps_of past) (last.step ∷ []))

-- ---- demos

round_negotiates : (steps : List Step) (round : ℕ) → RoundForm steps round → list_all negotiates steps ≡ true
round_negotiates steps round form = ap (list_all negotiates) form.are

demo_negotiates : (rounds seed : ℕ) → rounds ≤ 100 → list_all negotiates (demo_steps rounds seed) ≡ true
demo_negotiates zero seed few = refl
demo_negotiates (suc rounds) seed few =
    list_all-append negotiates (demo_steps rounds seed) (round_steps seed rounds)
    ∙ rw (demo_negotiates rounds seed (omega arith), round_negotiates (round_steps seed rounds) rounds (round_form seed rounds (omega arith))) refl

-- a step that negotiates brings nothing foreign in, and rolls nothing back
negotiating_native : (step : Step) → negotiates step ≡ true → is_native step ≡ true
negotiating_native (Negotiate at ops apply) negotiating = refl
negotiating_native (AcceptOffer at offer) negotiating = refl
negotiating_native (AcceptAnswer at token answer) negotiating = refl
negotiating_native (Time at now) negotiating = absurd (cc)
negotiating_native (Datagram at packet now) negotiating = absurd (cc)
negotiating_native (Poll at) negotiating = absurd (cc)
negotiating_native (Drain at) negotiating = absurd (cc)
negotiating_native (Write at channel binary bytes) negotiating = absurd (cc)
negotiating_native (CloseChannel at channel) negotiating = absurd (cc)
negotiating_native (Close at) negotiating = absurd (cc)
negotiating_native (Rollback at token) negotiating = absurd (cc)
negotiating_native (ForeignOffer at text) negotiating = absurd (cc)
negotiating_native (ForeignAnswer at token text) negotiating = absurd (cc)
negotiating_native (Raw at bytes now) negotiating = absurd (cc)

all_native : (steps : List Step) → list_all negotiates steps ≡ true → are_native steps ≡ true
all_native [] all = refl
all_native (step ∷ steps) all =
    let both = and_parts (negotiates step) (list_all negotiates steps) all in
    rw (negotiating_native step both.0, all_native steps both.1) refl

-- so do the steps of a demo
pub demo_native : (rounds seed : ℕ) → rounds ≤ 100 → are_native (demo_steps rounds seed) ≡ true
demo_native rounds seed few = all_native (demo_steps rounds seed) (demo_negotiates rounds seed few)

demo_answers : (rounds seed : ℕ) → rounds ≤ 100 → answers_in (demo_steps rounds seed) ≡ rounds
demo_answers zero seed few = refl
demo_answers (suc rounds) seed few =
    let form : RoundForm (round_steps seed rounds) rounds = round_form seed rounds (omega arith) in
    let one : answers_in (round_steps seed rounds) ≡ 1 = ap answers_in form.are in
    omega (arith, one, answers_in_both (demo_steps rounds seed) (round_steps seed rounds), demo_answers rounds seed (omega arith))

-- In a run of a demo, of a pair that can connect, as many replies tell Finished as there are rounds.
pub demo_finishes : {I D S M E X T W N : Type 0} → (m : Meanings I D S M E X T W N) (stun : List ℕ → Bool) (start : PairState I D S M N) (rounds seed : ℕ) (replies : List (Reply E)) (pair : PairState I D S M N) → rounds ≤ 100
    → AreFormed (stances_of m start) → can_connect (stances_of m start) ≡ true → Runs m stun start (demo_steps rounds seed) replies pair → list_any lacks_memory replies ≡ false → tell_fault replies ≡ false → count_finished replies ≡ rounds
demo_finishes m stun start rounds seed replies pair few formed connect runs enough whole =
    let steps = runs.steps_are in
    let size : steps_size (demo_steps rounds seed) ≤ 5 * rounds = demo_size rounds seed few in
    let are : replies_of runs.past ≡ replies = runs.replies_are in
    let small : steps_size (steps_of runs.past) < 2 ^ 64 = rw steps (omega (arith, size, few)) in
    let finished = run_finishes m stun start runs.past pair formed connect runs.went (ap (list_all negotiates) steps ∙ demo_negotiates rounds seed few) (ap are_orderly steps ∙ demo_orderly rounds seed few)
    (unfailed runs.past (rw are enough) (rw are whole)) small in
    sym (ap count_finished are) ∙ finished ∙ ap answers_in steps ∙ demo_answers rounds seed few
