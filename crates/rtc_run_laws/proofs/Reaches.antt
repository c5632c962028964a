-- What the past of a pair says of it that is reached by its steps.
use Rattle.std.proofs.Common.{◌≡◌, ◌<◌, ◌+◌, ◌^◌, ℕ, List, [], ◌∷◌, length, Bool, true, false, Option, Some, None, refl, sym, ◌∙◌, ap, arith}
use Rattle.std.specs.Prelude.{slice_get, is_some}
use Rattle.std.proofs.lemmas.List.Elements.{All-nil}
use Rattle.rtc_channels.specs.Channels.{no_channels}
use Rattle.rtc_sctp_values.specs.InitHalves.{remote_text}
use Rattle.rtc_sctp_values.specs.SnapHalves.{text_in}
use Rattle.rtc_peer_rows.specs.Table.{IsTable}
use Rattle.rtc_peer_core.specs.Stance.{Stance, held_by}
use Rattle.rtc_peer_core.specs.Glare.{meets_glare}
use Rattle.rtc_run_history.specs.declared.side.Side.{Side}
use Rattle.rtc_run_history.specs.declared.step.Step.{Step}
use Rattle.rtc_run_history.specs.declared.step.Step.TheVariants.{Negotiate, AcceptOffer, AcceptAnswer, Time, Datagram, Poll, Drain, Write, CloseChannel, Close, Rollback, ForeignOffer, ForeignAnswer, Raw}
use Rattle.rtc_run_history.specs.declared.outcome.Outcome.{Outcome}
use Rattle.rtc_run_history.specs.declared.table.Table.{Table}
use Rattle.rtc_run_history.specs.declared.kept.Kept.{Kept}
use Rattle.rtc_run_history.specs.Sides.{side_of}
use Rattle.rtc_run_history.specs.Sizes.{steps_size}
use Rattle.rtc_run_history.specs.Past.{Entry, MadeSdp, before, channels_shown, sdps, steps_of}
use Rattle.rtc_run_history.specs.Sound.{IsSound, is_glare_at}
use Rattle.rtc_run_history.specs.PairState.{kept_remote_sdp, held_token}
use Rattle.rtc_run_history.specs.Fresh.{IsJustBuilt}
use Rattle.rtc_run_history.specs.Views.{Stances, view_in}
use Rattle.rtc_run_history.specs.Signalled.{foreign}
use Rattle.rtc_run_laws.proofs.StanceSteps.{PairStance, StancePerforms, StanceEnters, made_by}
use Rattle.rtc_run_laws.proofs.StanceRuns.{IsFreshStance, StanceReached}
use Rattle.rtc_run_laws.proofs.Bounds.{IsWithin}
use Rattle.rtc_run_laws.proofs.ChannelCounts.{steps_size-append}
use Rattle.rtc_run_laws.proofs.Tells.{Tells, SideTells, ChannelsTell, within}
use Rattle.rtc_run_laws.proofs.Around.{Around, entry, size_grows, remote_sdp-told, length-told}
use Rattle.rtc_run_laws.proofs.Entries.{said_at}
use Rattle.rtc_run_laws.proofs.SeenSides.{SideSees, view_is}
use Rattle.rtc_run_laws.proofs.SeenSteps.{step_sees}
use Rattle.rtc_run_laws.proofs.NegotiateSteps.{negotiate_reply, negotiate_tells}
use Rattle.rtc_run_laws.proofs.OfferSteps.{MayTake, offer_sound, foreign_offer_sound}
use Rattle.rtc_run_laws.proofs.OfferTells.{offer_tells, hands_offer, hands_foreign as foreign_offer}
use Rattle.rtc_run_laws.proofs.AnswerSteps.{answer_sound, foreign_answer_sound}
use Rattle.rtc_run_laws.proofs.AnswerTells.{answer_tells, hands_answer, hands_foreign as foreign_answer}
use Rattle.rtc_run_laws.proofs.RollbackSteps.{rollback_reply, rollback_tells}
use Rattle.rtc_run_laws.proofs.Outstands.{Outstands, outstanding_is}
use Rattle.rtc_run_laws.proofs.UndoneSteps.{undone_is}
use Rattle.rtc_run_laws.proofs.Rests.{handled_rests, heard_rests, polled_rests, told_rests, rest_tells, written_rests, closed_rests}
use Rattle.rtc_run_laws.proofs.RestReplies.{lines_stay, time_reply, datagram_reply, poll_reply, drain_reply, close_reply, write_reply, close_channel_reply, raw_reply}

-- ---- one step

pub around_of : {E : Type 0} → (old new : PairStance) (step : Step) (outcome : Outcome E) (table : Option Table) (made : List MadeSdp)
    → StancePerforms old step outcome table new → made ≡ made_by old new → new.size < 2 ^ 32 → Around step made old new
around_of old new step outcome table made performs made_is small = record { other = performs.other; size = performs.size; small = small; made_is = made_is }

-- what is known of a side that may be handed an offer
may_take : {E : Type 0} → (fresh : Stances) (past : List (Entry E)) (at : Side) (old : PairStance) → Tells past old → SideSees fresh past at (old.sides at) → Outstands fresh past at (old.sides at) old.sdps
    → MayTake (is_glare_at fresh at past) (view_in fresh at past (held_by (old.sides at))) (length (sdps past)) (channels_shown at past) (old.sides at) old.sdps
may_take fresh past at old tells sees out = record {
  glare_is = sym (ap (λ (polite : Option Bool). meets_glare polite (old.sides at).outstanding) out.polite ∙ ap (meets_glare (fresh at).polite) (outstanding_is fresh past at old tells out));
  view_is = view_is fresh past at (old.sides at) (tells.sides at).rows sees;
  shown_is = sym (tells.sides at).channels.shown;
  next_is = length-told past old tells;
}

pub step_sound : {E : Type 0} → (fresh : Stances) (past : List (Entry E)) (old new : PairStance) (step : Step) (outcome : Outcome E) (table : Option Table)
    → Tells past old → ((at : Side) → SideSees fresh past at (old.sides at)) → IsTable (before (side_of step) past)
    → ((at : Side) → Outstands fresh past at (old.sides at) old.sdps) → StancePerforms old step outcome table new → new.size < 2 ^ 32 → IsSound fresh past old.sides step outcome table (made_by old new)
step_sound fresh past old new (Negotiate at ops apply) outcome table tells sees rows outs performs small =
    negotiate_reply fresh old.sides past at ops apply (old.sides at) (new.sides at) old.sdps new.sdps outcome table refl (sym (tells.sides at).rows) (tells.sides at).channels rows (length-told past old tells) performs.acts
step_sound fresh past old new (AcceptOffer at k) outcome table tells sees rows outs performs small =
    offer_sound fresh old.sides past at k (kept_remote_sdp true old.sdps at k) (old.sides at) (new.sides at) old.sdps new.sdps outcome table (made_by old new)
    (remote_sdp-told past old true at k tells) (may_take fresh past at old tells (sees at) (outs at)) performs.acts
step_sound fresh past old new (ForeignOffer at text) outcome table tells sees rows outs performs small =
    foreign_offer_sound fresh old.sides past at text (old.sides at) (new.sides at) old.sdps new.sdps outcome table (made_by old new) (may_take fresh past at old tells (sees at) (outs at)) performs.acts
step_sound fresh past old new (AcceptAnswer at t a) outcome table tells sees rows outs performs small =
    answer_sound fresh old.sides past at t a old.size (slice_get old.sdps t) (held_token old.sdps at t) (kept_remote_sdp false old.sdps at a) (old.sides at) (new.sides at) old.sdps new.sdps outcome table (made_by old new)
    refl ((tells.sides at).tokens t) (said_at past old t tells.says) (tells.sides at).counts (omega (arith, performs.size)) (remote_sdp-told past old false at a tells) (view_is fresh past at (old.sides at) (tells.sides at).rows (sees at)) (sym (tells.sides at).rows)
    (sym (tells.sides at).channels.shown) performs.acts
step_sound fresh past old new (ForeignAnswer at t text) outcome table tells sees rows outs performs small =
    foreign_answer_sound fresh old.sides past at t text old.size (slice_get old.sdps t) (held_token old.sdps at t) (old.sides at) (new.sides at) old.sdps new.sdps outcome table (made_by old new)
    refl ((tells.sides at).tokens t) (said_at past old t tells.says) (tells.sides at).counts (omega (arith, performs.size)) (view_is fresh past at (old.sides at) (tells.sides at).rows (sees at)) (sym (tells.sides at).rows)
    (sym (tells.sides at).channels.shown) performs.acts
step_sound fresh past old new (Rollback at t) outcome table tells sees rows outs performs small =
    rollback_reply fresh old.sides past at t old.size (slice_get old.sdps t) (held_token old.sdps at t) (old.sides at) (new.sides at) old.sdps new.sdps outcome table (made_by old new)
    refl ((tells.sides at).tokens t) (tells.sides at).counts (omega (arith, performs.size)) (sym (tells.sides at).rows) (sym (tells.sides at).channels.shown)
    (undone_is fresh past at t (held_token old.sdps at t) old refl tells (outs at)) performs.acts
step_sound fresh past old new (Raw at bytes now) outcome table tells sees rows outs performs small =
    raw_reply fresh old.sides past at bytes now (old.sides at) (new.sides at) outcome table (made_by old new) (sym (tells.sides at).rows) (lines_stay (old.sides at) (new.sides at) performs.acts.peer) performs.acts.told
step_sound fresh past old new (Time at now) outcome table tells sees rows outs performs small =
    time_reply fresh old.sides past at now (old.sides at) (new.sides at) outcome table (made_by old new) (sym (tells.sides at).rows) (lines_stay (old.sides at) (new.sides at) performs.acts.peer) performs.acts.told
step_sound fresh past old new (Datagram at packet now) outcome table tells sees rows outs performs small =
    datagram_reply fresh old.sides past at packet now (old.sides at) (new.sides at) outcome table (made_by old new) (sym (tells.sides at).rows) (lines_stay (old.sides at) (new.sides at) performs.acts.peer) performs.acts.told
step_sound fresh past old new (Poll at) outcome table tells sees rows outs performs small =
    poll_reply fresh old.sides past at (old.sides at) (new.sides at) outcome table (made_by old new) (sym (tells.sides at).rows) (lines_stay (old.sides at) (new.sides at) performs.acts.peer) performs.acts.told
step_sound fresh past old new (Drain at) outcome table tells sees rows outs performs small =
    drain_reply fresh old.sides past at (old.sides at) (new.sides at) outcome table (made_by old new) (sym (tells.sides at).rows) (lines_stay (old.sides at) (new.sides at) performs.acts.peer) performs.acts.told
step_sound fresh past old new (Write at channel binary bytes) outcome table tells sees rows outs performs small =
    write_reply fresh old.sides past at channel binary bytes (old.sides at) (new.sides at) outcome table (made_by old new) (sym (tells.sides at).rows) (lines_stay (old.sides at) (new.sides at) performs.acts.peer) performs.acts.told
step_sound fresh past old new (CloseChannel at channel) outcome table tells sees rows outs performs small =
    close_channel_reply fresh old.sides past at channel (old.sides at) (new.sides at) outcome table (made_by old new) (sym (tells.sides at).rows) (lines_stay (old.sides at) (new.sides at) performs.acts.peer) performs.acts.told
step_sound fresh past old new (Close at) outcome table tells sees rows outs performs small =
    close_reply fresh old.sides past at (old.sides at) (new.sides at) outcome table (made_by old new) (sym (tells.sides at).rows) (lines_stay (old.sides at) (new.sides at) performs.acts.peer) performs.acts.told

pub step_tells : {E : Type 0} → (past : List (Entry E)) (old new : PairStance) (step : Step) (outcome : Outcome E) (table : Option Table) (made : List MadeSdp)
    → Tells past old → StancePerforms old step outcome table new → Around step made old new → Tells (entry step outcome table made ∷ past) new
step_tells past old new (Negotiate at ops apply) outcome table made tells performs around =
    negotiate_tells past at ops apply old new outcome table made performs.acts around tells
step_tells {E} past old new (AcceptOffer at k) outcome table made tells performs around =
    offer_tells past (AcceptOffer at k) (kept_remote_sdp true old.sdps at k) old new outcome table made (hands_offer E at k) performs.acts around tells
step_tells {E} past old new (ForeignOffer at text) outcome table made tells performs around =
    offer_tells past (ForeignOffer at text) (foreign text) old new outcome table made (foreign_offer E at text) performs.acts around tells
step_tells {E} past old new (AcceptAnswer at t a) outcome table made tells performs around =
    answer_tells past (AcceptAnswer at t a) t (held_token old.sdps at t) (kept_remote_sdp false old.sdps at a) old new outcome table made (hands_answer E at t a) refl performs.acts around tells
step_tells {E} past old new (ForeignAnswer at t text) outcome table made tells performs around =
    answer_tells past (ForeignAnswer at t text) t (held_token old.sdps at t) (foreign text) old new outcome table made (foreign_answer E at t text) refl performs.acts around tells
step_tells past old new (Rollback at t) outcome table made tells performs around =
    rollback_tells past at t (held_token old.sdps at t) old new outcome table made refl performs.acts around tells
step_tells past old new (Raw at bytes now) outcome table made tells performs around = rest_tells past (Raw at bytes now) outcome table made old new _ tt (told_rests _ (old.sides at) outcome table (new.sides at) handled_rests performs.acts.told) performs.acts around tells
step_tells past old new (Time at now) outcome table made tells performs around = rest_tells past (Time at now) outcome table made old new _ tt (told_rests _ (old.sides at) outcome table (new.sides at) handled_rests performs.acts.told) performs.acts around tells
step_tells past old new (Datagram at packet now) outcome table made tells performs around = rest_tells past (Datagram at packet now) outcome table made old new _ tt (told_rests _ (old.sides at) outcome table (new.sides at) heard_rests performs.acts.told) performs.acts around tells
step_tells past old new (Poll at) outcome table made tells performs around = rest_tells past (Poll at) outcome table made old new _ tt (told_rests _ (old.sides at) outcome table (new.sides at) polled_rests performs.acts.told) performs.acts around tells
step_tells past old new (Drain at) outcome table made tells performs around = rest_tells past (Drain at) outcome table made old new _ tt (told_rests _ (old.sides at) outcome table (new.sides at) polled_rests performs.acts.told) performs.acts around tells
step_tells past old new (Write at channel binary bytes) outcome table made tells performs around = rest_tells past (Write at channel binary bytes) outcome table made old new _ tt (told_rests _ (old.sides at) outcome table (new.sides at) written_rests performs.acts.told) performs.acts around tells
step_tells past old new (CloseChannel at channel) outcome table made tells performs around = rest_tells past (CloseChannel at channel) outcome table made old new _ tt (told_rests _ (old.sides at) outcome table (new.sides at) closed_rests performs.acts.told) performs.acts around tells
step_tells past old new (Close at) outcome table made tells performs around = rest_tells past (Close at) outcome table made old new _ tt (told_rests _ (old.sides at) outcome table (new.sides at) handled_rests performs.acts.told) performs.acts around tells

-- ---- all steps

fresh_channels : (E : Type 0) (at : Side) (s : Stance) → s.channels ≡ no_channels → s.rows ≡ [] → ChannelsTell {E = E} [] at s
fresh_channels E at s none no_rows = record {
  shown = no_rows;
  few = rw none (omega arith);
  below = rw none tt;
  rising = rw none tt;
  told = All-nil (λ number. number < s.channels.given);
}

fresh_side : (E : Type 0) (at : Side) (s : Stance) (kept : List Kept) (size : ℕ) → IsJustBuilt s → s.rows ≡ [] → kept ≡ [] → SideTells {E = E} [] at s kept size
fresh_side E at s kept size built no_rows none =
    let counter : s.counter ≡ 0 = built.counter in
    rw none (record {
      rows = built.lines;
      tokens = λ t. record {
        held = refl;
        right = λ token is. absurd (let e : None ≡ Some token = is in cc);
        older = λ token is. absurd (let e : None ≡ Some token = is in cc);
        changes = λ token is. absurd (let e : None ≡ Some token = is in cc);
        restarts = λ token is. absurd (let e : None ≡ Some token = is in cc);
        inits = λ token is. absurd (let e : None ≡ Some token = is in cc);
      };
      counts = omega arith;
      one_each = λ t u token other is. absurd (let e : None ≡ Some token = is in cc);
      channels = fresh_channels E at s built.channels no_rows;
    })

fresh_tells : (E : Type 0) (start : PairStance) → IsFreshStance start → Tells {E = E} [] start
fresh_tells E start fresh =
    let none : start.sdps ≡ [] = fresh.sdps in
    record {
      sides = λ at. fresh_side E at (start.sides at) start.sdps start.size (fresh.built at) (fresh.rows at) fresh.sdps;
      says = rw none refl;
      later = λ t most. refl;
      count = rw none (omega arith);
    }

fresh_sees : (E : Type 0) (start : PairStance) → IsFreshStance start → (at : Side) → SideSees {E = E} start.sides [] at (start.sides at)
fresh_sees E start fresh at = record {
  lite = refl;
  remote = λ firm. (fresh.built at).remote;
  known = λ firm. ap is_some (fresh.built at).fingerprint;
  inited = (fresh.built at).uninited;
  kept = ap (text_in remote_text) (fresh.built at).unstarted;
}

-- what the past of a pair that is reached says of it
pub reached_tells : {E : Type 0} → (start pair : PairStance) (past : List (Entry E)) → IsFreshStance start → StanceReached start past pair → pair.size < 2 ^ 32 → Tells past pair
reached_tells {E} start pair [] fresh reached small = let same : pair ≡ start = reached in rw same (fresh_tells E start fresh)
reached_tells {E} start pair (last ∷ past) fresh reached small =
    let enters : StanceEnters reached.0 last pair = reached.2 in
    let around : Around last.step last.made reached.0 pair = around_of reached.0 pair last.step last.outcome last.table last.made enters.performs enters.made small in
    step_tells past reached.0 pair last.step last.outcome last.table last.made
    (reached_tells start reached.0 past fresh reached.1 (omega (arith, size_grows last.step last.made reached.0 pair around))) enters.performs around

-- the size before a step that leaves a small pair is small
pub small_before : {E : Type 0} → (old new : PairStance) (last : Entry E) → StanceEnters old last new → new.size < 2 ^ 32 → old.size < 2 ^ 32
small_before old new last enters small =
    let around : Around last.step last.made old new = around_of old new last.step last.outcome last.table last.made enters.performs enters.made small in
    omega (arith, size_grows last.step last.made old new around)

-- each side sees what the past tells
pub reached_sees : {E : Type 0} → (start pair : PairStance) (past : List (Entry E)) → IsFreshStance start → StanceReached start past pair → pair.size < 2 ^ 32 → (at : Side) → SideSees start.sides past at (pair.sides at)
reached_sees {E} start pair [] fresh reached small at = let same : pair ≡ start = reached in rw same (fresh_sees E start fresh at)
reached_sees {E} start pair (last ∷ past) fresh reached small at =
    let enters : StanceEnters reached.0 last pair = reached.2 in
    let fewer : reached.0.size < 2 ^ 32 = small_before reached.0 pair last enters small in
    step_sees start.sides past reached.0 pair last.step last.outcome last.table last.made (reached_tells start reached.0 past fresh reached.1 fewer) enters.performs (λ side. reached_sees start reached.0 past fresh reached.1 fewer side) at

-- A pair that is reached is within the sizes of its steps.
pub reached_within : {E : Type 0} → (start pair : PairStance) (past : List (Entry E)) → IsFreshStance start → StanceReached start past pair → pair.size < 2 ^ 32 → IsWithin pair
reached_within start pair past fresh reached small = within past pair (reached_tells start pair past fresh reached small)

-- the size of a pair that is reached is that of its steps
pub reached_size : {E : Type 0} → (start pair : PairStance) (past : List (Entry E)) → StanceReached start past pair → pair.size ≡ start.size + steps_size (steps_of past)
reached_size start pair [] reached = let same : pair.size ≡ start.size = ap (λ p. p.size) reached in omega arith
reached_size start pair (last ∷ past) reached =
    let enters : StanceEnters reached.0 last pair = reached.2 in
    omega (arith, enters.performs.size, reached_size start reached.0 past reached.1, steps_size-append (steps_of past) last.step)
