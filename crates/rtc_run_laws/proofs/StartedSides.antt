-- The association of a side is started exactly where it has a line of data channels, and nothing is kept of a start before.
use Rattle.std.proofs.Common.{◌≡◌, ◌∙◌, ◌<◌, ◌^◌, ℕ, Bool, true, false, not, ◌&&◌, ◌||◌, List, [], ◌∷◌, Option, Some, None, refl, sym, ap, subst}
use Rattle.std.specs.Prelude.{IfSome}
use Rattle.std.proofs.lemmas.Bool.{or_parts}
use Rattle.rtc_parts.specs.declared.dtls_error.DtlsError.TheVariants.{Fault, WouldBlock, Alloc as DtlsAlloc}
use Rattle.rtc_sdp_values.specs.declared.ice_creds.IceCreds.{IceCreds}
use Rattle.rtc_sdp_values.specs.declared.line_row.LineRow.{LineRow}
use Rattle.rtc_sctp_values.specs.InitHalves.{InitHalves}
use Rattle.rtc_peer_rows.specs.ParsedLines.{parsed_lines}
use Rattle.rtc_peer_rows.specs.Table.{IsTable}
use Rattle.rtc_change.specs.PendingOffer.{PendingOffer}
use Rattle.rtc_change.specs.Plans.{asked_by}
use Rattle.rtc_change.specs.TableAfter.{table_after}
use Rattle.rtc_change.specs.declared.change.Change.{Change}
use Rattle.rtc_peer_core.specs.SdpHalves.{tells_half, kept_told}
use Rattle.rtc_peer_core.specs.Stance.{Stance, held_by}
use Rattle.rtc_peer_core.specs.declared.rtc_error.RtcError.TheVariants.{Net, Media as MediaFailed, Glare}
use Rattle.rtc_peer_core.specs.declared.rtc_error.RtcError.TheVariants.{RemoteSdp, Sdp as SdpRefused, Dtls, Sctp, ChangesOutOfOrder, BadChannel, Alloc as PeerAlloc}
use Rattle.rtc_peer_core.proofs.StanceTaken.{Breaks, inited_after, begun_by}
use Rattle.rtc_peer_core.proofs.StanceCalls.{stance_alone}
use Rattle.rtc_run_history.specs.Signalled.{Signalled, NotMade, Unreadable, Readable, foreign}
use Rattle.rtc_run_history.specs.declared.side.Side.{Side}
use Rattle.rtc_run_history.specs.declared.kept.Kept.{Kept}
use Rattle.rtc_run_history.specs.declared.op.Op.{Op}
use Rattle.rtc_run_history.specs.declared.op_answer.OpAnswer.{OpAnswer}
use Rattle.rtc_run_history.specs.declared.made.Made.{Made}
use Rattle.rtc_run_history.specs.declared.made.Made.TheVariants.{NotAsked, Nothing, Offer, Alloc as MadeAlloc}
use Rattle.rtc_run_history.specs.declared.step.Step.{Step}
use Rattle.rtc_run_history.specs.declared.step.Step.TheVariants.{Negotiate, AcceptOffer, AcceptAnswer, Time, Datagram, Poll, Drain, Write, CloseChannel, Close, Rollback, ForeignOffer, ForeignAnswer, Raw}
use Rattle.rtc_run_history.specs.declared.outcome.Outcome.{Outcome}
use Rattle.rtc_run_history.specs.declared.outcome.Outcome.TheVariants.{Negotiated, Answered, Finished, Done, Refused, NoSuch, Alloc}
use Rattle.rtc_run_history.specs.declared.table.Table.{Table}
use Rattle.rtc_run_history.specs.Answers.{has_app_row}
use Rattle.rtc_run_history.specs.Fresh.{IsJustBuilt}
use Rattle.rtc_run_history.specs.Memory.{answers_lack}
use Rattle.rtc_run_history.specs.PairState.{kept_remote_sdp, held_token}
use Rattle.rtc_run_history.specs.Past.{Entry}
use Rattle.rtc_run_history.specs.Sides.{side_of, other_side}
use Rattle.rtc_run_history.proofs.BothSides.{both_sides}
use Rattle.rtc_run_laws.proofs.KeptApps.{app_stays}
use Rattle.rtc_run_laws.proofs.PastTables.{past_table}
use Rattle.rtc_run_laws.proofs.Reaches.{reached_tells, small_before}
use Rattle.rtc_run_laws.proofs.RestoredApps.{restored_app}
use Rattle.rtc_run_laws.proofs.SeenSides.{side_parts}
use Rattle.rtc_run_laws.proofs.SeenSteps.{ops_keep_side}
use Rattle.rtc_run_laws.proofs.StagedOps.{Stages}
use Rattle.rtc_run_laws.proofs.Staging.{ops_stage}
use Rattle.rtc_run_laws.proofs.StanceRuns.{IsFreshStance, StanceRan, ran_reached, ran_sound}
use Rattle.rtc_run_laws.proofs.StanceSteps.{PairStance, StanceMakesOf, StancePerformsOps, StanceNegotiates, StanceStepAcceptsOffer, StanceStepAcceptsAnswer, StanceStepRollsBack, StanceActs, StancePerforms, lent}
use Rattle.rtc_run_laws.proofs.StartHalves.{HasReadHalf, begun_none, told_read, begun_read}
use Rattle.rtc_run_laws.proofs.Tells.{Tells}
use Rattle.rtc_parts.specs.IceMeaning.{IceSettings}
use Rattle.rtc_sctp_values.specs.SnapHalves.{KeptHalves}
use Rattle.rtc_sdp_values.specs.declared.fingerprint.Fingerprint.{Fingerprint}

pub record IsStartTold (s : Stance) : Type 0 where
  pub inited : s.inited ≡ has_app_row s.lines
  pub unstarted : s.inited ≡ false → s.snap.started ≡ None
  -- this side's half, where it is pending, is read back
  pub reads : HasReadHalf s.snap.pending

-- ---- what leaves it

pub told_alike : (s t : Stance) → has_app_row t.lines ≡ has_app_row s.lines → t.inited ≡ s.inited → t.snap ≡ s.snap → IsStartTold s → IsStartTold t
told_alike s t lines inited snap told = record {
  inited = inited ∙ told.inited ∙ sym lines;
  unstarted = λ fresh. ap (λ (k : KeptHalves). k.started) snap ∙ told.unstarted (sym inited ∙ fresh);
  reads = subst (λ (k : KeptHalves). HasReadHalf k.pending) (sym snap) told.reads;
}

told_same : (s t : Stance) → t ≡ s → IsStartTold s → IsStartTold t
told_same s t same told = subst IsStartTold (sym same) told

broken_told : (s t : Stance) (restart : Option (IceCreds × Bool)) (counter : ℕ) → Breaks s restart counter t → IsStartTold s → IsStartTold t
broken_told s t restart counter breaks told =
    told_alike s t (ap (λ (x : Stance). has_app_row x.lines) breaks.rest) (ap (λ (x : Stance). x.inited) breaks.rest) (ap (λ (x : Stance). x.snap) breaks.rest) told

pub lent_told : (s : Stance) → IsStartTold s → IsStartTold (lent s)
lent_told s told = record { inited = told.inited; unstarted = told.unstarted; reads = told.reads }

-- ---- what is accepted

first_or : (inited has : Bool) → (inited ≡ true → has ≡ true) → (inited || has) ≡ has
first_or true has stays = sym (stays refl)
first_or false has stays = refl

has_none : (has inited : Bool) → has ≡ false → (has && not inited) ≡ false
has_none has inited none = ap (λ b. b && not inited) none

accepted_told : (s t : Stance) (rows : List LineRow) (halves : Option InitHalves) (drops : Bool) → t.lines ≡ rows → t.inited ≡ inited_after s.inited rows
    → t.snap ≡ begun_by (has_app_row rows && not s.inited) halves drops s.snap → (has_app_row s.lines ≡ true → has_app_row rows ≡ true) → IsStartTold s → IsStartTold t
accepted_told s t rows halves drops lines inited snap stays told =
    let first : t.inited ≡ has_app_row rows = inited ∙ first_or s.inited (has_app_row rows) (λ is. stays (sym told.inited ∙ is)) in
    record {
      inited = first ∙ sym (ap has_app_row lines);
      unstarted = λ fresh.
          let none : has_app_row rows ≡ false = sym first ∙ fresh in
          let before : s.inited ≡ false = (or_parts s.inited (has_app_row rows) (sym inited ∙ fresh)).0 in
          ap (λ (k : KeptHalves). k.started) snap ∙ begun_none (has_app_row rows) s.inited drops halves s.snap (has_none (has_app_row rows) s.inited none) ∙ told.unstarted before;
      reads = subst (λ (k : KeptHalves). HasReadHalf k.pending) (sym snap) (begun_read (has_app_row rows && not s.inited) drops halves s.snap told.reads);
    }

-- ---- each kind of step

alone_told : (staged : List Change) (s : Stance) → IsStartTold s → IsStartTold (stance_alone staged s)
alone_told [] s told = told
alone_told (change ∷ changes) s told = told_alike s (stance_alone (change ∷ changes) s) refl refl refl told

makes_told : (asked : Bool) (at : Side) (p q : Stance) (kept kept' : List Kept) (made : Made) → StanceMakesOf asked at p kept made q kept' → IsStartTold p → IsStartTold q
makes_told false at p q kept kept' NotAsked h told = told_same p q h.0 told
makes_told true at p q kept kept' Nothing h told = told_same (stance_alone p.staged p) q h.0.1 (alone_told p.staged p told)
makes_told true at p q kept kept' (Offer k) h told =
    subst IsStartTold (sym h.1.rest) (record {
      inited = told.inited;
      unstarted = λ fresh. kept_started (tells_half p) p h.1.half ∙ told.unstarted fresh;
      reads = told_read (tells_half p) p h.1.half h.1.reads told.reads;
    })
  where
    kept_started : (tells : Bool) (s : Stance) (half : List ℕ) → (kept_told tells s half).started ≡ s.snap.started
    kept_started true s half = refl
    kept_started false s half = refl
makes_told true at p q kept kept' MadeAlloc h told = told_same p q h.0 told
makes_told asked at p q kept kept' made h told = absurd h

-- ops leave whether there is such a line, and how the association was started
pub ops_told : (old p : Stance) (ops : List Op) (answers : List OpAnswer) → StancePerformsOps (lent old) ops answers p → IsStartTold old → IsStartTold p
ops_told old p ops answers h told =
    let staged : Stages (lent old) ops answers p = ops_stage (lent old) p ops answers h in
    let parts : side_parts p ≡ side_parts old = ops_keep_side (lent old) p ops answers h in
    told_alike old p staged.app (ap (λ (c : IceSettings × Option Fingerprint × Bool × KeptHalves). c.2) parts)
    (ap (λ (c : IceSettings × Option Fingerprint × Bool × KeptHalves). c.3) parts) told

negotiate_told : {E : Type 0} → (at : Side) (ops : List Op) (apply : Bool) (old new : Stance) (kept kept' : List Kept) (outcome : Outcome E) (table : Option Table)
    → StanceNegotiates at ops apply old kept outcome table new kept' → IsStartTold old → IsStartTold new
negotiate_told at ops apply old new kept kept' Alloc None h told = told_same old new h.peer told
negotiate_told at ops apply old new kept kept' (Negotiated answers made) (Some table) h told =
    makes_told (apply && not (answers_lack answers)) at h.0 new kept kept' made h.2 (ops_told old h.0 ops answers h.1 told)
negotiate_told at ops apply old new kept kept' outcome table h told = absurd h

offer_told : {E : Type 0} → (at : Side) (offer : Signalled) (old new : Stance) (kept kept' : List Kept) (outcome : Outcome E) (table : Option Table)
    → StanceStepAcceptsOffer at offer old kept outcome table new kept' → IsTable old.lines → IsStartTold old → IsStartTold new
offer_told at NotMade old new kept kept' Alloc None h rows told = told_same old new h.peer told
offer_told at (Unreadable line) old new kept kept' Alloc None h rows told = told_same old new h.peer told
offer_told at (Readable sdp) old new kept kept' Alloc None h rows told = told_same old new h.peer told
offer_told at NotMade old new kept kept' NoSuch (Some table) h rows told = told_same old new h.0.peer told
offer_told at (Unreadable line) old new kept kept' (Refused error) (Some table) h rows told = told_same old new h.1.peer told
offer_told at (Readable sdp) old new kept kept' (Answered n) (Some table) h rows told =
    accepted_told old new (table_after old.lines (parsed_lines sdp) true) h.1.halves false (ap (λ (x : Stance). x.lines) h.1.rest)
    (ap (λ (x : Stance). x.inited) h.1.rest) (ap (λ (x : Stance). x.snap) h.1.rest) (app_stays (held_by (lent old)) None sdp rows h.1.passes) told
offer_told at (Readable sdp) old new kept kept' (Refused (RemoteSdp why)) (Some table) h rows told =
    told_alike old new (ap (λ (x : Stance). has_app_row x.lines) h.0.1.1) (ap (λ (x : Stance). x.inited) h.0.1.1) (ap (λ (x : Stance). x.snap) h.0.1.1) told
offer_told at (Readable sdp) old new kept kept' (Refused (SdpRefused error)) (Some table) h rows told =
    told_alike old new (ap (λ (x : Stance). has_app_row x.lines) h.0.1.1) (ap (λ (x : Stance). x.inited) h.0.1.1) (ap (λ (x : Stance). x.snap) h.0.1.1) told
offer_told at (Readable sdp) old new kept kept' (Refused (Dtls Fault)) (Some table) h rows told = broken_told (lent old) new _ _ h.0.1.breaks (lent_told old told)
offer_told at (Readable sdp) old new kept kept' (Refused (Sctp error)) (Some table) h rows told = broken_told (lent old) new _ _ h.0.2.breaks (lent_told old told)
offer_told at (Readable sdp) old new kept kept' (Refused PeerAlloc) (Some table) h rows told = broken_told (lent old) new _ _ h.0.breaks (lent_told old told)
offer_told at (Readable sdp) old new kept kept' (Refused (Dtls WouldBlock)) (Some table) h rows told = absurd h.0
offer_told at (Readable sdp) old new kept kept' (Refused (Dtls DtlsAlloc)) (Some table) h rows told = absurd h.0
offer_told at (Readable sdp) old new kept kept' (Refused ChangesOutOfOrder) (Some table) h rows told = absurd h.0
offer_told at (Readable sdp) old new kept kept' (Refused (Net cause)) (Some table) h rows told = absurd h.0
offer_told at (Readable sdp) old new kept kept' (Refused (MediaFailed cause)) (Some table) h rows told = absurd h.0
offer_told at (Readable sdp) old new kept kept' (Refused BadChannel) (Some table) h rows told = absurd h.0
offer_told at (Readable sdp) old new kept kept' (Refused Glare) (Some table) h rows told =
    told_alike old new (ap (λ (x : Stance). has_app_row x.lines) h.0.1) (ap (λ (x : Stance). x.inited) h.0.1) (ap (λ (x : Stance). x.snap) h.0.1) told
offer_told at offer old new kept kept' outcome table h rows told = absurd h

answer_told : {E : Type 0} → (t : ℕ) (token : Option PendingOffer) (answer : Signalled) (old new : Stance) (kept kept' : List Kept) (outcome : Outcome E) (table : Option Table)
    → StanceStepAcceptsAnswer t token answer old kept outcome table new kept' → IsTable old.lines → IsStartTold old → IsStartTold new
answer_told t None NotMade old new kept kept' Alloc None h rows told = told_same old new h.peer told
answer_told t None (Unreadable line) old new kept kept' Alloc None h rows told = told_same old new h.peer told
answer_told t None (Readable sdp) old new kept kept' Alloc None h rows told = told_same old new h.peer told
answer_told t (Some token) NotMade old new kept kept' Alloc None h rows told = told_same old new h.peer told
answer_told t (Some token) (Unreadable line) old new kept kept' Alloc None h rows told = told_same old new h.peer told
answer_told t (Some token) (Readable sdp) old new kept kept' Alloc None h rows told = told_same old new h.peer told
answer_told t None NotMade old new kept kept' NoSuch (Some table) h rows told = told_same old new h.0.peer told
answer_told t None (Unreadable line) old new kept kept' NoSuch (Some table) h rows told = told_same old new h.0.peer told
answer_told t None (Readable sdp) old new kept kept' NoSuch (Some table) h rows told = told_same old new h.0.peer told
answer_told t (Some token) NotMade old new kept kept' NoSuch (Some table) h rows told = told_same old new h.0.peer told
answer_told t (Some token) (Unreadable line) old new kept kept' (Refused error) (Some table) h rows told = told_same old new h.1.peer told
answer_told t (Some token) (Readable sdp) old new kept kept' Finished (Some table) h rows told =
    accepted_told old new (table_after old.lines (parsed_lines sdp) false) h.0.halves true (ap (λ (x : Stance). x.lines) h.0.rest)
    (ap (λ (x : Stance). x.inited) h.0.rest) (ap (λ (x : Stance). x.snap) h.0.rest)
    (app_stays (held_by (lent old)) (Some (asked_by old.lines token)) sdp rows h.0.passes) told
answer_told t (Some token) (Readable sdp) old new kept kept' (Refused ChangesOutOfOrder) (Some table) h rows told =
    told_alike old new (ap (λ (x : Stance). has_app_row x.lines) h.0.1) (ap (λ (x : Stance). x.inited) h.0.1) (ap (λ (x : Stance). x.snap) h.0.1) told
answer_told t (Some token) (Readable sdp) old new kept kept' (Refused (RemoteSdp why)) (Some table) h rows told =
    told_alike old new (ap (λ (x : Stance). has_app_row x.lines) h.0.1.1) (ap (λ (x : Stance). x.inited) h.0.1.1) (ap (λ (x : Stance). x.snap) h.0.1.1) told
answer_told t (Some token) (Readable sdp) old new kept kept' (Refused (SdpRefused error)) (Some table) h rows told =
    told_alike old new (ap (λ (x : Stance). has_app_row x.lines) h.0.1.1) (ap (λ (x : Stance). x.inited) h.0.1.1) (ap (λ (x : Stance). x.snap) h.0.1.1) told
answer_told t (Some token) (Readable sdp) old new kept kept' (Refused (Dtls Fault)) (Some table) h rows told = broken_told (lent old) new _ _ h.0.2 (lent_told old told)
answer_told t (Some token) (Readable sdp) old new kept kept' (Refused (Sctp error)) (Some table) h rows told = broken_told (lent old) new _ _ h.0.3 (lent_told old told)
answer_told t (Some token) (Readable sdp) old new kept kept' (Refused PeerAlloc) (Some table) h rows told = broken_told (lent old) new _ _ h.0.1 (lent_told old told)
answer_told t (Some token) (Readable sdp) old new kept kept' (Refused (Dtls WouldBlock)) (Some table) h rows told = absurd h.0
answer_told t (Some token) (Readable sdp) old new kept kept' (Refused (Dtls DtlsAlloc)) (Some table) h rows told = absurd h.0
answer_told t (Some token) (Readable sdp) old new kept kept' (Refused (Net cause)) (Some table) h rows told = absurd h.0
answer_told t (Some token) (Readable sdp) old new kept kept' (Refused (MediaFailed cause)) (Some table) h rows told = absurd h.0
answer_told t (Some token) (Readable sdp) old new kept kept' (Refused BadChannel) (Some table) h rows told = absurd h.0
answer_told t (Some token) (Readable sdp) old new kept kept' (Refused Glare) (Some table) h rows told = absurd h.0
answer_told t token answer old new kept kept' outcome table h rows told = absurd h

rollback_told : {E : Type 0} → (t : ℕ) (token : Option PendingOffer) (old new : Stance) (kept kept' : List Kept) (outcome : Outcome E) (table : Option Table)
    → StanceStepRollsBack t token old kept outcome table new kept' → IsStartTold old → IsStartTold new
rollback_told t None old new kept kept' Alloc None h told = told_same old new h.peer told
rollback_told t (Some token) old new kept kept' Alloc None h told = told_same old new h.peer told
rollback_told t None old new kept kept' NoSuch (Some table) h told = told_same old new h.0.peer told
rollback_told t (Some token) old new kept kept' Done (Some table) h told =
    told_alike old new (ap (λ (x : Stance). has_app_row x.lines) h.0.1 ∙ restored_app token.undo old.lines) (ap (λ (x : Stance). x.inited) h.0.1) (ap (λ (x : Stance). x.snap) h.0.1) told
rollback_told t (Some token) old new kept kept' (Refused ChangesOutOfOrder) (Some table) h told =
    told_alike old new (ap (λ (x : Stance). has_app_row x.lines) h.0.1) (ap (λ (x : Stance). x.inited) h.0.1) (ap (λ (x : Stance). x.snap) h.0.1) told
rollback_told t (Some token) old new kept kept' (Refused (RemoteSdp why)) (Some table) h told = absurd h.0
rollback_told t (Some token) old new kept kept' (Refused (SdpRefused error)) (Some table) h told = absurd h.0
rollback_told t (Some token) old new kept kept' (Refused (Dtls error)) (Some table) h told = absurd h.0
rollback_told t (Some token) old new kept kept' (Refused (Sctp error)) (Some table) h told = absurd h.0
rollback_told t (Some token) old new kept kept' (Refused (Net cause)) (Some table) h told = absurd h.0
rollback_told t (Some token) old new kept kept' (Refused (MediaFailed cause)) (Some table) h told = absurd h.0
rollback_told t (Some token) old new kept kept' (Refused BadChannel) (Some table) h told = absurd h.0
rollback_told t (Some token) old new kept kept' (Refused PeerAlloc) (Some table) h told = absurd h.0
rollback_told t (Some token) old new kept kept' (Refused Glare) (Some table) h told = absurd h.0
rollback_told t token old new kept kept' outcome table h told = absurd h

rest_told : (old new : Stance) → new ≡ record old { channels = new.channels; rows = new.rows } → IsStartTold old → IsStartTold new
rest_told old new rest told =
    told_alike old new (ap (λ (x : Stance). has_app_row x.lines) rest) (ap (λ (x : Stance). x.inited) rest) (ap (λ (x : Stance). x.snap) rest) told

acts_told : {E : Type 0} → (step : Step) (old new : Stance) (kept kept' : List Kept) (outcome : Outcome E) (table : Option Table)
    → StanceActs step old kept outcome table new kept' → IsTable old.lines → IsStartTold old → IsStartTold new
acts_told (Negotiate at ops apply) old new kept kept' outcome table acts rows told = negotiate_told at ops apply old new kept kept' outcome table acts told
acts_told (AcceptOffer at k) old new kept kept' outcome table acts rows told = offer_told at (kept_remote_sdp true kept at k) old new kept kept' outcome table acts rows told
acts_told (AcceptAnswer at t a) old new kept kept' outcome table acts rows told =
    answer_told t (held_token kept at t) (kept_remote_sdp false kept at a) old new kept kept' outcome table acts rows told
acts_told (Rollback at t) old new kept kept' outcome table acts rows told = rollback_told t (held_token kept at t) old new kept kept' outcome table acts told
acts_told (ForeignOffer at text) old new kept kept' outcome table acts rows told = offer_told at (foreign text) old new kept kept' outcome table acts rows told
acts_told (ForeignAnswer at t text) old new kept kept' outcome table acts rows told =
    answer_told t (held_token kept at t) (foreign text) old new kept kept' outcome table acts rows told
acts_told (Raw at bytes now) old new kept kept' outcome table acts rows told = rest_told old new acts.peer told
acts_told (Time at now) old new kept kept' outcome table acts rows told = rest_told old new acts.peer told
acts_told (Datagram at packet now) old new kept kept' outcome table acts rows told = rest_told old new acts.peer told
acts_told (Poll at) old new kept kept' outcome table acts rows told = rest_told old new acts.peer told
acts_told (Drain at) old new kept kept' outcome table acts rows told = rest_told old new acts.peer told
acts_told (Write at channel binary bytes) old new kept kept' outcome table acts rows told = rest_told old new acts.peer told
acts_told (CloseChannel at channel) old new kept kept' outcome table acts rows told = rest_told old new acts.peer told
acts_told (Close at) old new kept kept' outcome table acts rows told = rest_told old new acts.peer told

-- ---- pairs

pub performs_told : {E : Type 0} → (old new : PairStance) (step : Step) (outcome : Outcome E) (table : Option Table) → StancePerforms old step outcome table new
    → ((at : Side) → IsTable (old.sides at).lines) → ((at : Side) → IsStartTold (old.sides at)) → (at : Side) → IsStartTold (new.sides at)
performs_told old new step outcome table performs rows told =
    both_sides (λ at. IsStartTold (new.sides at)) (side_of step)
    (acts_told step (old.sides (side_of step)) (new.sides (side_of step)) old.sdps new.sdps outcome table performs.acts (rows (side_of step)) (told (side_of step)))
    (told_same (old.sides (other_side (side_of step))) (new.sides (other_side (side_of step))) performs.other (told (other_side (side_of step))))

undrawn_read : (pending : Option InitHalves) → IfSome pending (λ halves. halves.local ≡ None) → HasReadHalf pending
undrawn_read None undrawn = tt
undrawn_read (Some halves) undrawn = rw undrawn tt

fresh_told : (s : Stance) → IsJustBuilt s → IsStartTold s
fresh_told s built = record {
  inited = built.uninited ∙ sym (ap has_app_row built.lines);
  unstarted = λ fresh. built.unstarted;
  reads = undrawn_read s.snap.pending built.undrawn;
}

-- the rows of each side of a pair that soundly ran are a table
pub ran_tables : {E : Type 0} → (start pair : PairStance) (past : List (Entry E)) → IsFreshStance start → StanceRan start past pair → pair.size < 2 ^ 32 → (at : Side)
    → IsTable (pair.sides at).lines
ran_tables start pair past fresh ran small at =
    let tells : Tells past pair = reached_tells start pair past fresh (ran_reached start past pair ran) small in
    subst IsTable (sym (tells.sides at).rows) (past_table start.sides past at (ran_sound start past pair ran))

-- The sides of a pair that soundly ran are such.
pub ran_told : {E : Type 0} → (start pair : PairStance) (past : List (Entry E)) → IsFreshStance start → StanceRan start past pair → pair.size < 2 ^ 32 → (at : Side)
    → IsStartTold (pair.sides at)
ran_told start pair [] fresh ran small at = let same : pair ≡ start = ran in rw same (fresh_told (start.sides at) (fresh.built at))
ran_told start pair (last ∷ past) fresh ran small at =
    let fewer : ran.0.size < 2 ^ 32 = small_before ran.0 pair last ran.2.0 small in
    performs_told ran.0 pair last.step last.outcome last.table ran.2.0.performs (ran_tables start ran.0 past fresh ran.1 fewer) (ran_told start ran.0 past fresh ran.1 fewer) at
