-- What a side knows of the other one after a step.
use Rattle.std.proofs.Common.{◌≡◌, Bool, true, false, not, ◌&&◌, List, [], ◌∷◌, Option, Some, None, refl, sym, ◌∙◌, ap, subst, ℕ}
use Rattle.std.specs.Prelude.{is_some, Ok}
use Rattle.rtc_parts.specs.declared.dtls_error.DtlsError.TheVariants.{Fault, WouldBlock, Alloc as DtlsAlloc}
use Rattle.rtc_change.specs.Plans.{asked_by}
use Rattle.rtc_change.specs.PendingOffer.{PendingOffer}
use Rattle.rtc_change.specs.TableAfter.{table_after}
use Rattle.rtc_peer_rows.specs.ParsedLines.{parsed_lines}
use Rattle.rtc_peer_core.specs.SdpHalves.{tells_half, kept_told}
use Rattle.rtc_change.specs.declared.change.Change.{Change}
use Rattle.rtc_change.proofs.VerdictLemmas.{unrefused}
use Rattle.rtc_peer_rows.specs.RowChanges.{RowChange}
use Rattle.rtc_sdp_values.specs.declared.direction.Direction.{Direction}
use Rattle.rtc_peer_core.specs.Stance.{Stance, held_by}
use Rattle.rtc_sctp_values.specs.declared.proto_error.ProtoError.TheVariants.{Fault as AssociationFault}
use Rattle.rtc_sctp_values.specs.declared.sctp_error.SctpError.{SctpError}
use Rattle.rtc_sctp_values.specs.declared.sctp_error.SctpError.TheVariants.{Proto}
use Rattle.rtc_peer_core.specs.declared.rtc_error.RtcError.TheVariants.{Net, Media as MediaFailed, Glare}
use Rattle.rtc_peer_core.specs.declared.rtc_error.RtcError.TheVariants.{RemoteSdp, Sdp as SdpRefused, Dtls, Sctp, ChangesOutOfOrder, BadChannel, Alloc as PeerAlloc}
use Rattle.rtc_peer_core.proofs.StanceCalls.{StanceChangesLine, stance_alone}
use Rattle.rtc_run_history.specs.Signalled.{Signalled, NotMade, Unreadable, Readable, foreign}
use Rattle.rtc_run_history.specs.declared.side.Side.{Side}
use Rattle.rtc_run_history.specs.declared.kept.Kept.{Kept}
use Rattle.rtc_run_history.specs.declared.op.Op.{Op}
use Rattle.rtc_run_history.specs.declared.op.Op.TheVariants.{AddMedia, SetDirection, StopMedia, AddChannel, IceRestart}
use Rattle.rtc_run_history.specs.declared.op_answer.OpAnswer.{OpAnswer}
use Rattle.rtc_run_history.specs.declared.op_answer.OpAnswer.TheVariants.{Mid, Changed, NoLine, Channel, BadChannel as NoChannel, Creds, Alloc as OpAlloc}
use Rattle.rtc_run_history.specs.declared.made.Made.{Made}
use Rattle.rtc_run_history.specs.declared.made.Made.TheVariants.{NotAsked, Nothing, Offer, Alloc as MadeAlloc}
use Rattle.rtc_run_history.specs.declared.step.Step.{Step}
use Rattle.rtc_run_history.specs.declared.step.Step.TheVariants.{Negotiate, AcceptOffer, AcceptAnswer, Time, Datagram, Poll, Drain, Write, CloseChannel, Close, Rollback, ForeignOffer, ForeignAnswer, Raw}
use Rattle.rtc_run_history.specs.declared.outcome.Outcome.{Outcome}
use Rattle.rtc_run_history.specs.declared.outcome.Outcome.TheVariants.{Negotiated, Answered, Finished, Done, Refused, NoSuch, Alloc}
use Rattle.rtc_run_history.specs.declared.table.Table.{Table}
use Rattle.rtc_run_history.specs.Memory.{answers_lack, is_fault}
use Rattle.rtc_run_history.specs.Answers.{has_app_row}
use Rattle.rtc_run_history.specs.Past.{Entry, MadeSdp}
use Rattle.rtc_run_history.specs.Sides.{other_side, side_of}
use Rattle.rtc_run_history.specs.Views.{Stances, tells_init, init_told_by}
use Rattle.rtc_run_history.specs.PairState.{kept_remote_sdp, held_token}
use Rattle.rtc_run_history.proofs.BothSides.{both_sides}
use Rattle.rtc_run_laws.proofs.StanceSteps.{PairStance, StanceMakesOf, StancePerformsOps, StanceNegotiates, StanceStepAcceptsOffer, StanceStepAcceptsAnswer, StanceStepRollsBack, StanceActs, StancePerforms, lent}
use Rattle.rtc_run_laws.proofs.Tells.{Tells, same_side-other}
use Rattle.rtc_run_laws.proofs.Around.{entry, remote_sdp-told}
use Rattle.rtc_run_laws.proofs.Entries.{said_at}
use Rattle.rtc_run_laws.proofs.SeenTexts.{TellsOffer, TellsAnswer, tells_offer, tells_foreign, tells_answer, foreign_answer}
use Rattle.rtc_run_laws.proofs.SeenSides.{SideSees, KeepsSide, side_parts, keeps_by, keeps_trans, sees_still, broken_start, sees_broken, sees_accepted, brought_by, known_after, other_sees}

-- ---- ops

line_keeps : (change : RowChange) (to : Direction) (p : Stance) (mid : List ℕ) (changed : Bool) (r : Stance) → StanceChangesLine change to p mid (Ok changed) r → side_parts r ≡ side_parts p
line_keeps change to p mid true r h = ap side_parts h.1
line_keeps change to p mid false r h = ap side_parts h.1

-- what a side knows of the other one, what its agent has, and how its association was started stay under ops
pub ops_keep_side : (p q : Stance) (ops : List Op) (answers : List OpAnswer) → StancePerformsOps p ops answers q → side_parts q ≡ side_parts p
ops_keep_side p q [] [] h = ap side_parts h
ops_keep_side p q (AddMedia kind dir ∷ ops) (Mid mid ∷ answers) h = ops_keep_side h.0 q ops answers h.2 ∙ ap side_parts h.1.rest
ops_keep_side p q (AddMedia kind dir ∷ ops) (OpAlloc ∷ []) h = ap side_parts h
ops_keep_side p q (SetDirection place dir ∷ ops) (NoLine ∷ answers) h = ops_keep_side p q ops answers h.1
ops_keep_side p q (SetDirection place dir ∷ ops) (Changed changed ∷ answers) h = ops_keep_side h.0 q ops answers h.2 ∙ line_keeps _ dir p h.1.mid changed h.0 h.1.called
ops_keep_side p q (SetDirection place dir ∷ ops) (OpAlloc ∷ []) h = ap side_parts h.called
ops_keep_side p q (StopMedia place ∷ ops) (NoLine ∷ answers) h = ops_keep_side p q ops answers h.1
ops_keep_side p q (StopMedia place ∷ ops) (Changed changed ∷ answers) h = ops_keep_side h.0 q ops answers h.2 ∙ line_keeps _ _ p h.1.mid changed h.0 h.1.called
ops_keep_side p q (StopMedia place ∷ ops) (OpAlloc ∷ []) h = ap side_parts h.called
ops_keep_side p q (AddChannel config ∷ ops) (Channel id ∷ answers) h = ops_keep_side h.0 q ops answers h.2 ∙ ap side_parts h.1.rest
ops_keep_side p q (AddChannel config ∷ ops) (NoChannel ∷ answers) h = ops_keep_side h.0 q ops answers h.2 ∙ ap side_parts h.1.1
ops_keep_side p q (AddChannel config ∷ ops) (OpAlloc ∷ []) h = ap side_parts h
ops_keep_side p q (IceRestart keep ∷ ops) (Creds creds ∷ answers) h = ops_keep_side h.0 q ops answers h.2 ∙ ap side_parts h.1.1
ops_keep_side p q (IceRestart keep ∷ ops) (OpAlloc ∷ []) h = ap side_parts h
ops_keep_side p q ops answers h = absurd h

pub alone_keeps : (staged : List Change) (p : Stance) → side_parts (stance_alone staged p) ≡ side_parts p
alone_keeps [] p = refl
alone_keeps (change ∷ changes) p = refl

-- the halves that an offer tells are pending behind it
told_started : (told : Bool) (s : Stance) (half : List ℕ) → (kept_told told s half).started ≡ s.snap.started
told_started true s half = refl
told_started false s half = refl

pub makes_keep_side : (asked : Bool) (at : Side) (p q : Stance) (kept kept' : List Kept) (made : Made) → StanceMakesOf asked at p kept made q kept' → KeepsSide p q
makes_keep_side false at p q kept kept' NotAsked h = keeps_by p q (ap side_parts h.0)
makes_keep_side true at p q kept kept' Nothing h = keeps_by p q (ap side_parts h.0.1 ∙ alone_keeps p.staged p)
makes_keep_side true at p q kept kept' (Offer k) h = record {
  ice = ap (λ s. s.ice) h.1.rest;
  fingerprint = ap (λ s. s.fingerprint) h.1.rest;
  inited = ap (λ s. s.inited) h.1.rest;
  started = ap (λ s. s.snap.started) h.1.rest ∙ told_started (tells_half p) p h.1.half;
}
makes_keep_side true at p q kept kept' MadeAlloc h = keeps_by p q (ap side_parts h.0)
makes_keep_side asked at p q kept kept' made h = absurd h

pub negotiates_keep_side : {E : Type 0} → (at : Side) (ops : List Op) (apply : Bool) (old new : Stance) (kept kept' : List Kept) (outcome : Outcome E) (table : Option Table) → StanceNegotiates at ops apply old kept outcome table new kept' → KeepsSide old new
negotiates_keep_side at ops apply old new kept kept' Alloc None h = keeps_by old new (ap side_parts h.peer)
negotiates_keep_side at ops apply old new kept kept' (Negotiated answers made) (Some table) h =
    keeps_trans old h.0 new (keeps_by old h.0 (ops_keep_side (lent old) h.0 ops answers h.1)) (makes_keep_side (apply && not (answers_lack answers)) at h.0 new kept kept' made h.2)
negotiates_keep_side at ops apply old new kept kept' outcome table h = absurd h

-- ---- each kind of step

-- an acceptance that the association's fault ends
fault_breaks : (error : SctpError) → error ≡ Proto AssociationFault → is_fault (Sctp error) ≡ true
fault_breaks error is = rw is refl

offer_sees : {E : Type 0} → (fresh : Stances) (past : List (Entry E)) (at : Side) (step : Step) (offer : Signalled) (old new : Stance) (kept kept' : List Kept) (outcome : Outcome E) (table : Option Table) (made : List MadeSdp) → TellsOffer E past at offer step
    → StanceStepAcceptsOffer at offer old kept outcome table new kept' → SideSees fresh past at old → SideSees fresh (entry step outcome table made ∷ past) at new
offer_sees fresh past at step NotMade old new kept kept' Alloc None made tells h sees = sees_still fresh past _ at old new (keeps_by old new (ap side_parts h.peer)) tells.lacking sees
offer_sees fresh past at step (Unreadable line) old new kept kept' Alloc None made tells h sees = sees_still fresh past _ at old new (keeps_by old new (ap side_parts h.peer)) tells.lacking sees
offer_sees fresh past at step (Readable sdp) old new kept kept' Alloc None made tells h sees = sees_still fresh past _ at old new (keeps_by old new (ap side_parts h.peer)) tells.lacking sees
offer_sees fresh past at step NotMade old new kept kept' NoSuch (Some table) made tells h sees = sees_still fresh past _ at old new (keeps_by old new (ap side_parts h.0.peer)) tells.none sees
offer_sees fresh past at step (Unreadable line) old new kept kept' (Refused error) (Some table) made tells h sees =
    sees_still fresh past _ at old new (keeps_by old new (ap side_parts h.1.peer)) (tells.refused error) sees
offer_sees fresh past at step (Readable sdp) old new kept kept' (Answered n) (Some table) made tells h sees =
    sees_accepted fresh past _ at old new sdp (has_app_row (table_after old.lines (parsed_lines sdp) true))
    (record {
      lite = ap (λ s. s.ice.lite) h.1.rest;
      remote = ap (λ s. s.ice.remote) h.1.rest;
      known = ap (λ s. is_some s.fingerprint) h.1.rest ∙ known_after old.fingerprint _ (unrefused (held_by old) None sdp h.1.passes).known;
      inited = ap (λ s. s.inited) h.1.rest;
      halves = h.1.halves;
      drops = false;
      snap = ap (λ s. s.snap) h.1.rest;
      brings = λ uninited. brought_by (lent old) true true sdp h.1.halves h.1.joins refl uninited ∙ sym tells.brings;
    })
    (tells.accepted n) (ap has_app_row (tells.shows (Answered n) table made ∙ h.4.lines ∙ ap (λ s. s.lines) h.1.rest)) sees
offer_sees fresh past at step (Readable sdp) old new kept kept' (Refused (RemoteSdp why)) (Some table) made tells h sees = sees_still fresh past _ at old new (keeps_by old new (ap side_parts h.0.1.1)) (tells.refused (RemoteSdp why)) sees
offer_sees fresh past at step (Readable sdp) old new kept kept' (Refused (SdpRefused error)) (Some table) made tells h sees = sees_still fresh past _ at old new (keeps_by old new (ap side_parts h.0.1.1)) (tells.refused (SdpRefused error)) sees
offer_sees fresh past at step (Readable sdp) old new kept kept' (Refused (Dtls Fault)) (Some table) made tells h sees = sees_broken fresh past _ at old new h.0.1.breaks.lite (broken_start (lent old) new _ _ h.0.1.breaks) (tells.breaks (Dtls Fault) refl) (tells.refused (Dtls Fault)) sees
offer_sees fresh past at step (Readable sdp) old new kept kept' (Refused (Sctp error)) (Some table) made tells h sees = sees_broken fresh past _ at old new h.0.2.breaks.lite (broken_start (lent old) new _ _ h.0.2.breaks) (tells.breaks (Sctp error) (fault_breaks error h.0.0)) (tells.refused (Sctp error)) sees
offer_sees fresh past at step (Readable sdp) old new kept kept' (Refused PeerAlloc) (Some table) made tells h sees = sees_broken fresh past _ at old new h.0.breaks.lite (broken_start (lent old) new _ _ h.0.breaks) (tells.breaks PeerAlloc refl) (tells.refused PeerAlloc) sees
offer_sees fresh past at step (Readable sdp) old new kept kept' (Refused (Dtls WouldBlock)) (Some table) made tells h sees = absurd h.0
offer_sees fresh past at step (Readable sdp) old new kept kept' (Refused (Dtls DtlsAlloc)) (Some table) made tells h sees = absurd h.0
offer_sees fresh past at step (Readable sdp) old new kept kept' (Refused ChangesOutOfOrder) (Some table) made tells h sees = absurd h.0
offer_sees fresh past at step (Readable sdp) old new kept kept' (Refused (Net cause)) (Some table) made tells h sees = absurd h.0
offer_sees fresh past at step (Readable sdp) old new kept kept' (Refused (MediaFailed cause)) (Some table) made tells h sees = absurd h.0
offer_sees fresh past at step (Readable sdp) old new kept kept' (Refused BadChannel) (Some table) made tells h sees = absurd h.0
offer_sees fresh past at step (Readable sdp) old new kept kept' (Refused Glare) (Some table) made tells h sees = sees_still fresh past _ at old new (keeps_by old new (ap side_parts h.0.1)) (tells.refused Glare) sees
offer_sees fresh past at step offer old new kept kept' outcome table made tells h sees = absurd h

answer_sees : {E : Type 0} → (fresh : Stances) (past : List (Entry E)) (at : Side) (step : Step) (t : ℕ) (token : Option PendingOffer) (sdp : Signalled) (old new : Stance) (kept kept' : List Kept) (outcome : Outcome E) (table : Option Table) (made : List MadeSdp)
    → TellsAnswer E past at t sdp step → ((one : PendingOffer) → token ≡ Some one → one.says_init ≡ init_told_by t past)
    → StanceStepAcceptsAnswer t token sdp old kept outcome table new kept' → SideSees fresh past at old → SideSees fresh (entry step outcome table made ∷ past) at new
answer_sees fresh past at step t None NotMade old new kept kept' Alloc None made tells inits h sees = sees_still fresh past _ at old new (keeps_by old new (ap side_parts h.peer)) tells.lacking sees
answer_sees fresh past at step t None (Unreadable line) old new kept kept' Alloc None made tells inits h sees = sees_still fresh past _ at old new (keeps_by old new (ap side_parts h.peer)) tells.lacking sees
answer_sees fresh past at step t None (Readable sdp) old new kept kept' Alloc None made tells inits h sees = sees_still fresh past _ at old new (keeps_by old new (ap side_parts h.peer)) tells.lacking sees
answer_sees fresh past at step t (Some token) NotMade old new kept kept' Alloc None made tells inits h sees = sees_still fresh past _ at old new (keeps_by old new (ap side_parts h.peer)) tells.lacking sees
answer_sees fresh past at step t (Some token) (Unreadable line) old new kept kept' Alloc None made tells inits h sees = sees_still fresh past _ at old new (keeps_by old new (ap side_parts h.peer)) tells.lacking sees
answer_sees fresh past at step t (Some token) (Readable sdp) old new kept kept' Alloc None made tells inits h sees = sees_still fresh past _ at old new (keeps_by old new (ap side_parts h.peer)) tells.lacking sees
answer_sees fresh past at step t None NotMade old new kept kept' NoSuch (Some table) made tells inits h sees = sees_still fresh past _ at old new (keeps_by old new (ap side_parts h.0.peer)) tells.none sees
answer_sees fresh past at step t None (Unreadable line) old new kept kept' NoSuch (Some table) made tells inits h sees = sees_still fresh past _ at old new (keeps_by old new (ap side_parts h.0.peer)) tells.none sees
answer_sees fresh past at step t None (Readable sdp) old new kept kept' NoSuch (Some table) made tells inits h sees = sees_still fresh past _ at old new (keeps_by old new (ap side_parts h.0.peer)) tells.none sees
answer_sees fresh past at step t (Some token) NotMade old new kept kept' NoSuch (Some table) made tells inits h sees = sees_still fresh past _ at old new (keeps_by old new (ap side_parts h.0.peer)) tells.none sees
answer_sees fresh past at step t (Some token) (Unreadable line) old new kept kept' (Refused error) (Some table) made tells inits h sees =
    sees_still fresh past _ at old new (keeps_by old new (ap side_parts h.1.peer)) (tells.refused error) sees
answer_sees fresh past at step t (Some token) (Readable sdp) old new kept kept' Finished (Some table) made tells inits h sees =
    sees_accepted fresh past _ at old new sdp (has_app_row (table_after old.lines (parsed_lines sdp) false))
    (record {
      lite = ap (λ s. s.ice.lite) h.0.rest;
      remote = ap (λ s. s.ice.remote) h.0.rest;
      known = ap (λ s. is_some s.fingerprint) h.0.rest ∙ known_after old.fingerprint _ (unrefused (held_by old) (Some (asked_by old.lines token)) sdp h.0.passes).known;
      inited = ap (λ s. s.inited) h.0.rest;
      halves = h.0.halves;
      drops = true;
      snap = ap (λ s. s.snap) h.0.rest;
      brings = λ uninited. brought_by (lent old) token.says_init (init_told_by t past) sdp h.0.halves h.0.joins (inits token refl) uninited ∙ sym tells.brings;
    })
    tells.accepted (ap has_app_row (tells.shows Finished table made ∙ h.2.lines ∙ ap (λ s. s.lines) h.0.rest)) sees
answer_sees fresh past at step t (Some token) (Readable sdp) old new kept kept' (Refused ChangesOutOfOrder) (Some table) made tells inits h sees = sees_still fresh past _ at old new (keeps_by old new (ap side_parts h.0.1)) (tells.refused ChangesOutOfOrder) sees
answer_sees fresh past at step t (Some token) (Readable sdp) old new kept kept' (Refused (RemoteSdp why)) (Some table) made tells inits h sees = sees_still fresh past _ at old new (keeps_by old new (ap side_parts h.0.1.1)) (tells.refused (RemoteSdp why)) sees
answer_sees fresh past at step t (Some token) (Readable sdp) old new kept kept' (Refused (SdpRefused error)) (Some table) made tells inits h sees = sees_still fresh past _ at old new (keeps_by old new (ap side_parts h.0.1.1)) (tells.refused (SdpRefused error)) sees
answer_sees fresh past at step t (Some token) (Readable sdp) old new kept kept' (Refused (Dtls Fault)) (Some table) made tells inits h sees = sees_broken fresh past _ at old new h.0.2.lite (broken_start (lent old) new _ _ h.0.2) (tells.breaks (Dtls Fault) refl) (tells.refused (Dtls Fault)) sees
answer_sees fresh past at step t (Some token) (Readable sdp) old new kept kept' (Refused (Sctp error)) (Some table) made tells inits h sees = sees_broken fresh past _ at old new h.0.3.lite (broken_start (lent old) new _ _ h.0.3) (tells.breaks (Sctp error) (fault_breaks error h.0.1)) (tells.refused (Sctp error)) sees
answer_sees fresh past at step t (Some token) (Readable sdp) old new kept kept' (Refused PeerAlloc) (Some table) made tells inits h sees = sees_broken fresh past _ at old new h.0.1.lite (broken_start (lent old) new _ _ h.0.1) (tells.breaks PeerAlloc refl) (tells.refused PeerAlloc) sees
answer_sees fresh past at step t (Some token) (Readable sdp) old new kept kept' (Refused (Dtls WouldBlock)) (Some table) made tells inits h sees = absurd h.0
answer_sees fresh past at step t (Some token) (Readable sdp) old new kept kept' (Refused (Dtls DtlsAlloc)) (Some table) made tells inits h sees = absurd h.0
answer_sees fresh past at step t (Some token) (Readable sdp) old new kept kept' (Refused (Net cause)) (Some table) made tells inits h sees = absurd h.0
answer_sees fresh past at step t (Some token) (Readable sdp) old new kept kept' (Refused (MediaFailed cause)) (Some table) made tells inits h sees = absurd h.0
answer_sees fresh past at step t (Some token) (Readable sdp) old new kept kept' (Refused BadChannel) (Some table) made tells inits h sees = absurd h.0
answer_sees fresh past at step t (Some token) (Readable sdp) old new kept kept' (Refused Glare) (Some table) made tells inits h sees = absurd h.0
answer_sees fresh past at step t token sdp old new kept kept' outcome table made tells inits h sees = absurd h

-- a rollback tells nothing of the other side
pub rollback_keeps : {E : Type 0} → (t : ℕ) (token : Option PendingOffer) (old new : Stance) (kept kept' : List Kept) (outcome : Outcome E) (table : Option Table) → StanceStepRollsBack t token old kept outcome table new kept' → KeepsSide old new
rollback_keeps t None old new kept kept' Alloc None h = keeps_by old new (ap side_parts h.peer)
rollback_keeps t (Some token) old new kept kept' Alloc None h = keeps_by old new (ap side_parts h.peer)
rollback_keeps t None old new kept kept' NoSuch (Some table) h = keeps_by old new (ap side_parts h.0.peer)
rollback_keeps t (Some token) old new kept kept' Done (Some table) h = keeps_by old new (ap side_parts h.0.1)
rollback_keeps t (Some token) old new kept kept' (Refused ChangesOutOfOrder) (Some table) h = keeps_by old new (ap side_parts h.0.1)
rollback_keeps t (Some token) old new kept kept' (Refused (RemoteSdp why)) (Some table) h = absurd h.0
rollback_keeps t (Some token) old new kept kept' (Refused (SdpRefused error)) (Some table) h = absurd h.0
rollback_keeps t (Some token) old new kept kept' (Refused (Dtls error)) (Some table) h = absurd h.0
rollback_keeps t (Some token) old new kept kept' (Refused (Sctp error)) (Some table) h = absurd h.0
rollback_keeps t (Some token) old new kept kept' (Refused (Net cause)) (Some table) h = absurd h.0
rollback_keeps t (Some token) old new kept kept' (Refused (MediaFailed cause)) (Some table) h = absurd h.0
rollback_keeps t (Some token) old new kept kept' (Refused BadChannel) (Some table) h = absurd h.0
rollback_keeps t (Some token) old new kept kept' (Refused PeerAlloc) (Some table) h = absurd h.0
rollback_keeps t (Some token) old new kept kept' (Refused Glare) (Some table) h = absurd h.0
rollback_keeps t token old new kept kept' outcome table h = absurd h

acts_see : {E : Type 0} → (fresh : Stances) (past : List (Entry E)) (old new : PairStance) (step : Step) (outcome : Outcome E) (table : Option Table) (made : List MadeSdp) → Tells past old
    → StanceActs step (old.sides (side_of step)) old.sdps outcome table (new.sides (side_of step)) new.sdps → SideSees fresh past (side_of step) (old.sides (side_of step))
    → SideSees fresh (entry step outcome table made ∷ past) (side_of step) (new.sides (side_of step))
acts_see fresh past old new (Negotiate at ops apply) outcome table made tells acts sees =
    let keeps = negotiates_keep_side at ops apply (old.sides at) (new.sides at) old.sdps new.sdps outcome table acts in
    sees_still fresh past (entry (Negotiate at ops apply) outcome table made) at (old.sides at) (new.sides at) keeps refl sees
acts_see {E} fresh past old new (AcceptOffer at k) outcome table made tells acts sees =
    offer_sees fresh past at (AcceptOffer at k) (kept_remote_sdp true old.sdps at k) (old.sides at) (new.sides at) old.sdps new.sdps outcome table made
    (subst (λ (offer : Signalled). TellsOffer E past at offer (AcceptOffer at k)) (remote_sdp-told past old true at k tells) (tells_offer E past at k)) acts sees
acts_see {E} fresh past old new (ForeignOffer at text) outcome table made tells acts sees =
    offer_sees fresh past at (ForeignOffer at text) (foreign text) (old.sides at) (new.sides at) old.sdps new.sdps outcome table made (tells_foreign E past at text) acts sees
acts_see fresh past old new (Rollback at t) outcome table made tells acts sees =
    sees_still fresh past (entry (Rollback at t) outcome table made) at (old.sides at) (new.sides at)
    (rollback_keeps t (held_token old.sdps at t) (old.sides at) (new.sides at) old.sdps new.sdps outcome table acts) refl sees
acts_see fresh past old new (Raw at bytes now) outcome table made tells acts sees =
    sees_still fresh past (entry (Raw at bytes now) outcome table made) at (old.sides at) (new.sides at) (keeps_by (old.sides at) (new.sides at) (ap side_parts acts.peer)) refl sees
acts_see {E} fresh past old new (AcceptAnswer at t a) outcome table made tells acts sees =
    answer_sees fresh past at (AcceptAnswer at t a) t (held_token old.sdps at t) (kept_remote_sdp false old.sdps at a) (old.sides at) (new.sides at) old.sdps new.sdps outcome table made
    (subst (λ (answer : Signalled). TellsAnswer E past at t answer (AcceptAnswer at t a)) (remote_sdp-told past old false at a tells) (tells_answer E past at t a))
    (λ one is. ((tells.sides at).tokens t).inits one is ∙ ap tells_init (sym (said_at past old t tells.says))) acts sees
acts_see {E} fresh past old new (ForeignAnswer at t text) outcome table made tells acts sees =
    answer_sees fresh past at (ForeignAnswer at t text) t (held_token old.sdps at t) (foreign text) (old.sides at) (new.sides at) old.sdps new.sdps outcome table made (foreign_answer E past at t text)
    (λ one is. ((tells.sides at).tokens t).inits one is ∙ ap tells_init (sym (said_at past old t tells.says))) acts sees
acts_see fresh past old new (Time at now) outcome table made tells acts sees =
    sees_still fresh past (entry (Time at now) outcome table made) at (old.sides at) (new.sides at) (keeps_by (old.sides at) (new.sides at) (ap side_parts acts.peer)) refl sees
acts_see fresh past old new (Datagram at packet now) outcome table made tells acts sees =
    sees_still fresh past (entry (Datagram at packet now) outcome table made) at (old.sides at) (new.sides at) (keeps_by (old.sides at) (new.sides at) (ap side_parts acts.peer)) refl sees
acts_see fresh past old new (Poll at) outcome table made tells acts sees =
    sees_still fresh past (entry (Poll at) outcome table made) at (old.sides at) (new.sides at) (keeps_by (old.sides at) (new.sides at) (ap side_parts acts.peer)) refl sees
acts_see fresh past old new (Drain at) outcome table made tells acts sees =
    sees_still fresh past (entry (Drain at) outcome table made) at (old.sides at) (new.sides at) (keeps_by (old.sides at) (new.sides at) (ap side_parts acts.peer)) refl sees
acts_see fresh past old new (Write at channel binary bytes) outcome table made tells acts sees =
    sees_still fresh past (entry (Write at channel binary bytes) outcome table made) at (old.sides at) (new.sides at) (keeps_by (old.sides at) (new.sides at) (ap side_parts acts.peer)) refl sees
acts_see fresh past old new (CloseChannel at channel) outcome table made tells acts sees =
    sees_still fresh past (entry (CloseChannel at channel) outcome table made) at (old.sides at) (new.sides at) (keeps_by (old.sides at) (new.sides at) (ap side_parts acts.peer)) refl sees
acts_see fresh past old new (Close at) outcome table made tells acts sees =
    sees_still fresh past (entry (Close at) outcome table made) at (old.sides at) (new.sides at) (keeps_by (old.sides at) (new.sides at) (ap side_parts acts.peer)) refl sees

-- Both sides see after a step what its past and entry tell.
pub step_sees : {E : Type 0} → (fresh : Stances) (past : List (Entry E)) (old new : PairStance) (step : Step) (outcome : Outcome E) (table : Option Table) (made : List MadeSdp) → Tells past old → StancePerforms old step outcome table new
    → ((at : Side) → SideSees fresh past at (old.sides at)) → (at : Side) → SideSees fresh (entry step outcome table made ∷ past) at (new.sides at)
step_sees fresh past old new step outcome table made tells performs sees =
    both_sides (λ at. SideSees fresh (entry step outcome table made ∷ past) at (new.sides at)) (side_of step)
    (acts_see fresh past old new step outcome table made tells performs.acts (sees (side_of step)))
    (other_sees fresh past (entry step outcome table made) (other_side (side_of step)) (old.sides (other_side (side_of step))) (new.sides (other_side (side_of step))) (same_side-other (side_of step)) performs.other (sees (other_side (side_of step))))
