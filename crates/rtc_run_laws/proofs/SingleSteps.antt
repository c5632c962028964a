-- Each negotiating step keeps that no source of a line stands twice, where each was unused when it was drawn.
use Rattle.std.proofs.Common.{◌≡◌, ℕ, Bool, true, false, not, ◌&&◌, List, [], ◌∷◌, length, drop, Option, Some, None, Ok, Err, refl, sym, ap, ◌∙◌, subst}
use Rattle.std.specs.Prelude.{IfSome, alloc_error, Result}
use Rattle.std.specs.List.{AllByRecursion}
use Rattle.std.proofs.Math.Seq.{drop-append_seam}
use Rattle.rtc_sdp_values.specs.declared.direction.Direction.TheVariants.{Inactive}
use Rattle.rtc_sdp_values.specs.declared.sdp.Sdp.{Sdp}
use Rattle.rtc_sdp_writer.specs.AsRead.{AreSourcesApart}
use Rattle.rtc_parts.specs.declared.dtls_error.DtlsError.TheVariants.{WouldBlock, Fault, Alloc as DtlsAlloc}
use Rattle.rtc_parts.specs.declared.media_update.MediaUpdate.{MediaUpdate}
use Rattle.rtc_change.specs.declared.change.Change.{Change}
use Rattle.rtc_change.specs.PendingOffer.{PendingOffer}
use Rattle.rtc_peer_rows.specs.RowChanges.{RowChange, directed_row, stopped_row}
use Rattle.rtc_sdp_values.specs.declared.direction.Direction.{Direction}
use Rattle.std.specs.declared.alloc.AllocError.{AllocError}
use Rattle.rtc_peer_core.specs.declared.peer.Peer.{Peer}
use Rattle.rtc_peer_core.specs.declared.rtc_error.RtcError.{RtcError}
use Rattle.rtc_peer_core.specs.declared.rtc_error.RtcError.TheVariants.{RemoteSdp, Sdp as SdpRefused, Dtls, Sctp, Net, Media as MediaFailed, ChangesOutOfOrder, BadChannel, Alloc as PeerAlloc, Glare}
use Rattle.rtc_peer_core.specs.Acceptances.{followed_restart, answer_ids, updates_for, init_answered}
use Rattle.rtc_peer_core.specs.DrawnSources.{AreStagedUnused}
use Rattle.rtc_peer_core.specs.MadeSdp.{answer_sdp}
use Rattle.rtc_peer_core.specs.Meanings.{Meanings, PartsLaws}
use Rattle.rtc_peer_core.specs.Stance.{Stance, stance_of}
use Rattle.rtc_peer_core.proofs.ApartSources.{IsSingleUpdate, AreStagedSingle, AreLinesSingle, staged_single, told_updates_single, line_after_single}
use Rattle.rtc_peer_core.proofs.StanceMoves.{tells_media}
use Rattle.rtc_peer_core.proofs.StanceTaken.{StanceAcceptsOffer, StanceAcceptsAnswer}
use Rattle.rtc_peer_core.proofs.StanceCalls.{StanceChangesLine, StanceApplies, stance_alone}
use Rattle.rtc_run_history.specs.declared.kept.Kept.{Kept}
use Rattle.rtc_run_history.specs.declared.made.Made.{Made}
use Rattle.rtc_run_history.specs.declared.made.Made.TheVariants.{NotAsked, Nothing, Offer, Alloc as MadeAlloc}
use Rattle.rtc_run_history.specs.declared.op.Op.{Op}
use Rattle.rtc_run_history.specs.declared.op.Op.TheVariants.{AddMedia, SetDirection, StopMedia, AddChannel, IceRestart}
use Rattle.rtc_run_history.specs.declared.op_answer.OpAnswer.{OpAnswer}
use Rattle.rtc_run_history.specs.declared.op_answer.OpAnswer.TheVariants.{Mid, Changed, NoLine, Channel, BadChannel as NoChannel, Creds, Alloc as OpAlloc}
use Rattle.rtc_run_history.specs.declared.outcome.Outcome.{Outcome}
use Rattle.rtc_run_history.specs.declared.outcome.Outcome.TheVariants.{Negotiated, Answered, Finished, Refused, NoSuch, Alloc}
use Rattle.rtc_run_history.specs.declared.side.Side.{Side}
use Rattle.rtc_run_history.specs.declared.table.Table.{Table}
use Rattle.rtc_run_history.specs.DrawnInRuns.{IsOfferedUnused, AnswersByUnused, FinishesByUnused}
use Rattle.rtc_run_history.specs.Memory.{answers_lack}
use Rattle.rtc_run_history.specs.Performs.{StepAcceptsOffer, StepAcceptsAnswer, kept_offer, kept_answer, lent as lent_peer}
use Rattle.rtc_run_history.specs.Signalled.{Signalled, NotMade, Unreadable, Readable}
use Rattle.rtc_run_laws.proofs.StanceSteps.{StancePerformsOps, StanceMakesOf, StanceNegotiates, StanceStepAcceptsOffer, StanceStepAcceptsAnswer, lent}
use Rattle.rtc_run_laws.proofs.SingleSdps.{offer_apart, answer_apart, IsSingleKept, AreSingleKept, push_single, spent_single}
use Rattle.rtc_peer_core.specs.SdpMoves.{UpdatesMedia}

-- ---- lines of the media part, where nothing is accepted

change_line : (change : RowChange) (to : Direction) (s : Stance) (mid : List ℕ) (result : Result Bool AllocError) (t : Stance)
    → StanceChangesLine change to s mid result t → t.line ≡ s.line
change_line change to s mid (Ok true) t h = ap (λ r. r.line) h.1
change_line change to s mid (Ok false) t h = ap (λ r. r.line) h.1
change_line change to s mid (Err error) t h = ap (λ r. r.line) h

ops_line : (p q : Stance) (ops : List Op) (answers : List OpAnswer) → StancePerformsOps p ops answers q → q.line ≡ p.line
ops_line p q [] [] h = ap (λ s. s.line) h
ops_line p q (AddMedia kind dir ∷ ops) (Mid mid ∷ answers) h = ops_line h.0 q ops answers h.2 ∙ ap (λ s. s.line) h.1.rest
ops_line p q (AddMedia kind dir ∷ ops) (OpAlloc ∷ []) h = ap (λ s. s.line) h
ops_line p q (SetDirection place dir ∷ ops) (NoLine ∷ answers) h = ops_line p q ops answers h.1
ops_line p q (SetDirection place dir ∷ ops) (Changed changed ∷ answers) h =
    ops_line h.0 q ops answers h.2 ∙ change_line (directed_row dir) dir p h.1.mid (Ok changed) h.0 h.1.called
ops_line p q (SetDirection place dir ∷ ops) (OpAlloc ∷ []) h = change_line (directed_row dir) dir p h.mid (Err alloc_error) q h.called
ops_line p q (StopMedia place ∷ ops) (NoLine ∷ answers) h = ops_line p q ops answers h.1
ops_line p q (StopMedia place ∷ ops) (Changed changed ∷ answers) h =
    ops_line h.0 q ops answers h.2 ∙ change_line stopped_row Inactive p h.1.mid (Ok changed) h.0 h.1.called
ops_line p q (StopMedia place ∷ ops) (OpAlloc ∷ []) h = change_line stopped_row Inactive p h.mid (Err alloc_error) q h.called
ops_line p q (AddChannel config ∷ ops) (Channel id ∷ answers) h = ops_line h.0 q ops answers h.2 ∙ ap (λ s. s.line) h.1.rest
ops_line p q (AddChannel config ∷ ops) (NoChannel ∷ answers) h = ops_line h.0 q ops answers h.2 ∙ ap (λ s. s.line) h.1.1
ops_line p q (AddChannel config ∷ ops) (OpAlloc ∷ []) h = ap (λ s. s.line) h
ops_line p q (IceRestart keep ∷ ops) (Creds creds ∷ answers) h = ops_line h.0 q ops answers h.2 ∙ ap (λ s. s.line) h.1.1
ops_line p q (IceRestart keep ∷ ops) (OpAlloc ∷ []) h = ap (λ s. s.line) h
ops_line p q ops answers h = absurd h

alone_line : (changes : List Change) (s : Stance) → (stance_alone changes s).line ≡ s.line
alone_line [] s = refl
alone_line (change ∷ changes) s = refl

-- an offer or an answer that is not accepted
unaccepted_offer : (s : Stance) (offer : Sdp) (error : RtcError) (t : Stance) → StanceAcceptsOffer s offer (Err error) t → t.line ≡ s.line
unaccepted_offer s offer (RemoteSdp why) t h = ap (λ r. r.line) h.1.1
unaccepted_offer s offer (SdpRefused error) t h = ap (λ r. r.line) h.1.1
unaccepted_offer s offer (Dtls Fault) t h = ap (λ r. r.line) h.1.breaks.rest
unaccepted_offer s offer (Dtls WouldBlock) t h = absurd h
unaccepted_offer s offer (Dtls DtlsAlloc) t h = absurd h
unaccepted_offer s offer (Sctp error) t h = ap (λ r. r.line) h.2.breaks.rest
unaccepted_offer s offer ChangesOutOfOrder t h = absurd h
unaccepted_offer s offer (Net cause) t h = absurd h
unaccepted_offer s offer (MediaFailed cause) t h = absurd h
unaccepted_offer s offer BadChannel t h = absurd h
unaccepted_offer s offer Glare t h = ap (λ r. r.line) h.1
unaccepted_offer s offer PeerAlloc t h = ap (λ r. r.line) h.breaks.rest

unaccepted_answer : (s : Stance) (token : PendingOffer) (answer : Sdp) (error : RtcError) (t : Stance)
    → StanceAcceptsAnswer s token answer (Err error) t → t.line ≡ s.line
unaccepted_answer s token answer (RemoteSdp why) t h = ap (λ r. r.line) h.1.1
unaccepted_answer s token answer (SdpRefused error) t h = ap (λ r. r.line) h.1.1
unaccepted_answer s token answer (Dtls Fault) t h = ap (λ r. r.line) h.2.rest
unaccepted_answer s token answer (Dtls WouldBlock) t h = absurd h
unaccepted_answer s token answer (Dtls DtlsAlloc) t h = absurd h
unaccepted_answer s token answer (Sctp error) t h = ap (λ r. r.line) h.3.rest
unaccepted_answer s token answer ChangesOutOfOrder t h = ap (λ r. r.line) h.1
unaccepted_answer s token answer (Net cause) t h = absurd h
unaccepted_answer s token answer (MediaFailed cause) t h = absurd h
unaccepted_answer s token answer BadChannel t h = absurd h
unaccepted_answer s token answer Glare t h = absurd h
unaccepted_answer s token answer PeerAlloc t h = ap (λ r. r.line) h.1.rest

-- ---- what the acting peer does

-- what a side and the kept SDPs are like after a step
abbrev pub AreSingleBoth : Stance → List Kept → Type 0
AreSingleBoth s kept = AreLinesSingle s.line × AreSingleKept kept

pub same_line : (s t : Stance) → t.line ≡ s.line → AreLinesSingle s.line → AreLinesSingle t.line
same_line s t same single = subst AreLinesSingle (sym same) single

made_single : (used : ℕ → Bool) (at : Side) (p q : Stance) (made : Sdp × PendingOffer) → StanceApplies p (Ok (Some made)) q
    → AreStagedUnused used made.1.changes → AreLinesSingle p.line → IsSingleKept (kept_offer at made)
made_single used at p q made applies unused single =
    let changes : AreStagedSingle made.1.changes = staged_single used made.1.changes unused in
    let staged : AreStagedSingle p.staged = subst AreStagedSingle (ap (λ (token : PendingOffer). token.changes) applies.token) changes in
    record {
      apart = subst (λ (sdp : Sdp). AreSourcesApart sdp.lines) (sym applies.offered) (offer_apart p _ single staged);
      changes = changes;
    }

makes_single : (used : ℕ → Bool) (asked : Bool) (at : Side) (p q : Stance) (kept kept' : List Kept) (made : Made)
    → StanceMakesOf asked at p kept made q kept' → AllByRecursion (IsOfferedUnused used) (drop (length kept) kept') → AreLinesSingle p.line
    → AreSingleKept kept → AreSingleBoth q kept'
makes_single used false at p q kept kept' NotAsked h drew lines single = (same_line p q (ap (λ s. s.line) h.0) lines, rw h.1 single)
makes_single used true at p q kept kept' Nothing h drew lines single =
    (same_line p q (ap (λ s. s.line) h.0.1 ∙ alone_line p.staged p) lines, rw h.1 single)
makes_single used true at p q kept kept' MadeAlloc h drew lines single = (same_line p q (ap (λ s. s.line) h.0) lines, rw h.1 single)
makes_single used true at p q kept kept' (Offer k) h drew lines single =
    let last : List Kept = kept_offer at h.0 ∷ [] in
    let behind : drop (length kept) kept' ≡ last = ap (λ (all : List Kept). drop (length kept) all) h.2 ∙ drop-append_seam kept last in
    let one : AllByRecursion (IsOfferedUnused used) last = subst (AllByRecursion (IsOfferedUnused used)) behind drew in (
      same_line p q (ap (λ s. s.line) h.1.rest) lines,
      push_single kept kept' (kept_offer at h.0) h.2 (made_single used at p q h.0 h.1 one.0 lines) single,
    )
makes_single used asked at p q kept kept' made h drew lines single = absurd h

pub negotiates_single : {E : Type 0} → (used : ℕ → Bool) (at : Side) (ops : List Op) (apply : Bool) (old new : Stance) (kept kept' : List Kept)
    (outcome : Outcome E) (table : Option Table) → StanceNegotiates at ops apply old kept outcome table new kept'
    → AllByRecursion (IsOfferedUnused used) (drop (length kept) kept') → AreLinesSingle old.line → AreSingleKept kept
    → AreSingleBoth new kept'
negotiates_single used at ops apply old new kept kept' Alloc None h drew lines single =
    (same_line old new (ap (λ s. s.line) h.peer) lines, rw h.sdps_kept single)
negotiates_single used at ops apply old new kept kept' (Negotiated answers made) (Some table) h drew lines single =
    makes_single used (apply && not (answers_lack answers)) at h.0 new kept kept' made h.2 drew
    (same_line (lent old) h.0 (ops_line (lent old) h.0 ops answers h.1) lines) single
negotiates_single used at ops apply old new kept kept' outcome table h drew lines single = absurd h

module _ {I D S M E X T W N : Type 0} (m : Meanings I D S M E X T W N) (laws : PartsLaws m) where
  -- what the media part has once it was told of a description
  updated_single : (p q : Peer I D S M N) (offer : Bool) (changes : List Change) (sdp : Sdp) (ids : N)
      → UpdatesMedia m p.media (updates_for m p offer changes sdp ids) q.media → AreLinesSingle (m.media.line p.media)
      → AllByRecursion IsSingleUpdate (updates_for m p offer changes sdp ids) → AreLinesSingle (m.media.line q.media)
  updated_single p q offer changes sdp ids h lines all = λ mid.
      subst (λ (held : Option MediaUpdate). IfSome held IsSingleUpdate) (sym ((tells_media m laws p q offer changes sdp ids h).lines mid))
      (line_after_single (updates_for m p offer changes sdp ids) mid (m.media.line p.media mid) all (lines mid))

  pub step_offer_single : (at : Side) (offer : Signalled) (old new : Peer I D S M N) (kept kept' : List Kept) (outcome : Outcome E)
      (table : Option Table) → StepAcceptsOffer m at offer old kept outcome table new kept'
      → StanceStepAcceptsOffer at offer (stance_of m old) kept outcome table (stance_of m new) kept'
      → ((n : ℕ) → outcome ≡ Answered n → AnswersByUnused m old offer) → AreLinesSingle (m.media.line old.media) → AreSingleKept kept
      → AreSingleBoth (stance_of m new) kept'
  step_offer_single at NotMade old new kept kept' Alloc None h s drew lines single =
      (same_line (stance_of m old) (stance_of m new) (ap (λ r. r.line) s.peer) lines, rw s.sdps_kept single)
  step_offer_single at (Unreadable line) old new kept kept' Alloc None h s drew lines single =
      (same_line (stance_of m old) (stance_of m new) (ap (λ r. r.line) s.peer) lines, rw s.sdps_kept single)
  step_offer_single at (Readable sdp) old new kept kept' Alloc None h s drew lines single =
      (same_line (stance_of m old) (stance_of m new) (ap (λ r. r.line) s.peer) lines, rw s.sdps_kept single)
  step_offer_single at NotMade old new kept kept' NoSuch (Some table) h s drew lines single =
      (same_line (stance_of m old) (stance_of m new) (ap (λ r. r.line) s.0.peer) lines, rw s.0.sdps_kept single)
  step_offer_single at (Unreadable line) old new kept kept' (Refused error) (Some table) h s drew lines single =
      (same_line (stance_of m old) (stance_of m new) (ap (λ r. r.line) s.1.peer) lines, rw s.1.sdps_kept single)
  step_offer_single at (Readable sdp) old new kept kept' (Answered n) (Some table) h s drew lines single =
      let p : Peer I D S M N = lent_peer old in
      let ids : N = answer_ids m p sdp in
      let told : List MediaUpdate = updates_for m p true [] sdp ids in
      let all : AllByRecursion IsSingleUpdate told = told_updates_single m p true [] sdp ids lines tt (drew n refl) in
      let answer : Sdp = answer_sdp (stance_of m p) (followed_restart m p sdp) told (init_answered m p sdp) sdp in
      let whole : AreSourcesApart answer.lines =
      answer_apart (stance_of m p) (followed_restart m p sdp) told (init_answered m p sdp) sdp lines all in
      let apart : AreSourcesApart h.0.lines = subst (λ (made : Sdp). AreSourcesApart made.lines) (sym h.1.answered) whole in (
        updated_single p new true [] sdp ids h.1.media_updated lines all,
        push_single kept kept' (kept_answer at h.0) h.2 (record { apart = apart; changes = tt }) single,
      )
  step_offer_single at (Readable sdp) old new kept kept' (Refused error) (Some table) h s drew lines single = (
    same_line (stance_of m old) (stance_of m new) (unaccepted_offer (lent (stance_of m old)) sdp error (stance_of m new) s.0) lines,
    rw s.1 single,
  )
  step_offer_single at offer old new kept kept' outcome table h s drew lines single = absurd s

  pub step_answer_single : (t : ℕ) (token : Option PendingOffer) (answer : Signalled) (old new : Peer I D S M N) (kept kept' : List Kept)
      (outcome : Outcome E) (table : Option Table) → StepAcceptsAnswer m t token answer old kept outcome table new kept'
      → StanceStepAcceptsAnswer t token answer (stance_of m old) kept outcome table (stance_of m new) kept'
      → (outcome ≡ Finished → FinishesByUnused m old token answer) → IfSome token (λ one. AreStagedSingle one.changes)
      → AreLinesSingle (m.media.line old.media) → AreSingleKept kept → AreSingleBoth (stance_of m new) kept'
  step_answer_single t None NotMade old new kept kept' Alloc None h s drew changes lines single =
      (same_line (stance_of m old) (stance_of m new) (ap (λ r. r.line) s.peer) lines, rw s.sdps_kept single)
  step_answer_single t None (Unreadable line) old new kept kept' Alloc None h s drew changes lines single =
      (same_line (stance_of m old) (stance_of m new) (ap (λ r. r.line) s.peer) lines, rw s.sdps_kept single)
  step_answer_single t None (Readable sdp) old new kept kept' Alloc None h s drew changes lines single =
      (same_line (stance_of m old) (stance_of m new) (ap (λ r. r.line) s.peer) lines, rw s.sdps_kept single)
  step_answer_single t (Some token) NotMade old new kept kept' Alloc None h s drew changes lines single =
      (same_line (stance_of m old) (stance_of m new) (ap (λ r. r.line) s.peer) lines, rw s.sdps_kept single)
  step_answer_single t (Some token) (Unreadable line) old new kept kept' Alloc None h s drew changes lines single =
      (same_line (stance_of m old) (stance_of m new) (ap (λ r. r.line) s.peer) lines, rw s.sdps_kept single)
  step_answer_single t (Some token) (Readable sdp) old new kept kept' Alloc None h s drew changes lines single =
      (same_line (stance_of m old) (stance_of m new) (ap (λ r. r.line) s.peer) lines, rw s.sdps_kept single)
  step_answer_single t None NotMade old new kept kept' NoSuch (Some table) h s drew changes lines single =
      (same_line (stance_of m old) (stance_of m new) (ap (λ r. r.line) s.0.peer) lines, rw s.0.sdps_kept single)
  step_answer_single t None (Unreadable line) old new kept kept' NoSuch (Some table) h s drew changes lines single =
      (same_line (stance_of m old) (stance_of m new) (ap (λ r. r.line) s.0.peer) lines, rw s.0.sdps_kept single)
  step_answer_single t None (Readable sdp) old new kept kept' NoSuch (Some table) h s drew changes lines single =
      (same_line (stance_of m old) (stance_of m new) (ap (λ r. r.line) s.0.peer) lines, rw s.0.sdps_kept single)
  step_answer_single t (Some token) NotMade old new kept kept' NoSuch (Some table) h s drew changes lines single =
      (same_line (stance_of m old) (stance_of m new) (ap (λ r. r.line) s.0.peer) lines, rw s.0.sdps_kept single)
  step_answer_single t (Some token) (Unreadable line) old new kept kept' (Refused error) (Some table) h s drew changes lines single =
      (same_line (stance_of m old) (stance_of m new) (ap (λ r. r.line) s.1.peer) lines, rw s.1.sdps_kept single)
  step_answer_single t (Some token) (Readable sdp) old new kept kept' Finished (Some table) h s drew changes lines single =
      let p : Peer I D S M N = lent_peer old in
      let told : List MediaUpdate = updates_for m p false token.changes sdp p.ids in
      let all : AllByRecursion IsSingleUpdate told = told_updates_single m p false token.changes sdp p.ids lines changes (drew refl) in
      (updated_single p new false token.changes sdp p.ids h.0.media_updated lines all, rw h.1 (spent_single t kept single))
  step_answer_single t (Some token) (Readable sdp) old new kept kept' (Refused error) (Some table) h s drew changes lines single = (
    same_line (stance_of m old) (stance_of m new) (unaccepted_answer (lent (stance_of m old)) token sdp error (stance_of m new) s.0) lines,
    rw s.1 (spent_single t kept single),
  )
  step_answer_single t token answer old new kept kept' outcome table h s drew changes lines single = absurd s
