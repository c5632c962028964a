-- Steps of negotiation set no threshold at the peer that acts, and leave a closed one closed.
use Rattle.std.proofs.Common.{◌≡◌, ◌∷◌, ◌&&◌, not, ℕ, Bool, true, false, List, [], Option, Some, None, Result, Ok, Err, alloc_error, refl, ap, ◌∙◌, arith}
use Rattle.std.specs.declared.alloc.AllocError.{AllocError}
use Rattle.rtc_sdp_values.specs.declared.direction.Direction.{Direction}
use Rattle.rtc_sdp_values.specs.declared.direction.Direction.TheVariants.{Inactive}
use Rattle.rtc_sctp.specs.Streams.{SctpStreams}
use Rattle.rtc_peer_rows.specs.RowChanges.{RowChange, directed_row, stopped_row}
use Rattle.rtc_change.specs.PendingOffer.{PendingOffer}
use Rattle.rtc_peer_core.specs.declared.peer.Peer.{Peer}
use Rattle.rtc_peer_core.specs.declared.phase.Phase.TheVariants.{Closed}
use Rattle.rtc_peer_core.specs.Calls.{ChangesLine}
use Rattle.rtc_peer_core.specs.Meanings.{Meanings, PartsLaws}
use Rattle.rtc_peer_laws.specs.Weight.{HasNoThreshold, thresholds_asked}
use Rattle.rtc_peer_laws.proofs.ToldCalls.{answers_closed, applies_closed, offers_closed, rollbacks_closed}
use Rattle.rtc_peer_laws.proofs.SetsNone.{answers_set_none, applies_set_none, offers_set_none, rollbacks_set_none}
use Rattle.rtc_run_history.specs.declared.kept.Kept.{Kept}
use Rattle.rtc_run_history.specs.declared.made.Made.{Made}
use Rattle.rtc_run_history.specs.declared.made.Made.TheVariants.{NotAsked, Nothing, Offer, Alloc as MadeAlloc}
use Rattle.rtc_run_history.specs.declared.op.Op.{Op}
use Rattle.rtc_run_history.specs.declared.op.Op.TheVariants.{AddMedia, SetDirection, StopMedia, AddChannel, IceRestart}
use Rattle.rtc_run_history.specs.declared.op_answer.OpAnswer.{OpAnswer}
use Rattle.rtc_run_history.specs.declared.op_answer.OpAnswer.TheVariants.{Mid, Changed, NoLine, Channel, Creds}
use Rattle.rtc_run_history.specs.declared.op_answer.OpAnswer.TheVariants.{BadChannel as NoChannel, Alloc as OpAlloc}
use Rattle.rtc_run_history.specs.declared.outcome.Outcome.{Outcome}
use Rattle.rtc_run_history.specs.declared.outcome.Outcome.TheVariants.{Negotiated, Answered, Finished, Done, Refused, NoSuch, Alloc}
use Rattle.rtc_run_history.specs.declared.side.Side.{Side}
use Rattle.rtc_run_history.specs.declared.table.Table.{Table}
use Rattle.rtc_run_history.specs.Memory.{answers_lack}
use Rattle.rtc_run_history.specs.Performs.{PerformsOps, MakesOf, Negotiates, StepAcceptsAnswer, StepAcceptsOffer, StepRollsBack, lent}
use Rattle.rtc_run_history.specs.Signalled.{Signalled, NotMade, Unreadable, Readable}

module _ {I D S M E X T W N : Type 0} (m : Meanings I D S M E X T W N) (laws : PartsLaws m) where
  abbrev pub KeepsCore : Peer I D S M N → Peer I D S M N → Type 0
  KeepsCore p q = (HasNoThreshold m p → HasNoThreshold m q) × (p.phase ≡ Closed → q.phase ≡ Closed)

  -- streams and moment stay
  core_same : (p n q : Peer I D S M N) → q ≡ n → n.sctp ≡ p.sctp → n.greatest ≡ p.greatest → n.phase ≡ p.phase → KeepsCore p q
  core_same p n q is streams moment phase = (
    λ h. record {
      stands = ap (λ (x : Peer I D S M N). m.association.has_threshold x.sctp.association) is ∙ ap (λ (x : SctpStreams S). m.association.has_threshold x.association) streams ∙ h.stands;
      asked = ap (λ (x : Peer I D S M N). thresholds_asked x.sctp.entries) is ∙ ap (λ (x : SctpStreams S). thresholds_asked x.entries) streams ∙ h.asked;
      moment = omega (arith, ap (λ (x : Peer I D S M N). x.greatest) is, moment, h.moment);
    },
    λ e. ap (λ (x : Peer I D S M N). x.phase) is ∙ phase ∙ e,
  )

  core_self : (p q : Peer I D S M N) → q ≡ p → KeepsCore p q
  core_self p q is = core_same p p q is refl refl refl

  core_on : (p b q : Peer I D S M N) → KeepsCore p b → KeepsCore b q → KeepsCore p q
  core_on p b q h k = (λ x. k.0 (h.0 x), λ e. k.1 (h.1 e))

  -- ---- ops

  line : (change : RowChange) (to : Direction) (p : Peer I D S M N) (mid : List ℕ) (r : Result Bool AllocError) (q : Peer I D S M N)
      → ChangesLine change to p mid r q → KeepsCore p q
  line change to p mid (Ok true) q h = core_same p _ q h.1 refl refl refl
  line change to p mid (Ok false) q h = core_self p q h.1
  line change to p mid (Err error) q h = core_self p q h

  ops_keep : (p : Peer I D S M N) (ops : List Op) (answers : List OpAnswer) (q : Peer I D S M N) → PerformsOps m p ops answers q → KeepsCore p q
  ops_keep p [] [] q h = core_self p q h
  ops_keep p (AddMedia kind dir ∷ ops) (Mid mid ∷ answers) q h = core_on p h.0 q (core_same p _ h.0 h.1.1 refl refl refl) (ops_keep h.0 ops answers q h.2)
  ops_keep p (AddMedia kind dir ∷ ops) (OpAlloc ∷ []) q h = core_same p _ q h.1 refl refl refl
  ops_keep p (SetDirection place dir ∷ ops) (NoLine ∷ answers) q h = ops_keep p ops answers q h.1
  ops_keep p (SetDirection place dir ∷ ops) (Changed changed ∷ answers) q h =
      core_on p h.0 q (line (directed_row dir) dir p h.1.mid (Ok changed) h.0 h.1.called) (ops_keep h.0 ops answers q h.2)
  ops_keep p (SetDirection place dir ∷ ops) (OpAlloc ∷ []) q h = line (directed_row dir) dir p h.mid (Err alloc_error) q h.called
  ops_keep p (StopMedia place ∷ ops) (NoLine ∷ answers) q h = ops_keep p ops answers q h.1
  ops_keep p (StopMedia place ∷ ops) (Changed changed ∷ answers) q h =
      core_on p h.0 q (line stopped_row Inactive p h.1.mid (Ok changed) h.0 h.1.called) (ops_keep h.0 ops answers q h.2)
  ops_keep p (StopMedia place ∷ ops) (OpAlloc ∷ []) q h = line stopped_row Inactive p h.mid (Err alloc_error) q h.called
  ops_keep p (AddChannel config ∷ ops) (Channel id ∷ answers) q h = core_on p h.0 q (core_same p _ h.0 h.1.2 refl refl refl) (ops_keep h.0 ops answers q h.2)
  ops_keep p (AddChannel config ∷ ops) (NoChannel ∷ answers) q h = core_on p h.0 q (core_self p h.0 h.1.1) (ops_keep h.0 ops answers q h.2)
  ops_keep p (AddChannel config ∷ ops) (OpAlloc ∷ []) q h = core_same p _ q h.1 refl refl refl
  ops_keep p (IceRestart keep ∷ ops) (Creds creds ∷ answers) q h = core_on p h.0 q (core_same p _ h.0 h.1.1 refl refl refl) (ops_keep h.0 ops answers q h.2)
  ops_keep p (IceRestart keep ∷ ops) (OpAlloc ∷ []) q h = core_same p _ q h.1 refl refl refl
  ops_keep p ops answers q h = absurd h

  makes_keep : (asked : Bool) (at : Side) (p : Peer I D S M N) (sdps : List Kept) (made : Made) (q : Peer I D S M N) (sdps' : List Kept)
      → MakesOf m asked at p sdps made q sdps' → KeepsCore p q
  makes_keep false at p sdps NotAsked q sdps' h = core_self p q h.0
  makes_keep true at p sdps Nothing q sdps' h = (λ k. applies_set_none m laws p q (Ok None) k h.0, applies_closed m p q (Ok None) h.0)
  makes_keep true at p sdps (Offer n) q sdps' h = (λ k. applies_set_none m laws p q (Ok (Some h.0)) k h.1, applies_closed m p q (Ok (Some h.0)) h.1)
  makes_keep true at p sdps MadeAlloc q sdps' h = (λ k. applies_set_none m laws p q (Err alloc_error) k h.0, applies_closed m p q (Err alloc_error) h.0)
  makes_keep asked at p sdps made q sdps' h = absurd h

  lent_keeps : (p : Peer I D S M N) → KeepsCore p (lent p)
  lent_keeps p = core_same p (lent p) (lent p) refl refl refl refl

  -- ---- steps

  pub negotiates_keep : (at : Side) (ops : List Op) (apply : Bool) (old : Peer I D S M N) (sdps : List Kept) (outcome : Outcome E) (table : Option Table)
      (new : Peer I D S M N) (sdps' : List Kept) → Negotiates m at ops apply old sdps outcome table new sdps' → KeepsCore old new
  negotiates_keep at ops apply old sdps Alloc None new sdps' h = core_self old new h.peer
  negotiates_keep at ops apply old sdps (Negotiated answers made) (Some table) new sdps' h =
      core_on old (lent old) new (lent_keeps old)
      (core_on (lent old) h.0 new (ops_keep (lent old) ops answers h.0 h.1) (makes_keep (apply && not (answers_lack answers)) at h.0 sdps made new sdps' h.2))
  negotiates_keep at ops apply old sdps outcome table new sdps' h = absurd h

  pub offer_keeps : (at : Side) (offer : Signalled) (old : Peer I D S M N) (sdps : List Kept) (outcome : Outcome E) (table : Option Table)
      (new : Peer I D S M N) (sdps' : List Kept) → StepAcceptsOffer m at offer old sdps outcome table new sdps' → KeepsCore old new
  offer_keeps at NotMade old sdps Alloc None new sdps' h = core_self old new h.peer
  offer_keeps at (Unreadable line) old sdps Alloc None new sdps' h = core_self old new h.peer
  offer_keeps at (Readable sdp) old sdps Alloc None new sdps' h = core_self old new h.peer
  offer_keeps at NotMade old sdps NoSuch (Some table) new sdps' h = core_self old new h.0.peer
  offer_keeps at (Unreadable line) old sdps (Refused error) (Some table) new sdps' h = core_self old new h.1.peer
  offer_keeps at (Readable sdp) old sdps (Answered n) (Some table) new sdps' h =
      core_on old (lent old) new (lent_keeps old) (λ k. offers_set_none m laws (lent old) new sdp (Ok h.0) k h.1, offers_closed m (lent old) new sdp (Ok h.0) h.1)
  offer_keeps at (Readable sdp) old sdps (Refused error) (Some table) new sdps' h =
      core_on old (lent old) new (lent_keeps old) (λ k. offers_set_none m laws (lent old) new sdp (Err error) k h.0, offers_closed m (lent old) new sdp (Err error) h.0)
  offer_keeps at offer old sdps outcome table new sdps' h = absurd h

  pub answer_keeps : (t : ℕ) (token : Option PendingOffer) (answer : Signalled) (old : Peer I D S M N) (sdps : List Kept) (outcome : Outcome E)
      (table : Option Table) (new : Peer I D S M N) (sdps' : List Kept) → StepAcceptsAnswer m t token answer old sdps outcome table new sdps' → KeepsCore old new
  answer_keeps t None NotMade old sdps Alloc None new sdps' h = core_self old new h.peer
  answer_keeps t None (Unreadable line) old sdps Alloc None new sdps' h = core_self old new h.peer
  answer_keeps t None (Readable sdp) old sdps Alloc None new sdps' h = core_self old new h.peer
  answer_keeps t (Some token) NotMade old sdps Alloc None new sdps' h = core_self old new h.peer
  answer_keeps t (Some token) (Unreadable line) old sdps Alloc None new sdps' h = core_self old new h.peer
  answer_keeps t (Some token) (Readable sdp) old sdps Alloc None new sdps' h = core_self old new h.peer
  answer_keeps t None NotMade old sdps NoSuch (Some table) new sdps' h = core_self old new h.0.peer
  answer_keeps t None (Unreadable line) old sdps NoSuch (Some table) new sdps' h = core_self old new h.0.peer
  answer_keeps t None (Readable sdp) old sdps NoSuch (Some table) new sdps' h = core_self old new h.0.peer
  answer_keeps t (Some token) NotMade old sdps NoSuch (Some table) new sdps' h = core_self old new h.0.peer
  answer_keeps t (Some token) (Unreadable line) old sdps (Refused error) (Some table) new sdps' h = core_self old new h.1.peer
  answer_keeps t (Some token) (Readable sdp) old sdps Finished (Some table) new sdps' h =
      core_on old (lent old) new (lent_keeps old) (λ k. answers_set_none m laws (lent old) new token sdp (Ok tt) k h.0, answers_closed m (lent old) new token sdp (Ok tt) h.0)
  answer_keeps t (Some token) (Readable sdp) old sdps (Refused error) (Some table) new sdps' h =
      core_on old (lent old) new (lent_keeps old) (λ k. answers_set_none m laws (lent old) new token sdp (Err error) k h.0, answers_closed m (lent old) new token sdp (Err error) h.0)
  answer_keeps t token answer old sdps outcome table new sdps' h = absurd h

  pub rollback_keeps : (t : ℕ) (token : Option PendingOffer) (old : Peer I D S M N) (sdps : List Kept) (outcome : Outcome E) (table : Option Table)
      (new : Peer I D S M N) (sdps' : List Kept) → StepRollsBack m t token old sdps outcome table new sdps' → KeepsCore old new
  rollback_keeps t None old sdps Alloc None new sdps' h = core_self old new h.peer
  rollback_keeps t (Some token) old sdps Alloc None new sdps' h = core_self old new h.peer
  rollback_keeps t None old sdps NoSuch (Some table) new sdps' h = core_self old new h.0.peer
  rollback_keeps t (Some token) old sdps Done (Some table) new sdps' h =
      core_on old (lent old) new (lent_keeps old) (λ k. rollbacks_set_none m laws (lent old) new token (Ok tt) k h.0, rollbacks_closed m (lent old) new token (Ok tt) h.0)
  rollback_keeps t (Some token) old sdps (Refused error) (Some table) new sdps' h =
      core_on old (lent old) new (lent_keeps old) (λ k. rollbacks_set_none m laws (lent old) new token (Err error) k h.0, rollbacks_closed m (lent old) new token (Err error) h.0)
  rollback_keeps t token old sdps outcome table new sdps' h = absurd h
