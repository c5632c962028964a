-- Steps of negotiation keep the use of each stream, and live channels.
use Rattle.std.proofs.Common.{◌≡◌, ◌∙◌, ◌∷◌, Bool, true, false, not, ◌&&◌, ℕ, List, [], Option, Some, None, Result, Ok, Err, alloc_error, refl, ap}
use Rattle.std.specs.declared.alloc.AllocError.{AllocError}
use Rattle.rtc_parts.specs.AssociationLaws.{AssociationLaws}
use Rattle.rtc_sdp_values.specs.declared.direction.Direction.{Direction}
use Rattle.rtc_sdp_values.specs.declared.direction.Direction.TheVariants.{Inactive}
use Rattle.rtc_peer_rows.specs.RowChanges.{RowChange, directed_row, stopped_row}
use Rattle.rtc_change.specs.PendingOffer.{PendingOffer}
use Rattle.rtc_peer_core.specs.declared.peer.Peer.{Peer}
use Rattle.rtc_peer_core.specs.declared.rtc_error.RtcError.TheVariants.{BadChannel, Alloc as PeerAlloc}
use Rattle.rtc_peer_core.specs.Calls.{ChangesLine}
use Rattle.rtc_peer_core.specs.Meanings.{Meanings}
use Rattle.rtc_peer_transport.specs.declared.polled_peer.PolledPeer.{PolledPeer}
use Rattle.rtc_peer_laws.specs.Acts.{with_core}
use Rattle.rtc_peer_laws.specs.KeptChannels.{CallKeepsStreams, CallLeavesStreams}
use Rattle.rtc_peer_laws.proofs.KeptAcceptances.{answer_keeps, offer_keeps}
use Rattle.rtc_peer_laws.proofs.KeptPeers.{calls_on, same_kept}
use Rattle.rtc_peer_laws.proofs.KeptRollbacks.{leaves_of, rolled_back}
use Rattle.rtc_peer_laws.proofs.KeptStaging.{applied, channel_added}
use Rattle.rtc_run_history.specs.Signalled.{Signalled, NotMade, Unreadable, Readable}
use Rattle.rtc_run_history.specs.declared.side.Side.{Side}
use Rattle.rtc_run_history.specs.declared.op.Op.{Op}
use Rattle.rtc_run_history.specs.declared.op.Op.TheVariants.{AddMedia, SetDirection, StopMedia, AddChannel, IceRestart}
use Rattle.rtc_run_history.specs.declared.op_answer.OpAnswer.{OpAnswer}
use Rattle.rtc_run_history.specs.declared.op_answer.OpAnswer.TheVariants.{Mid, Changed, NoLine, Channel, Creds}
use Rattle.rtc_run_history.specs.declared.op_answer.OpAnswer.TheVariants.{BadChannel as NoChannel, Alloc as OpAlloc}
use Rattle.rtc_run_history.specs.declared.made.Made.{Made}
use Rattle.rtc_run_history.specs.declared.made.Made.TheVariants.{NotAsked, Nothing, Offer, Alloc as MadeAlloc}
use Rattle.rtc_run_history.specs.declared.outcome.Outcome.{Outcome}
use Rattle.rtc_run_history.specs.declared.outcome.Outcome.TheVariants.{Negotiated, Answered, Finished, Done, Refused, NoSuch, Alloc}
use Rattle.rtc_run_history.specs.declared.table.Table.{Table}
use Rattle.rtc_run_history.specs.declared.kept.Kept.{Kept}
use Rattle.rtc_run_history.specs.Memory.{answers_lack}
use Rattle.rtc_run_history.specs.Performs.{PerformsOps, MakesOf, Negotiates, StepAcceptsOffer, StepAcceptsAnswer, StepRollsBack, lent}

module _ {I D S M E X T W N : Type 0} (m : Meanings I D S M E X T W N) where
  -- streams, channels and the phase are those of another peer
  same_core : (old : PolledPeer I D S M N) (p n q : Peer I D S M N) → q ≡ n → n.sctp ≡ p.sctp → n.channels ≡ p.channels → n.phase ≡ p.phase
      → CallKeepsStreams m (with_core p old) [] (with_core q old)
  same_core old p n q is sctp channels phase =
      same_kept m (with_core p old) (with_core q old) (
        ap (λ (x : Peer I D S M N). x.sctp) is ∙ sctp,
        ap (λ (x : Peer I D S M N). x.channels) is ∙ channels,
        λ k. ap (λ (x : Peer I D S M N). x.phase) is ∙ phase ∙ k,
      )

  core_on : (old : PolledPeer I D S M N) (p b q : Peer I D S M N) → CallKeepsStreams m (with_core p old) [] (with_core b old)
      → CallKeepsStreams m (with_core b old) [] (with_core q old) → CallKeepsStreams m (with_core p old) [] (with_core q old)
  core_on old p b q h k = calls_on m (with_core p old) (with_core b old) (with_core q old) h k

  line_keeps : (old : PolledPeer I D S M N) (change : RowChange) (to : Direction) (p : Peer I D S M N) (mid : List ℕ) (r : Result Bool AllocError)
      (q : Peer I D S M N) → ChangesLine change to p mid r q → CallKeepsStreams m (with_core p old) [] (with_core q old)
  line_keeps old change to p mid (Ok true) q h = same_core old p _ q h.1 refl refl refl
  line_keeps old change to p mid (Ok false) q h = same_core old p p q h.1 refl refl refl
  line_keeps old change to p mid (Err error) q h = same_core old p p q h refl refl refl

  ops_keep : (old : PolledPeer I D S M N) (p : Peer I D S M N) (ops : List Op) (answers : List OpAnswer) (q : Peer I D S M N) → PerformsOps m p ops answers q
      → CallKeepsStreams m (with_core p old) [] (with_core q old)
  ops_keep old p [] [] q h = same_core old p p q h refl refl refl
  ops_keep old p (AddMedia kind dir ∷ ops) (Mid mid ∷ answers) q h =
      core_on old p h.0 q (same_core old p _ h.0 h.1.1 refl refl refl) (ops_keep old h.0 ops answers q h.2)
  ops_keep old p (AddMedia kind dir ∷ ops) (OpAlloc ∷ []) q h = same_core old p _ q h.1 refl refl refl
  ops_keep old p (SetDirection place dir ∷ ops) (NoLine ∷ answers) q h = ops_keep old p ops answers q h.1
  ops_keep old p (SetDirection place dir ∷ ops) (Changed changed ∷ answers) q h =
      core_on old p h.0 q (line_keeps old (directed_row dir) dir p h.1.mid (Ok changed) h.0 h.1.called) (ops_keep old h.0 ops answers q h.2)
  ops_keep old p (SetDirection place dir ∷ ops) (OpAlloc ∷ []) q h = line_keeps old (directed_row dir) dir p h.mid (Err alloc_error) q h.called
  ops_keep old p (StopMedia place ∷ ops) (NoLine ∷ answers) q h = ops_keep old p ops answers q h.1
  ops_keep old p (StopMedia place ∷ ops) (Changed changed ∷ answers) q h =
      core_on old p h.0 q (line_keeps old stopped_row Inactive p h.1.mid (Ok changed) h.0 h.1.called) (ops_keep old h.0 ops answers q h.2)
  ops_keep old p (StopMedia place ∷ ops) (OpAlloc ∷ []) q h = line_keeps old stopped_row Inactive p h.mid (Err alloc_error) q h.called
  ops_keep old p (AddChannel config ∷ ops) (Channel id ∷ answers) q h =
      core_on old p h.0 q (channel_added m (with_core p old) config (Ok id) h.0 h.1) (ops_keep old h.0 ops answers q h.2)
  ops_keep old p (AddChannel config ∷ ops) (NoChannel ∷ answers) q h =
      core_on old p h.0 q (channel_added m (with_core p old) config (Err BadChannel) h.0 h.1) (ops_keep old h.0 ops answers q h.2)
  ops_keep old p (AddChannel config ∷ ops) (OpAlloc ∷ []) q h = channel_added m (with_core p old) config (Err PeerAlloc) q h
  ops_keep old p (IceRestart keep ∷ ops) (Creds creds ∷ answers) q h =
      core_on old p h.0 q (same_core old p _ h.0 h.1.1 refl refl refl) (ops_keep old h.0 ops answers q h.2)
  ops_keep old p (IceRestart keep ∷ ops) (OpAlloc ∷ []) q h = same_core old p _ q h.1 refl refl refl
  ops_keep old p ops answers q h = absurd h

  makes_keep : (old : PolledPeer I D S M N) (asked : Bool) (at : Side) (p : Peer I D S M N) (sdps : List Kept) (made : Made) (q : Peer I D S M N)
      (sdps' : List Kept) → MakesOf m asked at p sdps made q sdps' → CallKeepsStreams m (with_core p old) [] (with_core q old)
  makes_keep old false at p sdps NotAsked q sdps' h = same_core old p p q h.0 refl refl refl
  makes_keep old true at p sdps Nothing q sdps' h = applied m (with_core p old) (Ok None) q h.0
  makes_keep old true at p sdps (Offer k) q sdps' h = applied m (with_core p old) (Ok (Some h.0)) q h.1
  makes_keep old true at p sdps MadeAlloc q sdps' h = applied m (with_core p old) (Err alloc_error) q h.0
  makes_keep old asked at p sdps made q sdps' h = absurd h

  -- dropping what was staged, and the connection, are no matter of streams
  lent_keep : (old new : PolledPeer I D S M N) → CallKeepsStreams m (with_core (lent old.core) old) [] (with_core new.core old)
      → CallKeepsStreams m old [] new
  lent_keep old new h = record { uses = h.uses; lives = h.lives; numbers = h.numbers; gone = h.gone; closed = h.closed; running = h.running; given = h.given; fresh = h.fresh; holds = h.holds; changed = h.changed }

  same_keep : (old new : PolledPeer I D S M N) → new.core ≡ old.core → CallKeepsStreams m old [] new
  same_keep old new same = lent_keep old new (same_core old (lent old.core) old.core new.core same refl refl refl)

  pub negotiates_keep : (at : Side) (ops : List Op) (apply : Bool) (old : PolledPeer I D S M N) (sdps : List Kept) (outcome : Outcome E)
      (table : Option Table) (new : PolledPeer I D S M N) (sdps' : List Kept)
      → Negotiates m at ops apply old.core sdps outcome table new.core sdps' → CallKeepsStreams m old [] new
  negotiates_keep at ops apply old sdps Alloc None new sdps' h = same_keep old new h.peer
  negotiates_keep at ops apply old sdps (Negotiated answers made) (Some table) new sdps' h =
      lent_keep old new
      (core_on old (lent old.core) h.0 new.core (ops_keep old (lent old.core) ops answers h.0 h.1)
      (makes_keep old (apply && not (answers_lack answers)) at h.0 sdps made new.core sdps' h.2))
  negotiates_keep at ops apply old sdps outcome table new sdps' h = absurd h

  -- a rollback may remove channels
  lent_leave : (old new : PolledPeer I D S M N) → CallLeavesStreams m (with_core (lent old.core) old) [] (with_core new.core old)
      → CallLeavesStreams m old [] new
  lent_leave old new h = record { uses = h.uses; lives = h.lives; numbers = h.numbers; gone = h.gone; closed = h.closed; running = h.running; given = h.given; fresh = h.fresh; holds = h.holds }

  pub rollback_leaves : (t : ℕ) (token : Option PendingOffer) (old : PolledPeer I D S M N) (sdps : List Kept) (outcome : Outcome E)
      (table : Option Table) (new : PolledPeer I D S M N) (sdps' : List Kept) → StepRollsBack m t token old.core sdps outcome table new.core sdps'
      → CallLeavesStreams m old [] new
  rollback_leaves t None old sdps Alloc None new sdps' h = leaves_of m old new [] (same_keep old new h.peer)
  rollback_leaves t (Some token) old sdps Alloc None new sdps' h = leaves_of m old new [] (same_keep old new h.peer)
  rollback_leaves t None old sdps NoSuch (Some table) new sdps' h = leaves_of m old new [] (same_keep old new h.0.peer)
  rollback_leaves t (Some token) old sdps Done (Some table) new sdps' h =
      lent_leave old new (rolled_back m (with_core (lent old.core) old) token (Ok tt) new.core h.0)
  rollback_leaves t (Some token) old sdps (Refused error) (Some table) new sdps' h =
      lent_leave old new (rolled_back m (with_core (lent old.core) old) token (Err error) new.core h.0)
  rollback_leaves t token old sdps outcome table new sdps' h = absurd h

  module _ (w : AssociationLaws m.association) where
    pub offer_step_keeps : (at : Side) (offer : Signalled) (old : PolledPeer I D S M N) (sdps : List Kept) (outcome : Outcome E) (table : Option Table)
        (new : PolledPeer I D S M N) (sdps' : List Kept) → StepAcceptsOffer m at offer old.core sdps outcome table new.core sdps'
        → CallKeepsStreams m old [] new
    offer_step_keeps at NotMade old sdps Alloc None new sdps' h = same_keep old new h.peer
    offer_step_keeps at (Unreadable line) old sdps Alloc None new sdps' h = same_keep old new h.peer
    offer_step_keeps at (Readable sdp) old sdps Alloc None new sdps' h = same_keep old new h.peer
    offer_step_keeps at NotMade old sdps NoSuch (Some table) new sdps' h = same_keep old new h.0.peer
    offer_step_keeps at (Unreadable line) old sdps (Refused error) (Some table) new sdps' h = same_keep old new h.1.peer
    offer_step_keeps at (Readable sdp) old sdps (Answered k) (Some table) new sdps' h =
        lent_keep old new (offer_keeps m w (with_core (lent old.core) old) sdp (Ok h.0) new.core h.1)
    offer_step_keeps at (Readable sdp) old sdps (Refused error) (Some table) new sdps' h =
        lent_keep old new (offer_keeps m w (with_core (lent old.core) old) sdp (Err error) new.core h.0)
    offer_step_keeps at offer old sdps outcome table new sdps' h = absurd h

    pub answer_step_keeps : (t : ℕ) (token : Option PendingOffer) (answer : Signalled) (old : PolledPeer I D S M N) (sdps : List Kept)
        (outcome : Outcome E) (table : Option Table) (new : PolledPeer I D S M N) (sdps' : List Kept)
        → StepAcceptsAnswer m t token answer old.core sdps outcome table new.core sdps' → CallKeepsStreams m old [] new
    answer_step_keeps t None NotMade old sdps Alloc None new sdps' h = same_keep old new h.peer
    answer_step_keeps t None (Unreadable line) old sdps Alloc None new sdps' h = same_keep old new h.peer
    answer_step_keeps t None (Readable sdp) old sdps Alloc None new sdps' h = same_keep old new h.peer
    answer_step_keeps t (Some token) NotMade old sdps Alloc None new sdps' h = same_keep old new h.peer
    answer_step_keeps t (Some token) (Unreadable line) old sdps Alloc None new sdps' h = same_keep old new h.peer
    answer_step_keeps t (Some token) (Readable sdp) old sdps Alloc None new sdps' h = same_keep old new h.peer
    answer_step_keeps t None NotMade old sdps NoSuch (Some table) new sdps' h = same_keep old new h.0.peer
    answer_step_keeps t None (Unreadable line) old sdps NoSuch (Some table) new sdps' h = same_keep old new h.0.peer
    answer_step_keeps t None (Readable sdp) old sdps NoSuch (Some table) new sdps' h = same_keep old new h.0.peer
    answer_step_keeps t (Some token) NotMade old sdps NoSuch (Some table) new sdps' h = same_keep old new h.0.peer
    answer_step_keeps t (Some token) (Unreadable line) old sdps (Refused error) (Some table) new sdps' h = same_keep old new h.1.peer
    answer_step_keeps t (Some token) (Readable sdp) old sdps Finished (Some table) new sdps' h =
        lent_keep old new (answer_keeps m w (with_core (lent old.core) old) token sdp (Ok tt) new.core h.0)
    answer_step_keeps t (Some token) (Readable sdp) old sdps (Refused error) (Some table) new sdps' h =
        lent_keep old new (answer_keeps m w (with_core (lent old.core) old) token sdp (Err error) new.core h.0)
    answer_step_keeps t token answer old sdps outcome table new sdps' h = absurd h
