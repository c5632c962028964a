-- What steps of negotiation do to the parts of a peer.
use Rattle.std.proofs.Common.{◌≡◌, ◌∙◌, ◌∷◌, ℕ, Bool, true, false, not, ◌&&◌, List, [], Option, Some, None, Result, Ok, Err, refl, sym, ap, subst}
use Rattle.std.specs.Prelude.{alloc_error}
use Rattle.std.specs.declared.alloc.AllocError.{AllocError}
use Rattle.rtc_sdp_values.specs.declared.direction.Direction.{Direction}
use Rattle.rtc_sdp_values.specs.declared.direction.Direction.TheVariants.{Inactive}
use Rattle.rtc_parts.specs.Among.{Among}
use Rattle.rtc_parts.proofs.AmongLemmas.{among_none}
use Rattle.rtc_parts.specs.IceActs.{ControllingSet, Stirred, ice_moved-one}
use Rattle.rtc_parts.specs.DtlsState.{DtlsState}
use Rattle.rtc_sctp_entries.specs.declared.stream_entry.StreamEntry.{StreamEntry}
use Rattle.rtc_change.specs.declared.change.Change.{Change}
use Rattle.rtc_change.specs.PendingOffer.{PendingOffer}
use Rattle.rtc_peer_rows.specs.RowChanges.{RowChange, directed_row, stopped_row}
use Rattle.rtc_peer_core.specs.declared.peer.Peer.{Peer}
use Rattle.rtc_peer_core.specs.Calls.{ChangesLine, LacksOffer, after_channels_alone, control_for}
use Rattle.rtc_peer_core.specs.Meanings.{Meanings}
use Rattle.rtc_peer_core.specs.PartMoves.{TakesControl}
use Rattle.rtc_peer_core.specs.SdpHalves.{draws_half}
use Rattle.rtc_peer_core.specs.Stance.{stance_of}
use Rattle.rtc_peer_transport.specs.declared.polled_peer.PolledPeer.{PolledPeer}
use Rattle.rtc_peer_laws.specs.Acts.{NegotiationActs, begun_here, with_core}
use Rattle.rtc_peer_laws.specs.PeerActs.{queue_and_role}
use Rattle.rtc_peer_laws.proofs.ActJoins.{agent_acts_did}
use Rattle.rtc_peer_laws.proofs.ActedAcceptances.{offer_did, answer_did, rollback_did}
use Rattle.rtc_peer_laws.proofs.FollowedParts.{AgentTold, agent_none}
use Rattle.rtc_run_history.specs.Signalled.{Signalled, NotMade, Unreadable, Readable}
use Rattle.rtc_run_history.specs.declared.side.Side.{Side}
use Rattle.rtc_run_history.specs.declared.op.Op.{Op}
use Rattle.rtc_run_history.specs.declared.op.Op.TheVariants.{AddMedia, SetDirection, StopMedia, AddChannel, IceRestart}
use Rattle.rtc_run_history.specs.declared.op_answer.OpAnswer.{OpAnswer}
use Rattle.rtc_run_history.specs.declared.op_answer.OpAnswer.TheVariants.{Mid, Changed, NoLine, Channel, Creds}
use Rattle.rtc_run_history.specs.declared.op_answer.OpAnswer.TheVariants.{BadChannel as NoChannel, Alloc as OpAlloc}
use Rattle.rtc_run_history.specs.declared.made.Made.{Made}
use Rattle.rtc_run_history.specs.declared.made.Made.TheVariants.{NotAsked, Nothing, Offer, Alloc as MadeAlloc}
use Rattle.rtc_run_history.specs.declared.outcome.Outcome.{Outcome}
use Rattle.rtc_run_history.specs.declared.outcome.Outcome.TheVariants.{Negotiated, Answered, Finished, Done, Refused, NoSuch, Alloc}
use Rattle.rtc_run_history.specs.declared.table.Table.{Table}
use Rattle.rtc_run_history.specs.declared.kept.Kept.{Kept}
use Rattle.rtc_run_history.specs.Memory.{answers_lack}
use Rattle.rtc_run_history.specs.Performs.{PerformsOps, MakesOf, Negotiates, StepAcceptsOffer, StepAcceptsAnswer, StepRollsBack, lent}
use Rattle.rtc_run_laws.proofs.OpParts.{counting_parts, ops_counting, makes_counting}

none_among : {A : Type 0} (l k : List A) → l ≡ [] → Among l k
none_among {A} l k is = subst (λ (x : List A). Among x k) (sym is) (among_none k)

-- the agent, and what of the streams is to be sent first
abbrev agent_parts : {I D S M N : Type 0} → Peer I D S M N → I × Option (List (List ℕ))
agent_parts p = (p.ice, p.sctp.pushed)

module _ {I D S M E X T W N : Type 0} (m : Meanings I D S M E X T W N) where
  line_agent : (change : RowChange) (to : Direction) (p : Peer I D S M N) (mid : List ℕ) (r : Result Bool AllocError) (q : Peer I D S M N)
      → ChangesLine change to p mid r q → agent_parts q ≡ agent_parts p
  line_agent change to p mid (Ok true) q h = ap agent_parts h.1
  line_agent change to p mid (Ok false) q h = ap agent_parts h.1
  line_agent change to p mid (Err error) q h = ap agent_parts h

  -- ops leave both
  ops_agent : (p : Peer I D S M N) (ops : List Op) (answers : List OpAnswer) (q : Peer I D S M N) → PerformsOps m p ops answers q → agent_parts q ≡ agent_parts p
  ops_agent p [] [] q h = ap agent_parts h
  ops_agent p (AddMedia kind dir ∷ ops) (Mid mid ∷ answers) q h = ops_agent h.0 ops answers q h.2 ∙ ap agent_parts h.1.1
  ops_agent p (AddMedia kind dir ∷ ops) (OpAlloc ∷ []) q h = ap agent_parts h.1
  ops_agent p (SetDirection place dir ∷ ops) (NoLine ∷ answers) q h = ops_agent p ops answers q h.1
  ops_agent p (SetDirection place dir ∷ ops) (Changed changed ∷ answers) q h =
      ops_agent h.0 ops answers q h.2 ∙ line_agent (directed_row dir) dir p h.1.mid (Ok changed) h.0 h.1.called
  ops_agent p (SetDirection place dir ∷ ops) (OpAlloc ∷ []) q h = line_agent (directed_row dir) dir p h.mid (Err alloc_error) q h.called
  ops_agent p (StopMedia place ∷ ops) (NoLine ∷ answers) q h = ops_agent p ops answers q h.1
  ops_agent p (StopMedia place ∷ ops) (Changed changed ∷ answers) q h =
      ops_agent h.0 ops answers q h.2 ∙ line_agent stopped_row Inactive p h.1.mid (Ok changed) h.0 h.1.called
  ops_agent p (StopMedia place ∷ ops) (OpAlloc ∷ []) q h = line_agent stopped_row Inactive p h.mid (Err alloc_error) q h.called
  ops_agent p (AddChannel config ∷ ops) (Channel id ∷ answers) q h = ops_agent h.0 ops answers q h.2 ∙ ap agent_parts h.1.2
  ops_agent p (AddChannel config ∷ ops) (NoChannel ∷ answers) q h = ops_agent h.0 ops answers q h.2 ∙ ap agent_parts h.1.1
  ops_agent p (AddChannel config ∷ ops) (OpAlloc ∷ []) q h = ap agent_parts h.1
  ops_agent p (IceRestart keep ∷ ops) (Creds creds ∷ answers) q h = ops_agent h.0 ops answers q h.2 ∙ ap agent_parts h.1.1
  ops_agent p (IceRestart keep ∷ ops) (OpAlloc ∷ []) q h = ap agent_parts h.1
  ops_agent p ops answers q h = absurd h

  alone_agent : (staged : List Change) (p : Peer I D S M N) → agent_parts (after_channels_alone staged p) ≡ agent_parts p
  alone_agent [] p = refl
  alone_agent (change ∷ changes) p = refl

  control_told : (i : I) (control : Option Bool) (j : I) → TakesControl m.ice i control j → AgentTold m.ice i j
  control_told i None j h = agent_none m.ice i j h
  control_told i (Some on) j h = record {
    acts = Stirred (ControllingSet on) ∷ [];
    went = ice_moved-one m.ice i j (Stirred (ControllingSet on)) h;
    given = refl;
    taken = refl;
    timed = refl;
  }

  lacks_agent : (draws : Bool) (p q : Peer I D S M N) → LacksOffer m draws p q → agent_parts q ≡ agent_parts p
  lacks_agent true p q h = ap agent_parts h.1
  lacks_agent false p q h = ap agent_parts h

  -- an offer may settle which side is controlling
  makes_agent : (asked : Bool) (at : Side) (p : Peer I D S M N) (sdps : List Kept) (made : Made) (q : Peer I D S M N) (sdps' : List Kept)
      → MakesOf m asked at p sdps made q sdps' → AgentTold m.ice p.ice q.ice
  makes_agent false at p sdps NotAsked q sdps' h = agent_none m.ice p.ice q.ice (ap (λ (x : Peer I D S M N). x.ice) h.0)
  makes_agent true at p sdps Nothing q sdps' h =
      agent_none m.ice p.ice q.ice (ap (λ (x : Peer I D S M N). x.ice) h.0.1 ∙ ap (λ (c : I × Option (List (List ℕ))). c.0) (alone_agent p.staged p))
  makes_agent true at p sdps (Offer k) q sdps' h =
      control_told p.ice (control_for p.dtls.active (not (m.ice.settings p.ice).lite)) q.ice h.1.3
  makes_agent true at p sdps MadeAlloc q sdps' h =
      agent_none m.ice p.ice q.ice (ap (λ (c : I × Option (List (List ℕ))). c.0) (lacks_agent (draws_half (stance_of m p)) p q h.0))
  makes_agent asked at p sdps made q sdps' h = absurd h

  -- and leaves what is to be sent first
  makes_pushed : (asked : Bool) (at : Side) (p : Peer I D S M N) (sdps : List Kept) (made : Made) (q : Peer I D S M N) (sdps' : List Kept)
      → MakesOf m asked at p sdps made q sdps' → q.sctp.pushed ≡ p.sctp.pushed
  makes_pushed false at p sdps NotAsked q sdps' h = ap (λ (x : Peer I D S M N). x.sctp.pushed) h.0
  makes_pushed true at p sdps Nothing q sdps' h =
      ap (λ (x : Peer I D S M N). x.sctp.pushed) h.0.1 ∙ ap (λ (c : I × Option (List (List ℕ))). c.1) (alone_agent p.staged p)
  makes_pushed true at p sdps (Offer k) q sdps' h = ap (λ (x : Peer I D S M N). x.sctp.pushed) h.1.4
  makes_pushed true at p sdps MadeAlloc q sdps' h =
      ap (λ (c : I × Option (List (List ℕ))). c.1) (lacks_agent (draws_half (stance_of m p)) p q h.0)
  makes_pushed asked at p sdps made q sdps' h = absurd h

  -- the agent was told something, and of the other parts at most halves of a start by session descriptions are others
  agent_did : (p q : PolledPeer I D S M N) → AgentTold m.ice p.core.ice q.core.ice → counting_parts q.core ≡ counting_parts p.core
      → q.core.sctp.pushed ≡ p.core.sctp.pushed → NegotiationActs m p q
  agent_did p q agent same pushed =
      agent_acts_did m begun_here (p.core.greatest ∷ []) [] p q agent.acts agent.went (none_among _ [] agent.given)
      (none_among _ (p.core.greatest ∷ []) agent.timed) (among_none _) (ap (λ (x : DtlsState D × (S × List StreamEntry) × M). x.0.instance) same)
      (ap (λ (x : DtlsState D × (S × List StreamEntry) × M). queue_and_role x.0) same) (ap (λ (x : DtlsState D × (S × List StreamEntry) × M). x.1.0) same) pushed (ap (λ (x : DtlsState D × (S × List StreamEntry) × M). x.2) same)

  same_did : (p q : PolledPeer I D S M N) → q.core ≡ p.core → NegotiationActs m p q
  same_did p q same =
      agent_did p q (agent_none m.ice p.core.ice q.core.ice (ap (λ (x : Peer I D S M N). x.ice) same)) (ap counting_parts same)
      (ap (λ (x : Peer I D S M N). x.sctp.pushed) same)

  pub negotiates_did : (at : Side) (ops : List Op) (apply : Bool) (old : PolledPeer I D S M N) (sdps : List Kept) (outcome : Outcome E)
      (table : Option Table) (new : PolledPeer I D S M N) (sdps' : List Kept)
      → Negotiates m at ops apply old.core sdps outcome table new.core sdps' → NegotiationActs m old new
  negotiates_did at ops apply old sdps Alloc None new sdps' h = same_did old new h.peer
  negotiates_did at ops apply old sdps (Negotiated answers made) (Some table) new sdps' h =
      agent_did old new
      (subst (λ (i : I). AgentTold m.ice i new.core.ice) (ap (λ (c : I × Option (List (List ℕ))). c.0) (ops_agent (lent old.core) ops answers h.0 h.1))
      (makes_agent (apply && not (answers_lack answers)) at h.0 sdps made new.core sdps' h.2))
      (makes_counting m (apply && not (answers_lack answers)) at h.0 sdps made new.core sdps' h.2
      ∙ ops_counting m (lent old.core) ops answers h.0 h.1)
      (makes_pushed (apply && not (answers_lack answers)) at h.0 sdps made new.core sdps' h.2
      ∙ ap (λ (c : I × Option (List (List ℕ))). c.1) (ops_agent (lent old.core) ops answers h.0 h.1))
  negotiates_did at ops apply old sdps outcome table new sdps' h = absurd h

  -- dropping what was staged, and the connection, are no matter of the parts
  lent_did : (old new : PolledPeer I D S M N)
      → NegotiationActs m (with_core (lent old.core) old) (with_core new.core (with_core (lent old.core) old)) → NegotiationActs m old new
  lent_did old new h = record {
    acts = h.acts;
    went = record { ice = h.went.ice; dtls = h.went.dtls; association = h.went.association; media = h.went.media };
    given_ice = h.given_ice;
    given_dtls = h.given_dtls;
    given_media = h.given_media;
    timed_ice = h.timed_ice;
    timed_dtls = h.timed_dtls;
    timed_media = h.timed_media;
    role = h.role;
    sent = h.sent;
    handed = h.handed;
    all_handed = h.all_handed;
    relayed = h.relayed;
    wrote_is = h.wrote_is;
    heard_is = h.heard_is;
    named = h.named;
  }

  pub offer_acts : (at : Side) (offer : Signalled) (old : PolledPeer I D S M N) (sdps : List Kept) (outcome : Outcome E) (table : Option Table)
      (new : PolledPeer I D S M N) (sdps' : List Kept) → StepAcceptsOffer m at offer old.core sdps outcome table new.core sdps'
      → NegotiationActs m old new
  offer_acts at NotMade old sdps Alloc None new sdps' h = same_did old new h.peer
  offer_acts at (Unreadable line) old sdps Alloc None new sdps' h = same_did old new h.peer
  offer_acts at (Readable sdp) old sdps Alloc None new sdps' h = same_did old new h.peer
  offer_acts at NotMade old sdps NoSuch (Some table) new sdps' h = same_did old new h.0.peer
  offer_acts at (Unreadable line) old sdps (Refused error) (Some table) new sdps' h = same_did old new h.1.peer
  offer_acts at (Readable sdp) old sdps (Answered k) (Some table) new sdps' h =
      lent_did old new (offer_did m (with_core (lent old.core) old) sdp (Ok h.0) new.core h.1)
  offer_acts at (Readable sdp) old sdps (Refused error) (Some table) new sdps' h =
      lent_did old new (offer_did m (with_core (lent old.core) old) sdp (Err error) new.core h.0)
  offer_acts at offer old sdps outcome table new sdps' h = absurd h

  pub answer_acts : (t : ℕ) (token : Option PendingOffer) (answer : Signalled) (old : PolledPeer I D S M N) (sdps : List Kept)
      (outcome : Outcome E) (table : Option Table) (new : PolledPeer I D S M N) (sdps' : List Kept)
      → StepAcceptsAnswer m t token answer old.core sdps outcome table new.core sdps' → NegotiationActs m old new
  answer_acts t None NotMade old sdps Alloc None new sdps' h = same_did old new h.peer
  answer_acts t None (Unreadable line) old sdps Alloc None new sdps' h = same_did old new h.peer
  answer_acts t None (Readable sdp) old sdps Alloc None new sdps' h = same_did old new h.peer
  answer_acts t (Some token) NotMade old sdps Alloc None new sdps' h = same_did old new h.peer
  answer_acts t (Some token) (Unreadable line) old sdps Alloc None new sdps' h = same_did old new h.peer
  answer_acts t (Some token) (Readable sdp) old sdps Alloc None new sdps' h = same_did old new h.peer
  answer_acts t None NotMade old sdps NoSuch (Some table) new sdps' h = same_did old new h.0.peer
  answer_acts t None (Unreadable line) old sdps NoSuch (Some table) new sdps' h = same_did old new h.0.peer
  answer_acts t None (Readable sdp) old sdps NoSuch (Some table) new sdps' h = same_did old new h.0.peer
  answer_acts t (Some token) NotMade old sdps NoSuch (Some table) new sdps' h = same_did old new h.0.peer
  answer_acts t (Some token) (Unreadable line) old sdps (Refused error) (Some table) new sdps' h = same_did old new h.1.peer
  answer_acts t (Some token) (Readable sdp) old sdps Finished (Some table) new sdps' h =
      lent_did old new (answer_did m (with_core (lent old.core) old) token sdp (Ok tt) new.core h.0)
  answer_acts t (Some token) (Readable sdp) old sdps (Refused error) (Some table) new sdps' h =
      lent_did old new (answer_did m (with_core (lent old.core) old) token sdp (Err error) new.core h.0)
  answer_acts t token answer old sdps outcome table new sdps' h = absurd h

  pub rollback_acts : (t : ℕ) (token : Option PendingOffer) (old : PolledPeer I D S M N) (sdps : List Kept) (outcome : Outcome E)
      (table : Option Table) (new : PolledPeer I D S M N) (sdps' : List Kept) → StepRollsBack m t token old.core sdps outcome table new.core sdps'
      → NegotiationActs m old new
  rollback_acts t None old sdps Alloc None new sdps' h = same_did old new h.peer
  rollback_acts t (Some token) old sdps Alloc None new sdps' h = same_did old new h.peer
  rollback_acts t None old sdps NoSuch (Some table) new sdps' h = same_did old new h.0.peer
  rollback_acts t (Some token) old sdps Done (Some table) new sdps' h =
      lent_did old new (rollback_did m (with_core (lent old.core) old) token (Ok tt) new.core h.0)
  rollback_acts t (Some token) old sdps (Refused error) (Some table) new sdps' h =
      lent_did old new (rollback_did m (with_core (lent old.core) old) token (Err error) new.core h.0)
  rollback_acts t token old sdps outcome table new sdps' h = absurd h
