-- Each step of a pair is a step as negotiation sees it.
use Rattle.std.proofs.Common.{◌∙◌, ℕ, List, [], ◌∷◌, Bool, true, false, not, ◌&&◌, Option, Some, None, ap}
use Rattle.std.specs.Prelude.{Ok, Err, alloc_error}
use Rattle.rtc_wire.specs.declared.addr.Addr.{Addr}
use Rattle.rtc_sdp_values.specs.declared.direction.Direction.TheVariants.{Inactive}
use Rattle.rtc_wire.specs.DatagramRecv.{kind_by}
use Rattle.rtc_change.specs.PendingOffer.{PendingOffer, new_channels}
use Rattle.rtc_peer_rows.specs.RowChanges.{directed_row, stopped_row}
use Rattle.rtc_peer_core.specs.declared.peer.Peer.{Peer}
use Rattle.rtc_peer_core.specs.declared.rtc_error.RtcError.TheVariants.{BadChannel, Alloc as PeerAlloc}
use Rattle.rtc_peer_core.specs.Meanings.{Meanings, PartsLaws}
use Rattle.rtc_peer_core.specs.Stance.{stance_of}
use Rattle.rtc_peer_core.proofs.StanceLemmas.{
  adds_media_stands,
  changes_line_stands,
  adds_channel_stands,
  stages_restart_stands,
  applies_stands,
}
use Rattle.rtc_peer_core.proofs.StanceAcceptances.{accepts_offer_stands, accepts_answer_stands}
use Rattle.rtc_peer_core.proofs.StanceRollbacks.{rolls_back_stands}
use Rattle.rtc_peer_core.specs.RollingBack.{RollsBack}
use Rattle.rtc_peer_core.specs.ChannelRows.{channel_rows}
use Rattle.rtc_peer_transport.specs.declared.input.Input.TheVariants as given
use Rattle.rtc_peer_transport.specs.declared.polled_peer.PolledPeer.{PolledPeer}
use Rattle.rtc_peer_transport.specs.ChannelCalls.{open_stream_under}
use Rattle.rtc_peer_transport.specs.Closing.{ClosesPeer}
use Rattle.rtc_peer_polling.specs.Inputs.{HandlesInput}
use Rattle.rtc_peer_core.proofs.ChannelRowLemmas.{IsShutBefore}
use Rattle.rtc_peer_polling.proofs.StreamStarts.{empty_shut}
use Rattle.rtc_run_laws.proofs.EmptyStreams.{AreUnused}
use Rattle.rtc_run_laws.proofs.StandingChannels.{write_rest, close_channel_rest}
use Rattle.rtc_run_laws.proofs.StandingPolls.{shows_stands, calls_rest, hears_rest, polls_rest, input_moves, read_moves, close_moves, once_moves, drains_moves}
use Rattle.rtc_run_history.specs.Signalled.{Signalled, NotMade, Unreadable, Readable, foreign}
use Rattle.rtc_run_history.specs.declared.side.Side.{Side}
use Rattle.rtc_run_history.specs.declared.op.Op.{Op}
use Rattle.rtc_run_history.specs.declared.op.Op.TheVariants.{AddMedia, SetDirection, StopMedia, AddChannel, IceRestart}
use Rattle.rtc_run_history.specs.declared.step.Step.{Step}
use Rattle.rtc_run_history.specs.declared.step.Step.TheVariants.{Negotiate, AcceptOffer, AcceptAnswer, Time, Datagram, Poll, Drain, Write, CloseChannel, Close, Rollback, ForeignOffer, ForeignAnswer, Raw}
use Rattle.rtc_run_history.specs.declared.op_answer.OpAnswer.{OpAnswer}
use Rattle.rtc_run_history.specs.declared.op_answer.OpAnswer.TheVariants.{Mid, Changed, NoLine, Channel, Creds}
use Rattle.rtc_run_history.specs.declared.op_answer.OpAnswer.TheVariants.{BadChannel as NoChannel, Alloc as OpAlloc}
use Rattle.rtc_run_history.specs.declared.made.Made.{Made}
use Rattle.rtc_run_history.specs.declared.made.Made.TheVariants.{NotAsked, Nothing, Offer, Alloc as MadeAlloc}
use Rattle.rtc_run_history.specs.declared.outcome.Outcome.{Outcome}
use Rattle.rtc_run_history.specs.declared.outcome.Outcome.TheVariants.{Negotiated, Answered, Finished, Done, Refused, NoSuch, Alloc}
use Rattle.rtc_run_history.specs.declared.table.Table.{Table}
use Rattle.rtc_run_history.specs.declared.kept.Kept.{Kept}
use Rattle.rtc_run_history.specs.declared.sent_packet.SentPacket.{SentPacket}
use Rattle.rtc_run_history.specs.Memory.{answers_lack}
use Rattle.rtc_run_history.specs.Sides.{side_of, other_side}
use Rattle.rtc_run_history.specs.Past.{Entry}
use Rattle.rtc_run_history.specs.PairState.{addr_at, PairState, rtc_at, peer_at, kept_remote_sdp, remote_packet, held_token}
use Rattle.rtc_run_history.specs.Performs.{Stays, lent, wanted, raw_datagram, HandlesRead, PerformsOps, MakesOf, Negotiates, StepAcceptsOffer, StepAcceptsAnswer, StepRollsBack, PollsOnce, DrainsPeer, Acts, Performs, Enters}
use Rattle.rtc_run_laws.proofs.CancelledRows.{cancelled_rows_left}
use Rattle.rtc_run_laws.proofs.StanceSteps.{StanceStays, LeavesRows, StancePerformsOps, StanceMakesOf, StanceNegotiates, StanceStepAcceptsOffer, StanceStepAcceptsAnswer, StanceStepRollsBack, StanceActs, StancePerforms, StanceEnters, pair_stance}

module _ {I D S M E X T W N : Type 0} (m : Meanings I D S M E X T W N) (laws : PartsLaws m) where
  stays_stands : (old new : Peer I D S M N) (sdps sdps' : List Kept) → Stays old sdps new sdps' → StanceStays (stance_of m old) sdps (stance_of m new) sdps'
  stays_stands old new sdps sdps' stays = record { peer = ap (stance_of m) stays.peer; sdps_kept = stays.sdps_kept }

  ops_stand : (p : Peer I D S M N) (ops : List Op) (answers : List OpAnswer) (q : Peer I D S M N) → PerformsOps m p ops answers q
      → StancePerformsOps (stance_of m p) ops answers (stance_of m q)
  ops_stand p [] [] q h = ap (stance_of m) h
  ops_stand p (AddMedia kind dir ∷ ops) (Mid mid ∷ answers) q h =
      (stance_of m h.0, adds_media_stands m laws p (wanted kind dir) (Ok mid) h.0 h.1, ops_stand h.0 ops answers q h.2)
  ops_stand p (AddMedia kind dir ∷ ops) (OpAlloc ∷ []) q h = adds_media_stands m laws p (wanted kind dir) (Err alloc_error) q h
  ops_stand p (SetDirection place dir ∷ ops) (NoLine ∷ answers) q h = (h.0, ops_stand p ops answers q h.1)
  ops_stand p (SetDirection place dir ∷ ops) (Changed changed ∷ answers) q h = (
    stance_of m h.0,
    record { mid = h.1.mid; there = h.1.there; called = changes_line_stands m laws (directed_row dir) dir p h.1.mid (Ok changed) h.0 h.1.called },
    ops_stand h.0 ops answers q h.2,
  )
  ops_stand p (SetDirection place dir ∷ ops) (OpAlloc ∷ []) q h =
      record { mid = h.mid; there = h.there; called = changes_line_stands m laws (directed_row dir) dir p h.mid (Err alloc_error) q h.called }
  ops_stand p (StopMedia place ∷ ops) (NoLine ∷ answers) q h = (h.0, ops_stand p ops answers q h.1)
  ops_stand p (StopMedia place ∷ ops) (Changed changed ∷ answers) q h = (
    stance_of m h.0,
    record { mid = h.1.mid; there = h.1.there; called = changes_line_stands m laws stopped_row Inactive p h.1.mid (Ok changed) h.0 h.1.called },
    ops_stand h.0 ops answers q h.2,
  )
  ops_stand p (StopMedia place ∷ ops) (OpAlloc ∷ []) q h =
      record { mid = h.mid; there = h.there; called = changes_line_stands m laws stopped_row Inactive p h.mid (Err alloc_error) q h.called }
  ops_stand p (AddChannel config ∷ ops) (Channel id ∷ answers) q h =
      (stance_of m h.0, adds_channel_stands m laws p config (Ok id) h.0 h.1, ops_stand h.0 ops answers q h.2)
  ops_stand p (AddChannel config ∷ ops) (NoChannel ∷ answers) q h =
      (stance_of m h.0, adds_channel_stands m laws p config (Err BadChannel) h.0 h.1, ops_stand h.0 ops answers q h.2)
  ops_stand p (AddChannel config ∷ ops) (OpAlloc ∷ []) q h = adds_channel_stands m laws p config (Err PeerAlloc) q h
  ops_stand p (IceRestart keep ∷ ops) (Creds creds ∷ answers) q h =
      (stance_of m h.0, stages_restart_stands m laws p keep (Ok creds) h.0 h.1, ops_stand h.0 ops answers q h.2)
  ops_stand p (IceRestart keep ∷ ops) (OpAlloc ∷ []) q h = stages_restart_stands m laws p keep (Err alloc_error) q h
  ops_stand p ops answers q h = absurd h

  makes_stand : (asked : Bool) (at : Side) (p : Peer I D S M N) (sdps : List Kept) (made : Made) (q : Peer I D S M N) (sdps' : List Kept)
      → MakesOf m asked at p sdps made q sdps' → StanceMakesOf asked at (stance_of m p) sdps made (stance_of m q) sdps'
  makes_stand false at p sdps NotAsked q sdps' h = (ap (stance_of m) h.0, h.1)
  makes_stand true at p sdps Nothing q sdps' h = (applies_stands m laws p (Ok None) q h.0, h.1)
  makes_stand true at p sdps (Offer k) q sdps' h = (h.0, applies_stands m laws p (Ok (Some h.0)) q h.1, h.2, h.3)
  makes_stand true at p sdps MadeAlloc q sdps' h = (applies_stands m laws p (Err alloc_error) q h.0, h.1)
  makes_stand asked at p sdps made q sdps' h = absurd h

  negotiates_stands : (at : Side) (ops : List Op) (apply : Bool) (old : Peer I D S M N) (sdps : List Kept) (outcome : Outcome E) (table : Option Table) (new : Peer I D S M N) (sdps' : List Kept)
      → Negotiates m at ops apply old sdps outcome table new sdps' → StanceNegotiates at ops apply (stance_of m old) sdps outcome table (stance_of m new) sdps'
  negotiates_stands at ops apply old sdps Alloc None new sdps' h = stays_stands old new sdps sdps' h
  negotiates_stands at ops apply old sdps (Negotiated answers made) (Some table) new sdps' h =
      (stance_of m h.0, ops_stand _ ops answers h.0 h.1, makes_stand (apply && not (answers_lack answers)) at h.0 sdps made new sdps' h.2, shows_stands m laws table new h.3)
  negotiates_stands at ops apply old sdps outcome table new sdps' h = absurd h

  step_offer_stands : (at : Side) (offer : Signalled) (old : Peer I D S M N) (sdps : List Kept) (outcome : Outcome E) (table : Option Table) (new : Peer I D S M N) (sdps' : List Kept)
      → IsShutBefore m.association old.sctp → StepAcceptsOffer m at offer old sdps outcome table new sdps' → StanceStepAcceptsOffer at offer (stance_of m old) sdps outcome table (stance_of m new) sdps'
  step_offer_stands at NotMade old sdps Alloc None new sdps' shut h = stays_stands old new sdps sdps' h
  step_offer_stands at (Unreadable line) old sdps Alloc None new sdps' shut h = stays_stands old new sdps sdps' h
  step_offer_stands at (Readable sdp) old sdps Alloc None new sdps' shut h = stays_stands old new sdps sdps' h
  step_offer_stands at NotMade old sdps NoSuch (Some table) new sdps' shut h = (stays_stands old new sdps sdps' h.0, shows_stands m laws table old h.1)
  step_offer_stands at (Unreadable line) old sdps (Refused error) (Some table) new sdps' shut h =
      (h.0, stays_stands old new sdps sdps' h.1, shows_stands m laws table old h.2)
  step_offer_stands at (Readable sdp) old sdps (Answered k) (Some table) new sdps' shut h =
      (h.0, accepts_offer_stands m laws (lent old) sdp (Ok h.0) new shut h.1, h.2, h.3, shows_stands m laws table new h.4)
  step_offer_stands at (Readable sdp) old sdps (Refused error) (Some table) new sdps' shut h =
      (accepts_offer_stands m laws (lent old) sdp (Err error) new shut h.0, h.1, shows_stands m laws table new h.2)
  step_offer_stands at offer old sdps outcome table new sdps' shut h = absurd h

  step_answer_stands : (t : ℕ) (token : Option PendingOffer) (answer : Signalled) (old : Peer I D S M N) (sdps : List Kept) (outcome : Outcome E) (table : Option Table) (new : Peer I D S M N) (sdps' : List Kept)
      → IsShutBefore m.association old.sctp → StepAcceptsAnswer m t token answer old sdps outcome table new sdps' → StanceStepAcceptsAnswer t token answer (stance_of m old) sdps outcome table (stance_of m new) sdps'
  step_answer_stands t None NotMade old sdps Alloc None new sdps' shut h = stays_stands old new sdps sdps' h
  step_answer_stands t None (Unreadable line) old sdps Alloc None new sdps' shut h = stays_stands old new sdps sdps' h
  step_answer_stands t None (Readable sdp) old sdps Alloc None new sdps' shut h = stays_stands old new sdps sdps' h
  step_answer_stands t (Some token) NotMade old sdps Alloc None new sdps' shut h = stays_stands old new sdps sdps' h
  step_answer_stands t (Some token) (Unreadable line) old sdps Alloc None new sdps' shut h = stays_stands old new sdps sdps' h
  step_answer_stands t (Some token) (Readable sdp) old sdps Alloc None new sdps' shut h = stays_stands old new sdps sdps' h
  step_answer_stands t None NotMade old sdps NoSuch (Some table) new sdps' shut h = (stays_stands old new sdps sdps' h.0, shows_stands m laws table old h.1)
  step_answer_stands t None (Unreadable line) old sdps NoSuch (Some table) new sdps' shut h = (stays_stands old new sdps sdps' h.0, shows_stands m laws table old h.1)
  step_answer_stands t None (Readable sdp) old sdps NoSuch (Some table) new sdps' shut h = (stays_stands old new sdps sdps' h.0, shows_stands m laws table old h.1)
  step_answer_stands t (Some token) NotMade old sdps NoSuch (Some table) new sdps' shut h = (stays_stands old new sdps sdps' h.0, shows_stands m laws table old h.1)
  step_answer_stands t (Some token) (Unreadable line) old sdps (Refused error) (Some table) new sdps' shut h =
      (h.0, stays_stands old new sdps sdps' h.1, shows_stands m laws table old h.2)
  step_answer_stands t (Some token) (Readable sdp) old sdps Finished (Some table) new sdps' shut h =
      (accepts_answer_stands m laws _ token sdp (Ok tt) new shut h.0, h.1, shows_stands m laws table new h.2)
  step_answer_stands t (Some token) (Readable sdp) old sdps (Refused error) (Some table) new sdps' shut h =
      (accepts_answer_stands m laws _ token sdp (Err error) new shut h.0, h.1, shows_stands m laws table new h.2)
  step_answer_stands t token answer old sdps outcome table new sdps' shut h = absurd h

  rolled_rows : (old : Peer I D S M N) (token : PendingOffer) (new : Peer I D S M N) → RollsBack (lent old) token (Ok tt) new
      → LeavesRows token (stance_of m old) (stance_of m new)
  rolled_rows old token new h = λ rising fresh.
      ap (λ (p : Peer I D S M N). channel_rows m.association p.sctp p.channels) h.1
      ∙ cancelled_rows_left m old.sctp (new_channels token.changes) old.channels rising fresh

  step_rollback_stands : (t : ℕ) (token : Option PendingOffer) (old : Peer I D S M N) (sdps : List Kept) (outcome : Outcome E) (table : Option Table) (new : Peer I D S M N) (sdps' : List Kept)
      → StepRollsBack m t token old sdps outcome table new sdps' → StanceStepRollsBack t token (stance_of m old) sdps outcome table (stance_of m new) sdps'
  step_rollback_stands t None old sdps Alloc None new sdps' h = stays_stands old new sdps sdps' h
  step_rollback_stands t (Some token) old sdps Alloc None new sdps' h = stays_stands old new sdps sdps' h
  step_rollback_stands t None old sdps NoSuch (Some table) new sdps' h = (stays_stands old new sdps sdps' h.0, shows_stands m laws table old h.1)
  step_rollback_stands t (Some token) old sdps Done (Some table) new sdps' h =
      (rolls_back_stands m (lent old) token (Ok tt) new h.0, rolled_rows old token new h.0, h.1, shows_stands m laws table new h.2)
  step_rollback_stands t (Some token) old sdps (Refused error) (Some table) new sdps' h =
      (rolls_back_stands m (lent old) token (Err error) new h.0, h.1, shows_stands m laws table new h.2)
  step_rollback_stands t token old sdps outcome table new sdps' h = absurd h

  acts_stand : (stun : List ℕ → Bool) (other own : Addr) (step : Step) (old : PolledPeer I D S M N) (sdps : List Kept) (packets : List SentPacket) (outcome : Outcome E) (table : Option Table) (new : PolledPeer I D S M N)
      (sdps' : List Kept) (packets' : List SentPacket) → IsShutBefore m.association old.core.sctp → Acts m stun other own step old sdps packets outcome table new sdps' packets'
      → StanceActs step (stance_of m old.core) sdps outcome table (stance_of m new.core) sdps'
  acts_stand stun other own (Negotiate at ops apply) old sdps packets outcome table new sdps' packets' shut h = negotiates_stands at ops apply old.core sdps outcome table new.core sdps' h.0
  acts_stand stun other own (AcceptOffer at k) old sdps packets outcome table new sdps' packets' shut h = step_offer_stands at (kept_remote_sdp true sdps at k) old.core sdps outcome table new.core sdps' shut h.0
  acts_stand stun other own (AcceptAnswer at t a) old sdps packets outcome table new sdps' packets' shut h =
      step_answer_stands t (held_token sdps at t) (kept_remote_sdp false sdps at a) old.core sdps outcome table new.core sdps' shut h.0
  acts_stand stun other own (Time at now) old sdps packets outcome table new sdps' packets' shut h =
      calls_rest m laws (HandlesInput m (given.Timeout now)) (input_moves m laws (given.Timeout now)) old outcome table new sdps sdps' h.0 h.1
  acts_stand stun other own (Datagram at packet now) old sdps packets outcome table new sdps' packets' shut h =
      hears_rest m laws stun (remote_packet packets at packet) now old outcome table new sdps sdps' h.0 h.1
  acts_stand stun other own (Poll at) old sdps packets outcome table new sdps' packets' shut h =
      polls_rest m laws (PollsOnce m at old) old (λ before_it outputs end q after. once_moves m laws at old before_it outputs end q after) packets outcome table new packets' sdps sdps' h.0 h.1
  acts_stand stun other own (Drain at) old sdps packets outcome table new sdps' packets' shut h =
      polls_rest m laws (DrainsPeer m at old) old (λ before_it outputs end q after. drains_moves m laws at old before_it outputs end q after) packets outcome table new packets' sdps sdps' h.0 h.1
  acts_stand stun other own (Write at channel binary bytes) old sdps packets outcome table new sdps' packets' shut h =
      write_rest m laws (open_stream_under channel old) binary bytes old outcome table new sdps sdps' h.0 h.1
  acts_stand stun other own (CloseChannel at channel) old sdps packets outcome table new sdps' packets' shut h =
      close_channel_rest m laws (open_stream_under channel old) channel old outcome table new sdps sdps' h.0 h.1
  acts_stand stun other own (Close at) old sdps packets outcome table new sdps' packets' shut h =
      calls_rest m laws (ClosesPeer m) (close_moves m laws) old outcome table new sdps sdps' h.0 h.1
  acts_stand stun other own (Rollback at t) old sdps packets outcome table new sdps' packets' shut h =
      step_rollback_stands t (held_token sdps at t) old.core sdps outcome table new.core sdps' h.0
  acts_stand stun other own (ForeignOffer at text) old sdps packets outcome table new sdps' packets' shut h =
      step_offer_stands at (foreign text) old.core sdps outcome table new.core sdps' shut h.0
  acts_stand stun other own (ForeignAnswer at t text) old sdps packets outcome table new sdps' packets' shut h =
      step_answer_stands t (held_token sdps at t) (foreign text) old.core sdps outcome table new.core sdps' shut h.0
  acts_stand stun other own (Raw at bytes now) old sdps packets outcome table new sdps' packets' shut h =
      calls_rest m laws (HandlesRead m (kind_by stun bytes) (raw_datagram other own bytes) now)
      (read_moves m laws (kind_by stun bytes) (raw_datagram other own bytes) now) old outcome table new sdps sdps' h.0 h.1

  -- A step of a pair, as negotiation sees it, where no stream is in use before the association of a side is started.
  pub performs_stands : {stun : List ℕ → Bool} → (old : PairState I D S M N) (step : Step) (outcome : Outcome E) (table : Option Table) (new : PairState I D S M N)
      → AreUnused m laws old → Performs m stun old step outcome table new → StancePerforms (pair_stance m old) step outcome table (pair_stance m new)
  performs_stands {stun} old step outcome table new unused performs = record {
    acts = acts_stand stun (addr_at (other_side (side_of step)) old) (addr_at (side_of step) old) step (rtc_at (side_of step) old) old.sdps old.packets outcome table (rtc_at (side_of step) new) new.sdps new.packets
        (empty_shut m.association (peer_at (side_of step) old).sctp (unused (side_of step)).empty) performs.acts;
    other = ap (λ rtc. stance_of m rtc.core) performs.other;
    size = performs.size;
  }

  pub enters_stands : {stun : List ℕ → Bool} → (old : PairState I D S M N) (entry : Entry E) (new : PairState I D S M N) → AreUnused m laws old → Enters m stun old entry new
      → StanceEnters (pair_stance m old) entry (pair_stance m new)
  enters_stands old entry new unused enters = record { performs = performs_stands old entry.step entry.outcome entry.table new unused enters.performs; made = enters.made }
