-- What a step leaves of the side that it is performed at: the side as it was, a move of its parts, or the peer that a negotiation leaves.
use Rattle.std.proofs.Common.{◌≡◌, ◌∙◌, ℕ, Bool, true, false, not, ◌&&◌, List, [], Option, Some, None, Result, Ok, Err}
use Rattle.rtc_wire.specs.declared.addr.Addr.{Addr}
use Rattle.rtc_wire.specs.DatagramRecv.{kind_by}
use Rattle.rtc_sdp_values.specs.declared.sdp.Sdp.{Sdp}
use Rattle.rtc_change.specs.PendingOffer.{PendingOffer}
use Rattle.rtc_peer_core.specs.declared.peer.Peer.{Peer}
use Rattle.rtc_peer_core.specs.declared.rtc_error.RtcError.{RtcError}
use Rattle.rtc_peer_core.specs.Acceptances.{AcceptsOffer, AcceptsAnswer}
use Rattle.rtc_peer_core.specs.Meanings.{Meanings, PartsLaws}
use Rattle.rtc_peer_transport.specs.declared.input.Input.TheVariants as given
use Rattle.rtc_peer_transport.specs.declared.polled_peer.PolledPeer.{PolledPeer}
use Rattle.rtc_peer_transport.specs.ChannelCalls.{open_stream_under}
use Rattle.rtc_peer_transport.specs.Closing.{ClosesPeer}
use Rattle.rtc_peer_polling.specs.Inputs.{HandlesInput}
use Rattle.rtc_run_history.specs.Signalled.{Signalled, NotMade, Unreadable, Readable, foreign}
use Rattle.rtc_run_history.specs.declared.side.Side.{Side}
use Rattle.rtc_run_history.specs.declared.op.Op.{Op}
use Rattle.rtc_run_history.specs.declared.step.Step.{Step}
use Rattle.rtc_run_history.specs.declared.step.Step.TheVariants.{Negotiate, AcceptOffer, AcceptAnswer, Time, Datagram, Poll, Drain, Write, CloseChannel, Close, Rollback, ForeignOffer, ForeignAnswer, Raw}
use Rattle.rtc_run_history.specs.declared.poll_end.PollEnd.{PollEnd}
use Rattle.rtc_run_history.specs.declared.shown.Shown.{Shown}
use Rattle.rtc_run_history.specs.declared.outcome.Outcome.{Outcome}
use Rattle.rtc_run_history.specs.declared.outcome.Outcome.TheVariants.{Negotiated, Answered, Finished, Done, Polled, Refused, NoSuch, Alloc}
use Rattle.rtc_run_history.specs.declared.table.Table.{Table}
use Rattle.rtc_run_history.specs.declared.kept.Kept.{Kept}
use Rattle.rtc_run_history.specs.declared.sent_packet.SentPacket.{SentPacket}
use Rattle.rtc_run_history.specs.Memory.{answers_lack}
use Rattle.rtc_run_history.specs.PairState.{kept_remote_sdp, remote_packet, held_token}
use Rattle.rtc_run_history.specs.Performs.{Negotiates, StepAcceptsOffer, StepAcceptsAnswer, StepRollsBack, raw_datagram, HandlesRead, PollsOnce, DrainsPeer, StepPollsPeer, Acts}
use Rattle.rtc_run_laws.proofs.OpParts.{counting_parts, ops_counting, makes_counting, rolls_counting}
use Rattle.rtc_run_laws.proofs.StandingChannels.{shuts_move, write_moves}
use Rattle.rtc_run_laws.proofs.StepWalks.{AnyInput, CallsBeside, calls_keep, close_keep, datagram_keep, read_keep, write_keep}
use Rattle.rtc_run_laws.proofs.StandingPolls.{Moves, input_moves, close_moves, once_moves, drains_moves}

module _ {I D S M E X T W N : Type 0} (m : Meanings I D S M E X T W N) (laws : PartsLaws m) where
  -- the peer is as it was, was told operations or rolled an offer back, or took an offer or an answer with nothing staged
  pub data PeerKind (old new : Peer I D S M N) : Type 0 where
    KeptCore : new ≡ old → PeerKind old new
    StagedOps : counting_parts new ≡ counting_parts old → PeerKind old new
    TookOffer : (offer : Sdp) (r : Result Sdp RtcError) → AcceptsOffer m (record old { staged = []; undo = [] }) offer r new → PeerKind old new
    TookAnswer : (token : PendingOffer) (answer : Sdp) (r : Result (Unit {0}) RtcError) → AcceptsAnswer m (record old { staged = []; undo = [] }) token answer r new
        → PeerKind old new

  -- the side is as it was, moves, or negotiates
  pub data StepKind (old new : PolledPeer I D S M N) : Type 0 where
    Stayed : new ≡ old → StepKind old new
    MovedBy : (numbers : List ℕ) → Moves m laws numbers old new → StepKind old new
    Described : PeerKind old.core new.core → StepKind old new

  negotiate_kind : (at : Side) (ops : List Op) (apply : Bool) (old : Peer I D S M N) (sdps : List Kept) (outcome : Outcome E) (table : Option Table) (new : Peer I D S M N) (sdps' : List Kept)
      → Negotiates m at ops apply old sdps outcome table new sdps' → PeerKind old new
  negotiate_kind at ops apply old sdps Alloc None new sdps' h = KeptCore h.peer
  negotiate_kind at ops apply old sdps (Negotiated answers made) (Some table) new sdps' h =
      StagedOps
      (makes_counting m (apply && not (answers_lack answers)) at h.0 sdps made new sdps' h.2 ∙ ops_counting m (record old { staged = []; undo = [] }) ops answers h.0 h.1)
  negotiate_kind at ops apply old sdps outcome table new sdps' h = absurd h

  step_offer_kind : (at : Side) (offer : Signalled) (old : Peer I D S M N) (sdps : List Kept) (outcome : Outcome E) (table : Option Table) (new : Peer I D S M N) (sdps' : List Kept)
      → StepAcceptsOffer m at offer old sdps outcome table new sdps' → PeerKind old new
  step_offer_kind at NotMade old sdps Alloc None new sdps' h = KeptCore h.peer
  step_offer_kind at (Unreadable line) old sdps Alloc None new sdps' h = KeptCore h.peer
  step_offer_kind at (Readable sdp) old sdps Alloc None new sdps' h = KeptCore h.peer
  step_offer_kind at NotMade old sdps NoSuch (Some table) new sdps' h = KeptCore h.0.peer
  step_offer_kind at (Unreadable line) old sdps (Refused error) (Some table) new sdps' h = KeptCore h.1.peer
  step_offer_kind at (Readable sdp) old sdps (Answered k) (Some table) new sdps' h =
      TookOffer sdp (Ok h.0) h.1
  step_offer_kind at (Readable sdp) old sdps (Refused error) (Some table) new sdps' h =
      TookOffer sdp (Err error) h.0
  step_offer_kind at offer old sdps outcome table new sdps' h = absurd h

  step_answer_kind : (t : ℕ) (token : Option PendingOffer) (answer : Signalled) (old : Peer I D S M N) (sdps : List Kept) (outcome : Outcome E) (table : Option Table) (new : Peer I D S M N) (sdps' : List Kept)
      → StepAcceptsAnswer m t token answer old sdps outcome table new sdps' → PeerKind old new
  step_answer_kind t None NotMade old sdps Alloc None new sdps' h = KeptCore h.peer
  step_answer_kind t None (Unreadable line) old sdps Alloc None new sdps' h = KeptCore h.peer
  step_answer_kind t None (Readable sdp) old sdps Alloc None new sdps' h = KeptCore h.peer
  step_answer_kind t (Some token) NotMade old sdps Alloc None new sdps' h = KeptCore h.peer
  step_answer_kind t (Some token) (Unreadable line) old sdps Alloc None new sdps' h = KeptCore h.peer
  step_answer_kind t (Some token) (Readable sdp) old sdps Alloc None new sdps' h = KeptCore h.peer
  step_answer_kind t None NotMade old sdps NoSuch (Some table) new sdps' h = KeptCore h.0.peer
  step_answer_kind t None (Unreadable line) old sdps NoSuch (Some table) new sdps' h = KeptCore h.0.peer
  step_answer_kind t None (Readable sdp) old sdps NoSuch (Some table) new sdps' h = KeptCore h.0.peer
  step_answer_kind t (Some token) NotMade old sdps NoSuch (Some table) new sdps' h = KeptCore h.0.peer
  step_answer_kind t (Some token) (Unreadable line) old sdps (Refused error) (Some table) new sdps' h = KeptCore h.1.peer
  step_answer_kind t (Some token) (Readable sdp) old sdps Finished (Some table) new sdps' h =
      TookAnswer token sdp (Ok tt) h.0
  step_answer_kind t (Some token) (Readable sdp) old sdps (Refused error) (Some table) new sdps' h =
      TookAnswer token sdp (Err error) h.0
  step_answer_kind t token answer old sdps outcome table new sdps' h = absurd h

  step_rollback_kind : (t : ℕ) (token : Option PendingOffer) (old : Peer I D S M N) (sdps : List Kept) (outcome : Outcome E) (table : Option Table) (new : Peer I D S M N) (sdps' : List Kept)
      → StepRollsBack m t token old sdps outcome table new sdps' → PeerKind old new
  step_rollback_kind t None old sdps Alloc None new sdps' h = KeptCore h.peer
  step_rollback_kind t (Some token) old sdps Alloc None new sdps' h = KeptCore h.peer
  step_rollback_kind t None old sdps NoSuch (Some table) new sdps' h = KeptCore h.0.peer
  step_rollback_kind t (Some token) old sdps Done (Some table) new sdps' h =
      StagedOps (rolls_counting m (record old { staged = []; undo = [] }) token (Ok tt) new h.0)
  step_rollback_kind t (Some token) old sdps (Refused error) (Some table) new sdps' h =
      StagedOps (rolls_counting m (record old { staged = []; undo = [] }) token (Err error) new h.0)
  step_rollback_kind t token old sdps outcome table new sdps' h = absurd h

  -- inputs, writes and closes
  calls_kind : CallsBeside m AnyInput StepKind
  calls_kind = record {
    none = λ p q is. Stayed is;
    inputs = λ input any p r q h. MovedBy [] (input_moves m laws input p r q h);
    writes = λ stream binary bytes p r q h. MovedBy [] (write_moves m laws stream binary bytes p r q h);
    shuts = λ id p r q h. MovedBy [] (shuts_move m laws id p r q h);
  }

  polls_kind : (polls : List SentPacket → List (Shown E) → PollEnd → PolledPeer I D S M N → List SentPacket → Type 0) (old : PolledPeer I D S M N)
      → ((packets : List SentPacket) (outputs : List (Shown E)) (end : PollEnd) (q : PolledPeer I D S M N) (packets' : List SentPacket)
      → polls packets outputs end q packets' → (numbers : List ℕ) × Moves m laws numbers old q)
      → (packets : List SentPacket) (outcome : Outcome E) (table : Option Table) (new : PolledPeer I D S M N) (packets' : List SentPacket)
      → StepPollsPeer m polls old packets outcome table new packets' → StepKind old new
  polls_kind polls old moves packets Alloc None new packets' h = Stayed h.0
  polls_kind polls old moves packets (Polled outputs end) (Some table) new packets' h =
      let moved = moves packets outputs end new packets' h.0 in MovedBy moved.0 moved.1
  polls_kind polls old moves packets outcome table new packets' h = absurd h

  pub acts_kind : (stun : List ℕ → Bool) (other own : Addr) (step : Step) (old : PolledPeer I D S M N) (sdps : List Kept) (packets : List SentPacket) (outcome : Outcome E) (table : Option Table) (new : PolledPeer I D S M N)
      (sdps' : List Kept) (packets' : List SentPacket) → Acts m stun other own step old sdps packets outcome table new sdps' packets' → StepKind old new
  acts_kind stun other own (Negotiate at ops apply) old sdps packets outcome table new sdps' packets' h =
      Described (negotiate_kind at ops apply old.core sdps outcome table new.core sdps' h.0)
  acts_kind stun other own (AcceptOffer at k) old sdps packets outcome table new sdps' packets' h =
      Described (step_offer_kind at (kept_remote_sdp true sdps at k) old.core sdps outcome table new.core sdps' h.0)
  acts_kind stun other own (AcceptAnswer at t a) old sdps packets outcome table new sdps' packets' h =
      Described (step_answer_kind t (held_token sdps at t) (kept_remote_sdp false sdps at a) old.core sdps outcome table new.core sdps' h.0)
  acts_kind stun other own (Time at now) old sdps packets outcome table new sdps' packets' h =
      calls_keep m StepKind calls_kind (HandlesInput m (given.Timeout now)) (λ p r q k. MovedBy [] (input_moves m laws (given.Timeout now) p r q k)) old outcome
      table new h.0
  acts_kind stun other own (Datagram at packet now) old sdps packets outcome table new sdps' packets' h =
      datagram_keep m StepKind calls_kind stun (remote_packet packets at packet) now (λ datagram. tt) old outcome table new h.0
  acts_kind stun other own (Poll at) old sdps packets outcome table new sdps' packets' h =
      polls_kind (PollsOnce m at old) old (λ before_it outputs end q after polls. (_, once_moves m laws at old before_it outputs end q after polls)) packets outcome table new packets' h.0
  acts_kind stun other own (Drain at) old sdps packets outcome table new sdps' packets' h =
      polls_kind (DrainsPeer m at old) old (λ before_it outputs end q after polls. (_, drains_moves m laws at old before_it outputs end q after polls)) packets outcome table new packets' h.0
  acts_kind stun other own (Write at channel binary bytes) old sdps packets outcome table new sdps' packets' h =
      write_keep m StepKind calls_kind (open_stream_under channel old) binary bytes old outcome table new h.0
  acts_kind stun other own (CloseChannel at channel) old sdps packets outcome table new sdps' packets' h =
      close_keep m StepKind calls_kind (open_stream_under channel old) channel old outcome table new h.0
  acts_kind stun other own (Close at) old sdps packets outcome table new sdps' packets' h =
      calls_keep m StepKind calls_kind (ClosesPeer m) (λ p r q k. MovedBy [] (close_moves m laws p r q k)) old outcome table new h.0
  acts_kind stun other own (Rollback at t) old sdps packets outcome table new sdps' packets' h =
      Described (step_rollback_kind t (held_token sdps at t) old.core sdps outcome table new.core sdps' h.0)
  acts_kind stun other own (ForeignOffer at text) old sdps packets outcome table new sdps' packets' h =
      Described (step_offer_kind at (foreign text) old.core sdps outcome table new.core sdps' h.0)
  acts_kind stun other own (ForeignAnswer at t text) old sdps packets outcome table new sdps' packets' h =
      Described (step_answer_kind t (held_token sdps at t) (foreign text) old.core sdps outcome table new.core sdps' h.0)
  acts_kind stun other own (Raw at bytes now) old sdps packets outcome table new sdps' packets' h =
      calls_keep m StepKind calls_kind (HandlesRead m (kind_by stun bytes) (raw_datagram other own bytes) now)
      (λ p r q k. read_keep m StepKind calls_kind (kind_by stun bytes) (raw_datagram other own bytes) now (λ datagram. tt) p r q k) old outcome table new h.0
