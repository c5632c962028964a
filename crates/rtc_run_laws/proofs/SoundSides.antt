-- What an acting peer tells of its parts in each kind of step.
use Rattle.std.proofs.Common.{subst, ◌≡◌, ◌≤◌, ◌∙◌, ℕ, List, Bool, true, false, not, ◌&&◌, Option, Some, None, Err, refl, sym, ap}
use Rattle.rtc_wire.specs.declared.addr.Addr.{Addr}
use Rattle.rtc_io.specs.Faults.{Rose}
use Rattle.rtc_change.specs.PendingOffer.{PendingOffer}
use Rattle.rtc_peer_core.specs.declared.peer.Peer.{Peer}
use Rattle.rtc_peer_core.specs.declared.rtc_error.RtcError.{RtcError}
use Rattle.rtc_peer_core.specs.declared.rtc_error.RtcError.TheVariants.{Net, Media as MediaFailed, Glare}
use Rattle.rtc_peer_core.specs.declared.rtc_error.RtcError.TheVariants.{RemoteSdp, Sdp as SdpRefused, Dtls, Sctp, ChangesOutOfOrder, BadChannel, Alloc as PeerAlloc}
use Rattle.rtc_peer_core.specs.Meanings.{Meanings, PartsLaws}
use Rattle.rtc_peer_core.specs.RollingBack.{RollsBack}
use Rattle.rtc_peer_transport.specs.declared.polled_peer.PolledPeer.{PolledPeer}
use Rattle.rtc_peer_transport.specs.ChannelCalls.{open_stream_under}
use Rattle.rtc_sdp_values.specs.declared.sdp_error.SdpError.TheVariants.{Parse}
use Rattle.rtc_run_history.specs.Signalled.{Signalled, NotMade, Unreadable, Readable, foreign}
use Rattle.rtc_run_history.specs.declared.side.Side.{Side}
use Rattle.rtc_run_history.specs.declared.op.Op.{Op}
use Rattle.rtc_run_history.specs.declared.step.Step.{Step}
use Rattle.rtc_run_history.specs.declared.step.Step.TheVariants.{Negotiate, AcceptOffer, AcceptAnswer, Time, Datagram, Poll, Drain, Write, CloseChannel, Close, Rollback, ForeignOffer, ForeignAnswer, Raw}
use Rattle.rtc_run_history.specs.declared.outcome.Outcome.{Outcome}
use Rattle.rtc_run_history.specs.declared.outcome.Outcome.TheVariants.{Negotiated, Answered, Finished, Done, Refused, NoSuch, Alloc}
use Rattle.rtc_run_history.specs.declared.table.Table.{Table}
use Rattle.rtc_run_history.specs.declared.kept.Kept.{Kept}
use Rattle.rtc_run_history.specs.declared.sent_packet.SentPacket.{SentPacket}
use Rattle.rtc_run_history.specs.Memory.{DtlsPart, AssociationPart, MediaPart, answers_lack, tells_fault_of}
use Rattle.rtc_run_history.specs.PairState.{kept_remote_sdp, held_token, remote_packet}
use Rattle.rtc_run_history.specs.Performs.{Negotiates, StepAcceptsOffer, StepAcceptsAnswer, StepRollsBack, PollsOnce, DrainsPeer, Acts, lent, raw_datagram}
use Rattle.rtc_run_history.specs.SoundParts.{refuses_sdp, tells_refusal, faults_of}
use Rattle.rtc_run_laws.proofs.CountedFaults.{by_part}
use Rattle.rtc_run_laws.proofs.OpParts.{counting_parts, ops_counting, makes_counting}
use Rattle.rtc_run_laws.proofs.GrowingCounts.{Counts}
use Rattle.rtc_run_laws.proofs.ChannelFaults.{write_goes, close_channel_goes}
use Rattle.rtc_run_laws.proofs.RestSides.{time_goes, shut_goes, datagram_goes, once_goes, drains_go, polls_go}
use Rattle.rtc_run_laws.proofs.SideFaults.{IsSoundOfSide, unmoved, refused, offer_accepted, offer_refused, answer_accepted, answer_refused}

module _ {I D S M E X T W N : Type 0} (m : Meanings I D S M E X T W N) (laws : PartsLaws m) where
  -- a peer that is lent has the parts that it had
  lends : (old new : Peer I D S M N) (refuses : Bool) (outcome : Outcome E) → IsSoundOfSide m laws (lent old) refuses outcome new → IsSoundOfSide m laws old refuses outcome new
  lends old new refuses outcome h = record {
    later = by_part (λ part. faults_of m part old ≤ faults_of m part new) (h.later DtlsPart) (h.later AssociationPart) (h.later MediaPart);
    fault = by_part (λ part. tells_fault_of outcome part ≡ true → Rose (faults_of m part old) (faults_of m part new)) (h.fault DtlsPart) (h.fault AssociationPart) (h.fault MediaPart);
    media = h.media;
  }

  -- what could not be read did not reach the peer
  unread_side : (old new : Peer I D S M N) (line : ℕ) (error : RtcError) → error ≡ SdpRefused (Parse line) → counting_parts new ≡ counting_parts old
      → IsSoundOfSide m laws old true (Refused error) new
  unread_side old new line error is same =
      subst (λ (e : RtcError). IsSoundOfSide m laws old true (Refused e) new) (sym is) (refused m laws old new (SdpRefused (Parse line)) (λ part. refl) same)

  negotiate_side : (at : Side) (ops : List Op) (apply : Bool) (old : Peer I D S M N) (sdps : List Kept) (outcome : Outcome E) (table : Option Table) (new : Peer I D S M N) (sdps' : List Kept)
      → Negotiates m at ops apply old sdps outcome table new sdps' → IsSoundOfSide m laws old false outcome new
  negotiate_side at ops apply old sdps Alloc None new sdps' h = unmoved m laws old new Alloc (λ part. refl) (ap counting_parts h.peer)
  negotiate_side at ops apply old sdps (Negotiated answers made) (Some table) new sdps' h =
      unmoved m laws old new (Negotiated answers made) (λ part. refl) (makes_counting m (apply && not (answers_lack answers)) at h.0 sdps made new sdps' h.2 ∙ ops_counting m _ ops answers h.0 h.1)
  negotiate_side at ops apply old sdps outcome table new sdps' h = absurd h

  offer_side : (at : Side) (offer : Signalled) (old : Peer I D S M N) (sdps : List Kept) (outcome : Outcome E) (table : Option Table) (new : Peer I D S M N) (sdps' : List Kept)
      → StepAcceptsOffer m at offer old sdps outcome table new sdps' → IsSoundOfSide m laws old (tells_refusal outcome) outcome new
  offer_side at NotMade old sdps Alloc None new sdps' h = unmoved m laws old new Alloc (λ part. refl) (ap counting_parts h.peer)
  offer_side at (Unreadable line) old sdps Alloc None new sdps' h = unmoved m laws old new Alloc (λ part. refl) (ap counting_parts h.peer)
  offer_side at (Readable sdp) old sdps Alloc None new sdps' h = unmoved m laws old new Alloc (λ part. refl) (ap counting_parts h.peer)
  offer_side at NotMade old sdps NoSuch (Some table) new sdps' h = unmoved m laws old new NoSuch (λ part. refl) (ap counting_parts h.0.peer)
  offer_side at (Unreadable line) old sdps (Refused error) (Some table) new sdps' h = unread_side old new line error h.0 (ap counting_parts h.1.peer)
  offer_side at (Readable sdp) old sdps (Answered k) (Some table) new sdps' h = lends old new false (Answered k) (offer_accepted m laws (lent old) new k sdp h.0 h.1)
  offer_side at (Readable sdp) old sdps (Refused error) (Some table) new sdps' h = lends old new true (Refused error) (offer_refused m laws (lent old) new sdp error h.0)
  offer_side at offer old sdps outcome table new sdps' h = absurd h

  answer_side : (t : ℕ) (token : Option PendingOffer) (answer : Signalled) (old : Peer I D S M N) (sdps : List Kept) (outcome : Outcome E) (table : Option Table) (new : Peer I D S M N) (sdps' : List Kept)
      → StepAcceptsAnswer m t token answer old sdps outcome table new sdps' → IsSoundOfSide m laws old (tells_refusal outcome) outcome new
  answer_side t None NotMade old sdps Alloc None new sdps' h = unmoved m laws old new Alloc (λ part. refl) (ap counting_parts h.peer)
  answer_side t None (Unreadable line) old sdps Alloc None new sdps' h = unmoved m laws old new Alloc (λ part. refl) (ap counting_parts h.peer)
  answer_side t None (Readable sdp) old sdps Alloc None new sdps' h = unmoved m laws old new Alloc (λ part. refl) (ap counting_parts h.peer)
  answer_side t (Some token) NotMade old sdps Alloc None new sdps' h = unmoved m laws old new Alloc (λ part. refl) (ap counting_parts h.peer)
  answer_side t (Some token) (Unreadable line) old sdps Alloc None new sdps' h = unmoved m laws old new Alloc (λ part. refl) (ap counting_parts h.peer)
  answer_side t (Some token) (Readable sdp) old sdps Alloc None new sdps' h = unmoved m laws old new Alloc (λ part. refl) (ap counting_parts h.peer)
  answer_side t None NotMade old sdps NoSuch (Some table) new sdps' h = unmoved m laws old new NoSuch (λ part. refl) (ap counting_parts h.0.peer)
  answer_side t None (Unreadable line) old sdps NoSuch (Some table) new sdps' h = unmoved m laws old new NoSuch (λ part. refl) (ap counting_parts h.0.peer)
  answer_side t None (Readable sdp) old sdps NoSuch (Some table) new sdps' h = unmoved m laws old new NoSuch (λ part. refl) (ap counting_parts h.0.peer)
  answer_side t (Some token) NotMade old sdps NoSuch (Some table) new sdps' h = unmoved m laws old new NoSuch (λ part. refl) (ap counting_parts h.0.peer)
  answer_side t (Some token) (Unreadable line) old sdps (Refused error) (Some table) new sdps' h = unread_side old new line error h.0 (ap counting_parts h.1.peer)
  answer_side t (Some token) (Readable sdp) old sdps Finished (Some table) new sdps' h = lends old new false Finished (answer_accepted m laws (lent old) new token sdp h.0)
  answer_side t (Some token) (Readable sdp) old sdps (Refused error) (Some table) new sdps' h = lends old new true (Refused error) (answer_refused m laws (lent old) new token sdp error h.0)
  answer_side t token answer old sdps outcome table new sdps' h = absurd h

  -- a rollback moves no part
  rollback_refused : (p q : Peer I D S M N) (token : PendingOffer) (error : RtcError) → RollsBack p token (Err error) q → IsSoundOfSide m laws p true (Refused error) q
  rollback_refused p q token ChangesOutOfOrder h = refused m laws p q ChangesOutOfOrder (λ part. refl) (ap counting_parts h.1)
  rollback_refused p q token (RemoteSdp why) h = absurd h
  rollback_refused p q token (SdpRefused error) h = absurd h
  rollback_refused p q token (Dtls error) h = absurd h
  rollback_refused p q token (Sctp error) h = absurd h
  rollback_refused p q token (Net cause) h = absurd h
  rollback_refused p q token (MediaFailed cause) h = absurd h
  rollback_refused p q token BadChannel h = absurd h
  rollback_refused p q token Glare h = absurd h
  rollback_refused p q token PeerAlloc h = absurd h

  rollback_side : (t : ℕ) (token : Option PendingOffer) (old : Peer I D S M N) (sdps : List Kept) (outcome : Outcome E) (table : Option Table) (new : Peer I D S M N) (sdps' : List Kept)
      → StepRollsBack m t token old sdps outcome table new sdps' → IsSoundOfSide m laws old (tells_refusal outcome) outcome new
  rollback_side t None old sdps Alloc None new sdps' h = unmoved m laws old new Alloc (λ part. refl) (ap counting_parts h.peer)
  rollback_side t (Some token) old sdps Alloc None new sdps' h = unmoved m laws old new Alloc (λ part. refl) (ap counting_parts h.peer)
  rollback_side t None old sdps NoSuch (Some table) new sdps' h = unmoved m laws old new NoSuch (λ part. refl) (ap counting_parts h.0.peer)
  rollback_side t (Some token) old sdps Done (Some table) new sdps' h = unmoved m laws old new Done (λ part. refl) (ap counting_parts h.0.1)
  rollback_side t (Some token) old sdps (Refused error) (Some table) new sdps' h = lends old new true (Refused error) (rollback_refused (lent old) new token error h.0)
  rollback_side t token old sdps outcome table new sdps' h = absurd h

  -- a step that negotiates nothing
  rest_side : (old new : PolledPeer I D S M N) (outcome : Outcome E) → Counts m old (tells_fault_of outcome) new → IsSoundOfSide m laws old.core false outcome new.core
  rest_side old new outcome goes = record {
    later = by_part (λ part. faults_of m part old.core ≤ faults_of m part new.core) goes.dtls.0 goes.association.0 goes.media.0;
    fault = by_part (λ part. tells_fault_of outcome part ≡ true → Rose (faults_of m part old.core) (faults_of m part new.core)) goes.dtls.1 goes.association.1 goes.media.1;
    media = λ told. absurd (cc);
  }

  -- What a step tells of the parts of the peer that acts.
  pub acts_side : (stun : List ℕ → Bool) (other own : Addr) (step : Step) (old : PolledPeer I D S M N) (sdps : List Kept) (packets : List SentPacket) (outcome : Outcome E) (table : Option Table)
      (new : PolledPeer I D S M N) (sdps' : List Kept) (packets' : List SentPacket)
      → Acts m stun other own step old sdps packets outcome table new sdps' packets' → IsSoundOfSide m laws old.core (refuses_sdp step outcome) outcome new.core
  acts_side stun other own (Negotiate at ops apply) old sdps packets outcome table new sdps' packets' h = negotiate_side at ops apply old.core sdps outcome table new.core sdps' h.0
  acts_side stun other own (AcceptOffer at k) old sdps packets outcome table new sdps' packets' h =
      offer_side at (kept_remote_sdp true sdps at k) old.core sdps outcome table new.core sdps' h.0
  acts_side stun other own (AcceptAnswer at t a) old sdps packets outcome table new sdps' packets' h =
      answer_side t (held_token sdps at t) (kept_remote_sdp false sdps at a) old.core sdps outcome table new.core sdps' h.0
  acts_side stun other own (Time at now) old sdps packets outcome table new sdps' packets' h = rest_side old new outcome (time_goes m laws now old outcome table new h.0)
  acts_side stun other own (Datagram at packet now) old sdps packets outcome table new sdps' packets' h =
      rest_side old new outcome (datagram_goes m laws stun (remote_packet packets at packet) now old outcome table new h.0)
  acts_side stun other own (Poll at) old sdps packets outcome table new sdps' packets' h =
      rest_side old new outcome (polls_go m laws (PollsOnce m at old) old (λ kept outputs end q kept'. once_goes m laws at old kept outputs end q kept') packets outcome table new packets' h.0)
  acts_side stun other own (Drain at) old sdps packets outcome table new sdps' packets' h =
      rest_side old new outcome (polls_go m laws (DrainsPeer m at old) old (λ kept outputs end q kept'. drains_go m laws at old kept outputs end q kept') packets outcome table new packets' h.0)
  acts_side stun other own (Write at channel binary bytes) old sdps packets outcome table new sdps' packets' h =
      rest_side old new outcome (write_goes m laws (open_stream_under channel old) binary bytes old outcome table new h.0)
  acts_side stun other own (CloseChannel at channel) old sdps packets outcome table new sdps' packets' h =
      rest_side old new outcome (close_channel_goes m laws (open_stream_under channel old) channel old outcome table new h.0)
  acts_side stun other own (Close at) old sdps packets outcome table new sdps' packets' h = rest_side old new outcome (shut_goes m laws old outcome table new h.0)
  acts_side stun other own (Rollback at t) old sdps packets outcome table new sdps' packets' h =
      rollback_side t (held_token sdps at t) old.core sdps outcome table new.core sdps' h.0
  acts_side stun other own (ForeignOffer at text) old sdps packets outcome table new sdps' packets' h =
      offer_side at (foreign text) old.core sdps outcome table new.core sdps' h.0
  acts_side stun other own (ForeignAnswer at t text) old sdps packets outcome table new sdps' packets' h =
      answer_side t (held_token sdps at t) (foreign text) old.core sdps outcome table new.core sdps' h.0
  acts_side stun other own (Raw at bytes now) old sdps packets outcome table new sdps' packets' h =
      rest_side old new outcome (datagram_goes m laws stun (Some (raw_datagram other own bytes)) now old outcome table new h.0)
