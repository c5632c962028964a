-- A step that makes no call leaves its peer, and what its side announced.
use Rattle.std.proofs.Common.{◌≡◌, ◌∙◌, ℕ, Bool, true, false, true≢false, List, Option, Some, None, Result, refl, ap}
use Rattle.rtc_wire.specs.declared.addr.Addr.{Addr}
use Rattle.rtc_wire.specs.DatagramRecv.{kind_by}
use Rattle.rtc_wire.specs.declared.transmit.Transmit.{Transmit}
use Rattle.rtc_change.specs.PendingOffer.{PendingOffer}
use Rattle.rtc_peer_core.specs.declared.peer.Peer.{Peer}
use Rattle.rtc_peer_core.specs.declared.rtc_error.RtcError.{RtcError}
use Rattle.rtc_peer_core.specs.Meanings.{Meanings}
use Rattle.rtc_peer_transport.specs.declared.polled_peer.PolledPeer.{PolledPeer}
use Rattle.rtc_peer_transport.specs.declared.transport.Transport.{Transport}
use Rattle.rtc_peer_transport.specs.declared.input.Input.TheVariants as given
use Rattle.rtc_peer_transport.specs.ChannelCalls.{open_stream_under}
use Rattle.rtc_peer_transport.specs.Closing.{ClosesPeer}
use Rattle.rtc_peer_polling.specs.Inputs.{HandlesInput}
use Rattle.rtc_run_history.specs.declared.kept.Kept.{Kept}
use Rattle.rtc_run_history.specs.declared.op.Op.{Op}
use Rattle.rtc_run_history.specs.declared.outcome.Outcome.{Outcome}
use Rattle.rtc_run_history.specs.declared.outcome.Outcome.TheVariants.{Negotiated, Answered, Finished, Done, Wrote, Polled, Refused, NoSuch, Alloc}
use Rattle.rtc_run_history.specs.declared.poll_end.PollEnd.{PollEnd}
use Rattle.rtc_run_history.specs.declared.sent_packet.SentPacket.{SentPacket}
use Rattle.rtc_run_history.specs.declared.shown.Shown.{Shown}
use Rattle.rtc_run_history.specs.declared.side.Side.{Side}
use Rattle.rtc_run_history.specs.declared.step.Step.{Step}
use Rattle.rtc_run_history.specs.declared.step.Step.TheVariants.{Negotiate, AcceptOffer, AcceptAnswer, Time, Datagram, Poll, Drain, Write, CloseChannel, Close, Rollback, ForeignOffer, ForeignAnswer, Raw}
use Rattle.rtc_run_history.specs.declared.table.Table.{Table}
use Rattle.rtc_run_history.specs.CallReplies.{ClosesOpenChannel, FindsNone, StepCalls, StepClosesChannel, StepWrites, StepWritesOpen}
use Rattle.rtc_run_history.specs.PairState.{held_token, kept_remote_sdp, remote_packet}
use Rattle.rtc_run_history.specs.Performs.{Acts, DrainsPeer, HandlesRead, Negotiates, PollsOnce, raw_datagram, StepAcceptsOffer, StepAcceptsAnswer, StepPollsPeer, StepRollsBack, StepTakesDatagram}
use Rattle.rtc_run_history.specs.Signalled.{Signalled, NotMade, Unreadable, Readable, foreign}
use Rattle.rtc_run_laws.specs.CalledSteps.{calls_peer}
use Rattle.rtc_run_laws.specs.ChannelUses.{ChannelUse}
use Rattle.rtc_run_laws.proofs.RolledUses.{none_rolled}
use Rattle.rtc_run_laws.specs.UsesOfRuns.{uses_acted}

module _ {I D S M E X T W N : Type 0} (m : Meanings I D S M E X T W N) where
  whole : (old new : PolledPeer I D S M N) → new.core ≡ old.core → new.transport ≡ old.transport → new ≡ old
  whole old new core transport =
      ap (λ (c : Peer I D S M N). record { core = c; transport = new.transport }) core ∙ ap (λ (t : Transport). record { core = old.core; transport = t }) transport

  -- ---- each kind of step

  calls_same : (call : PolledPeer I D S M N → Result (Unit {0}) RtcError → PolledPeer I D S M N → Type 0) (old : PolledPeer I D S M N) (outcome : Outcome E)
      (table : Option Table) (new : PolledPeer I D S M N) → StepCalls m call old outcome table new → calls_peer outcome ≡ false → new ≡ old
  calls_same call old Alloc None new h none = h
  calls_same call old Done table new h none = absurd (true≢false none)
  calls_same call old (Refused error) table new h none = absurd (true≢false none)
  calls_same call old outcome table new h none = absurd h

  finds_same : (old : PolledPeer I D S M N) (outcome : Outcome E) (table : Option Table) (new : PolledPeer I D S M N) → FindsNone m old outcome table new → new ≡ old
  finds_same old Alloc None new h = h
  finds_same old NoSuch (Some table) new h = h.0
  finds_same old outcome table new h = absurd h

  writes_open_same : (stream : ℕ) (binary : Bool) (bytes : List ℕ) (old : PolledPeer I D S M N) (outcome : Outcome E) (table : Option Table) (new : PolledPeer I D S M N)
      → StepWritesOpen m stream binary bytes old outcome table new → calls_peer outcome ≡ false → new ≡ old
  writes_open_same stream binary bytes old Alloc None new h none = h
  writes_open_same stream binary bytes old (Wrote taken) table new h none = absurd (true≢false none)
  writes_open_same stream binary bytes old (Refused error) table new h none = absurd (true≢false none)
  writes_open_same stream binary bytes old outcome table new h none = absurd h

  writes_same : (stream : Option ℕ) (binary : Bool) (bytes : List ℕ) (old : PolledPeer I D S M N) (outcome : Outcome E) (table : Option Table) (new : PolledPeer I D S M N)
      → StepWrites m stream binary bytes old outcome table new → calls_peer outcome ≡ false → new ≡ old
  writes_same None binary bytes old outcome table new h none = finds_same old outcome table new h
  writes_same (Some stream) binary bytes old outcome table new h none = writes_open_same stream binary bytes old outcome table new h none

  closes_same : (stream : Option ℕ) (id : ℕ) (old : PolledPeer I D S M N) (outcome : Outcome E) (table : Option Table) (new : PolledPeer I D S M N)
      → StepClosesChannel m stream id old outcome table new → calls_peer outcome ≡ false → new ≡ old
  closes_same None id old outcome table new h none = finds_same old outcome table new h
  closes_same (Some stream) id old outcome table new h none = calls_same (ClosesOpenChannel m id) old outcome table new h none

  datagram_same : (stun : List ℕ → Bool) (transmit : Option Transmit) (now : ℕ) (old : PolledPeer I D S M N) (outcome : Outcome E) (table : Option Table) (new : PolledPeer I D S M N)
      → StepTakesDatagram m stun transmit now old outcome table new → calls_peer outcome ≡ false → new ≡ old
  datagram_same stun None now old Alloc None new h none = h
  datagram_same stun None now old NoSuch (Some table) new h none = h.0
  datagram_same stun (Some transmit) now old outcome table new h none =
      calls_same (HandlesRead m (kind_by stun transmit.contents) transmit now) old outcome table new h none
  datagram_same stun None now old outcome table new h none = absurd h

  polls_same : (polls : List SentPacket → List (Shown E) → PollEnd → PolledPeer I D S M N → List SentPacket → Type 0) (old : PolledPeer I D S M N) (packets : List SentPacket)
      (outcome : Outcome E) (table : Option Table) (new : PolledPeer I D S M N) (packets' : List SentPacket) → StepPollsPeer m polls old packets outcome table new packets'
      → calls_peer outcome ≡ false → new ≡ old
  polls_same polls old packets Alloc None new packets' h none = h.0
  polls_same polls old packets (Polled outputs end) table new packets' h none = absurd (true≢false none)
  polls_same polls old packets outcome table new packets' h none = absurd h

  negotiates_same : (at : Side) (ops : List Op) (apply : Bool) (old : Peer I D S M N) (sdps : List Kept) (outcome : Outcome E) (table : Option Table) (new : Peer I D S M N)
      (sdps' : List Kept) → Negotiates m at ops apply old sdps outcome table new sdps' → calls_peer outcome ≡ false → new ≡ old
  negotiates_same at ops apply old sdps Alloc None new sdps' h none = h.peer
  negotiates_same at ops apply old sdps (Negotiated answers made) table new sdps' h none = absurd (true≢false none)
  negotiates_same at ops apply old sdps outcome table new sdps' h none = absurd h

  offer_same : (at : Side) (offer : Signalled) (old : Peer I D S M N) (sdps : List Kept) (outcome : Outcome E) (table : Option Table) (new : Peer I D S M N)
      (sdps' : List Kept) → StepAcceptsOffer m at offer old sdps outcome table new sdps' → calls_peer outcome ≡ false → new ≡ old
  offer_same at NotMade old sdps Alloc None new sdps' h none = h.peer
  offer_same at (Unreadable line) old sdps Alloc None new sdps' h none = h.peer
  offer_same at (Readable sdp) old sdps Alloc None new sdps' h none = h.peer
  offer_same at NotMade old sdps NoSuch (Some table) new sdps' h none = h.0.peer
  offer_same at (Unreadable line) old sdps (Refused error) table new sdps' h none = absurd (true≢false none)
  offer_same at (Readable sdp) old sdps (Answered k) table new sdps' h none = absurd (true≢false none)
  offer_same at (Readable sdp) old sdps (Refused error) table new sdps' h none = absurd (true≢false none)
  offer_same at offer old sdps outcome table new sdps' h none = absurd h

  answer_same : (t : ℕ) (token : Option PendingOffer) (answer : Signalled) (old : Peer I D S M N) (sdps : List Kept) (outcome : Outcome E) (table : Option Table)
      (new : Peer I D S M N) (sdps' : List Kept) → StepAcceptsAnswer m t token answer old sdps outcome table new sdps' → calls_peer outcome ≡ false → new ≡ old
  answer_same t None NotMade old sdps Alloc None new sdps' h none = h.peer
  answer_same t None (Unreadable line) old sdps Alloc None new sdps' h none = h.peer
  answer_same t None (Readable sdp) old sdps Alloc None new sdps' h none = h.peer
  answer_same t (Some token) NotMade old sdps Alloc None new sdps' h none = h.peer
  answer_same t (Some token) (Unreadable line) old sdps Alloc None new sdps' h none = h.peer
  answer_same t (Some token) (Readable sdp) old sdps Alloc None new sdps' h none = h.peer
  answer_same t None NotMade old sdps NoSuch (Some table) new sdps' h none = h.0.peer
  answer_same t None (Unreadable line) old sdps NoSuch (Some table) new sdps' h none = h.0.peer
  answer_same t None (Readable sdp) old sdps NoSuch (Some table) new sdps' h none = h.0.peer
  answer_same t (Some token) NotMade old sdps NoSuch (Some table) new sdps' h none = h.0.peer
  answer_same t (Some token) (Unreadable line) old sdps (Refused error) table new sdps' h none = absurd (true≢false none)
  answer_same t (Some token) (Readable sdp) old sdps Finished table new sdps' h none = absurd (true≢false none)
  answer_same t (Some token) (Readable sdp) old sdps (Refused error) table new sdps' h none = absurd (true≢false none)
  answer_same t token answer old sdps outcome table new sdps' h none = absurd h

  rollback_same : (t : ℕ) (token : Option PendingOffer) (old : Peer I D S M N) (sdps : List Kept) (outcome : Outcome E) (table : Option Table) (new : Peer I D S M N)
      (sdps' : List Kept) → StepRollsBack m t token old sdps outcome table new sdps' → calls_peer outcome ≡ false → new ≡ old
  rollback_same t None old sdps Alloc None new sdps' h none = h.peer
  rollback_same t (Some token) old sdps Alloc None new sdps' h none = h.peer
  rollback_same t None old sdps NoSuch (Some table) new sdps' h none = h.0.peer
  rollback_same t (Some token) old sdps Done table new sdps' h none = absurd (true≢false none)
  rollback_same t (Some token) old sdps (Refused error) table new sdps' h none = absurd (true≢false none)
  rollback_same t token old sdps outcome table new sdps' h none = absurd h

  -- ---- all of them

  pub uncalled_same : (stun : List ℕ → Bool) (other own : Addr) (step : Step) (old : PolledPeer I D S M N) (sdps : List Kept) (packets : List SentPacket) (outcome : Outcome E)
      (table : Option Table) (new : PolledPeer I D S M N) (sdps' : List Kept) (packets' : List SentPacket)
      → Acts m stun other own step old sdps packets outcome table new sdps' packets' → calls_peer outcome ≡ false → new ≡ old
  uncalled_same stun other own (Negotiate at ops apply) old sdps packets outcome table new sdps' packets' h none =
      whole old new (negotiates_same at ops apply old.core sdps outcome table new.core sdps' h.0 none) h.1.connection
  uncalled_same stun other own (AcceptOffer at k) old sdps packets outcome table new sdps' packets' h none =
      whole old new (offer_same at (kept_remote_sdp true sdps at k) old.core sdps outcome table new.core sdps' h.0 none) h.1.connection
  uncalled_same stun other own (AcceptAnswer at t a) old sdps packets outcome table new sdps' packets' h none =
      whole old new (answer_same t (held_token sdps at t) (kept_remote_sdp false sdps at a) old.core sdps outcome table new.core sdps' h.0 none) h.1.connection
  uncalled_same stun other own (Time at now) old sdps packets outcome table new sdps' packets' h none =
      calls_same (HandlesInput m (given.Timeout now)) old outcome table new h.0 none
  uncalled_same stun other own (Datagram at packet now) old sdps packets outcome table new sdps' packets' h none =
      datagram_same stun (remote_packet packets at packet) now old outcome table new h.0 none
  uncalled_same stun other own (Poll at) old sdps packets outcome table new sdps' packets' h none =
      polls_same (PollsOnce m at old) old packets outcome table new packets' h.0 none
  uncalled_same stun other own (Drain at) old sdps packets outcome table new sdps' packets' h none =
      polls_same (DrainsPeer m at old) old packets outcome table new packets' h.0 none
  uncalled_same stun other own (Write at channel binary bytes) old sdps packets outcome table new sdps' packets' h none =
      writes_same (open_stream_under channel old) binary bytes old outcome table new h.0 none
  uncalled_same stun other own (CloseChannel at channel) old sdps packets outcome table new sdps' packets' h none =
      closes_same (open_stream_under channel old) channel old outcome table new h.0 none
  uncalled_same stun other own (Close at) old sdps packets outcome table new sdps' packets' h none =
      calls_same (ClosesPeer m) old outcome table new h.0 none
  uncalled_same stun other own (Rollback at t) old sdps packets outcome table new sdps' packets' h none =
      whole old new (rollback_same t (held_token sdps at t) old.core sdps outcome table new.core sdps' h.0 none) h.1.connection
  uncalled_same stun other own (ForeignOffer at text) old sdps packets outcome table new sdps' packets' h none =
      whole old new (offer_same at (foreign text) old.core sdps outcome table new.core sdps' h.0 none) h.1.connection
  uncalled_same stun other own (ForeignAnswer at t text) old sdps packets outcome table new sdps' packets' h none =
      whole old new (answer_same t (held_token sdps at t) (foreign text) old.core sdps outcome table new.core sdps' h.0 none) h.1.connection
  uncalled_same stun other own (Raw at bytes now) old sdps packets outcome table new sdps' packets' h none =
      calls_same (HandlesRead m (kind_by stun bytes) (raw_datagram other own bytes) now) old outcome table new h.0 none

  -- such a step announces nothing, and no message is written by it
  pub uncalled_uses : (stun : List ℕ → Bool) (other own : Addr) (step : Step) (old : PolledPeer I D S M N) (sdps : List Kept) (packets : List SentPacket) (outcome : Outcome E)
      (table : Option Table) (new : PolledPeer I D S M N) (sdps' : List Kept) (packets' : List SentPacket)
      (h : Acts m stun other own step old sdps packets outcome table new sdps' packets') (uses : List ChannelUse) → calls_peer outcome ≡ false
      → uses_acted m stun other own step old sdps packets outcome table new sdps' packets' h uses ≡ uses
  uncalled_uses stun other own (Negotiate at ops apply) old sdps packets outcome table new sdps' packets' h uses none = refl
  uncalled_uses stun other own (AcceptOffer at k) old sdps packets outcome table new sdps' packets' h uses none = refl
  uncalled_uses stun other own (AcceptAnswer at t a) old sdps packets outcome table new sdps' packets' h uses none = refl
  uncalled_uses stun other own (Time at now) old sdps packets outcome table new sdps' packets' h uses none = refl
  uncalled_uses stun other own (Datagram at packet now) old sdps packets outcome table new sdps' packets' h uses none = refl
  uncalled_uses stun other own (CloseChannel at channel) old sdps packets outcome table new sdps' packets' h uses none = refl
  uncalled_uses stun other own (Close at) old sdps packets outcome table new sdps' packets' h uses none = refl
  uncalled_uses stun other own (Rollback at t) old sdps packets outcome table new sdps' packets' h uses none =
      none_rolled old.core.channels.rows new.core.channels.rows uses
      (ap (λ (x : PolledPeer I D S M N). x.core.channels.rows) (uncalled_same stun other own (Rollback at t) old sdps packets outcome table new sdps' packets' h none))
  uncalled_uses stun other own (ForeignOffer at text) old sdps packets outcome table new sdps' packets' h uses none = refl
  uncalled_uses stun other own (ForeignAnswer at t text) old sdps packets outcome table new sdps' packets' h uses none = refl
  uncalled_uses stun other own (Raw at bytes now) old sdps packets outcome table new sdps' packets' h uses none = refl
  uncalled_uses stun other own (Poll at) old sdps packets NoSuch table new sdps' packets' h uses none = refl
  uncalled_uses stun other own (Poll at) old sdps packets Alloc table new sdps' packets' h uses none = refl
  uncalled_uses stun other own (Poll at) old sdps packets outcome table new sdps' packets' h uses none = absurd (true≢false none)
  uncalled_uses stun other own (Drain at) old sdps packets NoSuch table new sdps' packets' h uses none = refl
  uncalled_uses stun other own (Drain at) old sdps packets Alloc table new sdps' packets' h uses none = refl
  uncalled_uses stun other own (Drain at) old sdps packets outcome table new sdps' packets' h uses none = absurd (true≢false none)
  uncalled_uses stun other own (Write at channel binary bytes) old sdps packets NoSuch table new sdps' packets' h uses none = refl
  uncalled_uses stun other own (Write at channel binary bytes) old sdps packets Alloc table new sdps' packets' h uses none = refl
  uncalled_uses stun other own (Write at channel binary bytes) old sdps packets outcome table new sdps' packets' h uses none = absurd (true≢false none)
