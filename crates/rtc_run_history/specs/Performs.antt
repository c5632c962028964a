-- What each step does to a pair: the public calls that it makes, by their relations.
use Rattle.std.specs.Prelude.{◌≡◌, ◌+◌, ℕ, List, [], ◌∷◌, ◌++◌, map, drop, Bool, true, false, not, ◌&&◌, Option, Some}
use Rattle.std.specs.Prelude.{None, Result, Ok, Err, length, alloc_error, slice_get}
use Rattle.rtc_wire.specs.DatagramRecv.{kind_by, kind_said, bytes_lent}
use Rattle.rtc_wire.specs.declared.addr.Addr.{Addr}
use Rattle.rtc_wire.specs.declared.multiplex_kind.MultiplexKind.{MultiplexKind}
use Rattle.rtc_wire.specs.declared.net_error.NetError.{NetError}
use Rattle.rtc_wire.specs.declared.protocol.Protocol.TheVariants.{Udp}
use Rattle.rtc_wire.specs.declared.receive.Receive.{Receive}
use Rattle.rtc_wire.specs.declared.transmit.Transmit.{Transmit}
use Rattle.rtc_sdp_values.specs.declared.direction.Direction.{Direction}
use Rattle.rtc_sdp_values.specs.declared.line_row.LineRow.{LineRow}
use Rattle.rtc_sdp_values.specs.declared.media_kind.MediaKind.{MediaKind}
use Rattle.rtc_sdp_values.specs.declared.sdp.Sdp.{Sdp}
use Rattle.rtc_change.specs.PendingOffer.{PendingOffer}
use Rattle.rtc_peer_rows.specs.RowChanges.{media_mid}
use Rattle.rtc_peer_core.specs.declared.peer.Peer.{Peer}
use Rattle.rtc_peer_core.specs.declared.rtc_error.RtcError.{RtcError}
use Rattle.rtc_peer_core.specs.declared.rtc_error.RtcError.TheVariants.{BadChannel, Net, Alloc as PeerAlloc}
use Rattle.rtc_peer_core.specs.Calls.{AddsMedia, SetsDirection, StopsMedia, AddsChannel, StagesRestart, Applies, Wanted}
use Rattle.rtc_peer_core.specs.Meanings.{Meanings}
use Rattle.rtc_peer_transport.specs.declared.input.Input.TheVariants as given
use Rattle.rtc_peer_transport.specs.declared.output.Output.TheVariants as polled
use Rattle.rtc_peer_transport.specs.declared.polled_peer.PolledPeer.{PolledPeer}
use Rattle.rtc_peer_transport.specs.ChannelCalls.{open_stream_under}
use Rattle.rtc_peer_transport.specs.Closing.{ClosesPeer}
use Rattle.rtc_peer_polling.specs.Inputs.{HandlesInput}
use Rattle.rtc_peer_polling.specs.Walk.{PollsPeer}
use Rattle.rtc_run_history.specs.declared.side.Side.{Side}
use Rattle.rtc_run_history.specs.declared.op.Op.{Op}
use Rattle.rtc_run_history.specs.declared.op.Op.TheVariants.{AddMedia, SetDirection, StopMedia, AddChannel, IceRestart}
use Rattle.rtc_run_history.specs.declared.step.Step.{Step}
use Rattle.rtc_run_history.specs.declared.step.Step.TheVariants.{Negotiate, AcceptOffer, AcceptAnswer, Time, Datagram, Poll, Drain}
use Rattle.rtc_run_history.specs.declared.step.Step.TheVariants.{Write, CloseChannel, Close, Rollback, ForeignOffer, ForeignAnswer, Raw}
use Rattle.rtc_run_history.specs.declared.op_answer.OpAnswer.{OpAnswer}
use Rattle.rtc_run_history.specs.declared.op_answer.OpAnswer.TheVariants.{Mid, Changed, NoLine, Channel, Creds}
use Rattle.rtc_run_history.specs.declared.op_answer.OpAnswer.TheVariants.{BadChannel as NoChannel, Alloc as OpAlloc}
use Rattle.rtc_run_history.specs.declared.made.Made.{Made}
use Rattle.rtc_run_history.specs.declared.made.Made.TheVariants.{NotAsked, Nothing, Offer, Alloc as MadeAlloc}
use Rattle.rtc_run_history.specs.declared.poll_end.PollEnd.{PollEnd}
use Rattle.rtc_run_history.specs.declared.poll_end.PollEnd.TheVariants.{Ended, Refused as EndRefused, NoRoom}
use Rattle.rtc_run_history.specs.declared.sent_packet.SentPacket.{SentPacket}
use Rattle.rtc_run_history.specs.declared.shown.Shown.{Shown}
use Rattle.rtc_run_history.specs.declared.shown.Shown.TheVariants.{Timeout, Packet, Event}
use Rattle.rtc_run_history.specs.declared.outcome.Outcome.{Outcome}
use Rattle.rtc_run_history.specs.declared.outcome.Outcome.TheVariants.{Negotiated, Polled, NoSuch, Alloc}
use Rattle.rtc_run_history.specs.declared.table.Table.{Table}
use Rattle.rtc_run_history.specs.CallReplies.{Shows, StepCalls, StepWrites, StepClosesChannel}
use Rattle.rtc_run_history.specs.Memory.{answers_lack}
pub use Rattle.rtc_run_history.specs.StepAcceptances.{lent, kept_answer, Stays, StepAcceptsOffer, StepAcceptsAnswer, StepRollsBack}
use Rattle.rtc_run_history.specs.Sides.{side_of, other_side}
use Rattle.rtc_run_history.specs.Sizes.{step_size}
use Rattle.rtc_run_history.specs.Past.{Entry, MadeSdp}
use Rattle.rtc_run_history.specs.declared.kept.Kept.{Kept}
use Rattle.rtc_run_history.specs.Signalled.{foreign}
use Rattle.rtc_run_history.specs.PairState.{PairState, rtc_at, addr_at, made_sdp, kept_remote_sdp, remote_packet, held_token}

abbrev pub kept_offer : Side → Sdp × PendingOffer → Kept
kept_offer at made = record { at = at; offer = true; sdp = made.0; token = Some made.1 }

-- a media line whose stream and track names are drawn
abbrev pub wanted : MediaKind → Direction → Wanted
wanted kind dir = record { kind = kind; dir = dir; stream = None; track = None; simulcast = None }

-- the connection of a peer and the datagrams are unchanged
pub record LeavesConnection {I D S M N : Type 0} (old : PolledPeer I D S M N) (packets : List SentPacket) (new : PolledPeer I D S M N)
    (packets' : List SentPacket) : Type 0 where
  pub connection : new.transport ≡ old.transport
  pub packets_kept : packets' ≡ packets

-- bytes of anybody as a UDP datagram from one address to another
abbrev pub raw_datagram : (source destination : Addr) → List ℕ → Transmit
raw_datagram source destination bytes = record { proto = Udp; source = source; destination = destination; contents = bytes }

-- a datagram as the pair keeps it
abbrev pub sent_packet : Side → Transmit → SentPacket
sent_packet at transmit = record { at = at; transmit = transmit }

-- a datagram as its receiver gets it, by its kind
pub record ComesIn (transmit : Transmit) (kind : MultiplexKind) (datagram : Receive) : Type 0 where
  pub kind_is : kind_said datagram.contents ≡ kind
  pub bytes : bytes_lent datagram.contents ≡ transmit.contents
  pub proto : datagram.proto ≡ transmit.proto
  pub source : datagram.source ≡ transmit.source
  pub destination : datagram.destination ≡ transmit.destination

-- a call on the line at a place, which it names by its mid
pub record CallsLine (rows : List LineRow) (place : ℕ) (call : List ℕ → Type 0) : Type 0 where
  pub mid : List ℕ
  pub there : media_mid (slice_get rows place) ≡ Some mid
  pub called : call mid

module _ {I D S M E X T W N : Type 0} (m : Meanings I D S M E X T W N) where
  -- Operations are performed in order, up to the first that returns `Alloc`.
  abbrev pub PerformsOps : Peer I D S M N → List Op → List OpAnswer → Peer I D S M N → Type 0
  PerformsOps p [] [] q = q ≡ p
  PerformsOps p (AddMedia kind dir ∷ ops) (Mid mid ∷ answers) q =
      (r : Peer I D S M N) × AddsMedia m p (wanted kind dir) (Ok mid) r × PerformsOps r ops answers q
  PerformsOps p (AddMedia kind dir ∷ ops) (OpAlloc ∷ []) q = AddsMedia m p (wanted kind dir) (Err alloc_error) q
  PerformsOps p (SetDirection place dir ∷ ops) (NoLine ∷ answers) q =
      (media_mid (slice_get p.lines place) ≡ None) × PerformsOps p ops answers q
  PerformsOps p (SetDirection place dir ∷ ops) (Changed changed ∷ answers) q =
      (r : Peer I D S M N) × CallsLine p.lines place (λ mid. SetsDirection p mid dir (Ok changed) r) × PerformsOps r ops answers q
  PerformsOps p (SetDirection place dir ∷ ops) (OpAlloc ∷ []) q =
      CallsLine p.lines place (λ mid. SetsDirection p mid dir (Err alloc_error) q)
  PerformsOps p (StopMedia place ∷ ops) (NoLine ∷ answers) q =
      (media_mid (slice_get p.lines place) ≡ None) × PerformsOps p ops answers q
  PerformsOps p (StopMedia place ∷ ops) (Changed changed ∷ answers) q =
      (r : Peer I D S M N) × CallsLine p.lines place (λ mid. StopsMedia p mid (Ok changed) r) × PerformsOps r ops answers q
  PerformsOps p (StopMedia place ∷ ops) (OpAlloc ∷ []) q = CallsLine p.lines place (λ mid. StopsMedia p mid (Err alloc_error) q)
  PerformsOps p (AddChannel config ∷ ops) (Channel id ∷ answers) q =
      (r : Peer I D S M N) × AddsChannel m p config (Ok id) r × PerformsOps r ops answers q
  PerformsOps p (AddChannel config ∷ ops) (NoChannel ∷ answers) q =
      (r : Peer I D S M N) × AddsChannel m p config (Err BadChannel) r × PerformsOps r ops answers q
  PerformsOps p (AddChannel config ∷ ops) (OpAlloc ∷ []) q = AddsChannel m p config (Err PeerAlloc) q
  PerformsOps p (IceRestart keep ∷ ops) (Creds creds ∷ answers) q =
      (r : Peer I D S M N) × StagesRestart m p keep (Ok creds) r × PerformsOps r ops answers q
  PerformsOps p (IceRestart keep ∷ ops) (OpAlloc ∷ []) q = StagesRestart m p keep (Err alloc_error) q
  PerformsOps p ops answers q = ⊥

  -- Staged changes are applied if the step asks for it: at a peer, with the SDPs before and after.
  abbrev pub MakesOf : Bool → Side → Peer I D S M N → List Kept → Made → Peer I D S M N → List Kept → Type 0
  MakesOf false at p sdps NotAsked q sdps' = (q ≡ p) × (sdps' ≡ sdps)
  MakesOf true at p sdps Nothing q sdps' = Applies m p (Ok None) q × (sdps' ≡ sdps)
  MakesOf true at p sdps (Offer k) q sdps' =
      (made : Sdp × PendingOffer) × Applies m p (Ok (Some made)) q × (sdps' ≡ sdps ++ kept_offer at made ∷ []) × (k ≡ length sdps)
  MakesOf true at p sdps MadeAlloc q sdps' = Applies m p (Err alloc_error) q × (sdps' ≡ sdps)
  MakesOf asked at p sdps made q sdps' = ⊥

  -- A peer performs ops, and applies or drops what they staged.
  abbrev pub Negotiates : Side → List Op → Bool → Peer I D S M N → List Kept → Outcome E → Option Table → Peer I D S M N → List Kept
      → Type 0
  Negotiates at ops apply old sdps Alloc None new sdps' = Stays old sdps new sdps'
  Negotiates at ops apply old sdps (Negotiated answers made) (Some table) new sdps' =
      (p : Peer I D S M N)
      × PerformsOps (lent old) ops answers p
      × MakesOf (apply && not (answers_lack answers)) at p sdps made new sdps'
      × Shows m table new
  Negotiates at ops apply old sdps outcome table new sdps' = ⊥

  -- A datagram is refused if it is of no kind or has not the form of it, and the peer is not called; else the peer is given it.
  abbrev pub HandlesRead : Result MultiplexKind NetError → Transmit → ℕ → PolledPeer I D S M N → Result (Unit {0}) RtcError
      → PolledPeer I D S M N → Type 0
  HandlesRead (Err why) transmit now p r q = (r ≡ Err (Net why)) × (q ≡ p)
  HandlesRead (Ok kind) transmit now p r q =
      (datagram : Receive) × ComesIn transmit kind datagram × HandlesInput m (given.Receive now datagram) p r q

  -- The peer takes a datagram that the other side sent, if readers of messages of ICE have this test.
  abbrev pub StepTakesDatagram : (List ℕ → Bool) → Option Transmit → ℕ → PolledPeer I D S M N → Outcome E → Option Table
      → PolledPeer I D S M N → Type 0
  StepTakesDatagram stun None now old Alloc None new = new ≡ old
  StepTakesDatagram stun None now old NoSuch (Some table) new = (new ≡ old) × Shows m table old.core
  StepTakesDatagram stun None now old outcome table new = ⊥
  StepTakesDatagram stun (Some transmit) now old outcome table new =
      StepCalls m (HandlesRead (kind_by stun transmit.contents) transmit now) old outcome table new

  -- One poll, and what is shown of its output: of a timeout its reason, and of a datagram its number and its length.
  abbrev pub PollsShown : Side → PolledPeer I D S M N → List SentPacket → Shown E → PolledPeer I D S M N → List SentPacket → Type 0
  PollsShown at p packets (Timeout moment reason) q packets' =
      PollsPeer m p (Ok (polled.Timeout moment)) q × (reason ≡ q.transport.last_reason) × (packets' ≡ packets)
  PollsShown at p packets (Packet number len) q packets' =
      (transmit : Transmit)
      × PollsPeer m p (Ok (polled.Transmit transmit)) q
      × (number ≡ length packets)
      × (len ≡ length transmit.contents)
      × (packets' ≡ packets ++ sent_packet at transmit ∷ [])
  PollsShown at p packets (Event event) q packets' = PollsPeer m p (Ok (polled.Event event)) q × (packets' ≡ packets)

  -- One poll: its output, or its error.
  abbrev pub PollsOnce : Side → PolledPeer I D S M N → List SentPacket → List (Shown E) → PollEnd → PolledPeer I D S M N → List SentPacket
      → Type 0
  PollsOnce at p packets (shown ∷ []) Ended q packets' = PollsShown at p packets shown q packets'
  PollsOnce at p packets [] (EndRefused error) q packets' = PollsPeer m p (Err error) q × (packets' ≡ packets)
  PollsOnce at p packets outputs end q packets' = ⊥

  -- Polls up to a timeout or an error, or until there is no room for one more.
  abbrev pub DrainsOn : Side → PolledPeer I D S M N → List SentPacket → List (Shown E) → PollEnd → PolledPeer I D S M N → List SentPacket
      → Type 0
  DrainsOn at p packets [] Ended q packets' = ⊥
  DrainsOn at p packets [] (EndRefused error) q packets' = PollsPeer m p (Err error) q × (packets' ≡ packets)
  DrainsOn at p packets [] NoRoom q packets' = (q ≡ p) × (packets' ≡ packets)
  DrainsOn at p packets (Timeout moment reason ∷ []) Ended q packets' = PollsShown at p packets (Timeout moment reason) q packets'
  DrainsOn at p packets (Timeout moment reason ∷ outputs) end q packets' = ⊥
  DrainsOn at p packets (Packet number len ∷ outputs) end q packets' =
      (between : PolledPeer I D S M N)
      × (kept : List SentPacket)
      × PollsShown at p packets (Packet number len) between kept
      × DrainsOn at between kept outputs end q packets'
  DrainsOn at p packets (Event event ∷ outputs) end q packets' =
      (between : PolledPeer I D S M N)
      × (kept : List SentPacket)
      × PollsShown at p packets (Event event) between kept
      × DrainsOn at between kept outputs end q packets'

  -- The same, with one poll at least.
  abbrev pub DrainsPeer : Side → PolledPeer I D S M N → List SentPacket → List (Shown E) → PollEnd → PolledPeer I D S M N → List SentPacket
      → Type 0
  DrainsPeer at p packets [] NoRoom q packets' = ⊥
  DrainsPeer at p packets outputs end q packets' = DrainsOn at p packets outputs end q packets'

  -- The reply to polls is what they gave. Without memory for the table and for one output there is no poll.
  abbrev pub StepPollsPeer : (List SentPacket → List (Shown E) → PollEnd → PolledPeer I D S M N → List SentPacket → Type 0)
      → PolledPeer I D S M N → List SentPacket → Outcome E → Option Table → PolledPeer I D S M N → List SentPacket → Type 0
  StepPollsPeer polls old packets Alloc None new packets' = (new ≡ old) × (packets' ≡ packets)
  StepPollsPeer polls old packets (Polled outputs end) (Some table) new packets' =
      polls packets outputs end new packets' × Shows m table new.core
  StepPollsPeer polls old packets outcome table new packets' = ⊥

  -- What the acting peer does, given the addresses of the other side and of its own, with the SDPs and the datagrams before and after:
  -- negotiation leaves its connection and the datagrams, and all else the SDPs.
  abbrev pub Acts : (List ℕ → Bool) → (other own : Addr) → Step → PolledPeer I D S M N → List Kept → List SentPacket → Outcome E
      → Option Table → PolledPeer I D S M N → List Kept → List SentPacket → Type 0
  Acts stun other own (Negotiate at ops apply) old sdps packets outcome table new sdps' packets' =
      Negotiates at ops apply old.core sdps outcome table new.core sdps' × LeavesConnection old packets new packets'
  Acts stun other own (AcceptOffer at offer) old sdps packets outcome table new sdps' packets' =
      StepAcceptsOffer m at (kept_remote_sdp true sdps at offer) old.core sdps outcome table new.core sdps'
      × LeavesConnection old packets new packets'
  Acts stun other own (AcceptAnswer at token answer) old sdps packets outcome table new sdps' packets' =
      StepAcceptsAnswer m token (held_token sdps at token) (kept_remote_sdp false sdps at answer) old.core sdps outcome table new.core sdps'
      × LeavesConnection old packets new packets'
  Acts stun other own (Time at now) old sdps packets outcome table new sdps' packets' =
      StepCalls m (HandlesInput m (given.Timeout now)) old outcome table new × (sdps' ≡ sdps) × (packets' ≡ packets)
  Acts stun other own (Datagram at packet now) old sdps packets outcome table new sdps' packets' =
      StepTakesDatagram stun (remote_packet packets at packet) now old outcome table new × (sdps' ≡ sdps) × (packets' ≡ packets)
  Acts stun other own (Poll at) old sdps packets outcome table new sdps' packets' =
      StepPollsPeer (PollsOnce at old) old packets outcome table new packets' × (sdps' ≡ sdps)
  Acts stun other own (Drain at) old sdps packets outcome table new sdps' packets' =
      StepPollsPeer (DrainsPeer at old) old packets outcome table new packets' × (sdps' ≡ sdps)
  Acts stun other own (Write at channel binary bytes) old sdps packets outcome table new sdps' packets' =
      StepWrites m (open_stream_under channel old) binary bytes old outcome table new × (sdps' ≡ sdps) × (packets' ≡ packets)
  Acts stun other own (CloseChannel at channel) old sdps packets outcome table new sdps' packets' =
      StepClosesChannel m (open_stream_under channel old) channel old outcome table new × (sdps' ≡ sdps) × (packets' ≡ packets)
  Acts stun other own (Close at) old sdps packets outcome table new sdps' packets' =
      StepCalls m (ClosesPeer m) old outcome table new × (sdps' ≡ sdps) × (packets' ≡ packets)
  Acts stun other own (Rollback at token) old sdps packets outcome table new sdps' packets' =
      StepRollsBack m token (held_token sdps at token) old.core sdps outcome table new.core sdps'
      × LeavesConnection old packets new packets'
  Acts stun other own (ForeignOffer at text) old sdps packets outcome table new sdps' packets' =
      StepAcceptsOffer m at (foreign text) old.core sdps outcome table new.core sdps'
      × LeavesConnection old packets new packets'
  Acts stun other own (ForeignAnswer at token text) old sdps packets outcome table new sdps' packets' =
      StepAcceptsAnswer m token (held_token sdps at token) (foreign text) old.core sdps outcome table new.core sdps'
      × LeavesConnection old packets new packets'
  Acts stun other own (Raw at bytes now) old sdps packets outcome table new sdps' packets' =
      StepCalls m (HandlesRead (kind_by stun bytes) (raw_datagram other own bytes) now) old outcome table new
      × (sdps' ≡ sdps)
      × (packets' ≡ packets)

  -- A step: what the acting peer does. The other peer and both addresses are unchanged.
  pub record Performs (stun : List ℕ → Bool) (old : PairState I D S M N) (step : Step) (outcome : Outcome E) (table : Option Table)
      (new : PairState I D S M N) : Type 0 where
    pub acts : Acts stun (addr_at (other_side (side_of step)) old) (addr_at (side_of step) old) step
        (rtc_at (side_of step) old) old.sdps old.packets outcome table (rtc_at (side_of step) new) new.sdps new.packets
    pub other : rtc_at (other_side (side_of step)) new ≡ rtc_at (other_side (side_of step)) old
    pub left_addr : new.left_addr ≡ old.left_addr
    pub right_addr : new.right_addr ≡ old.right_addr
    pub size : new.size ≡ old.size + step_size step

-- the SDPs that are behind those of before, in order
abbrev pub sdps_behind : List Kept → List Kept → List MadeSdp
sdps_behind sdps sdps' = map made_sdp (drop (length sdps) sdps')

-- An entry of a past is a step, its reply, and the SDP that it made.
pub record Enters {I D S M E X T W N : Type 0} (m : Meanings I D S M E X T W N) (stun : List ℕ → Bool) (old : PairState I D S M N)
    (entry : Entry E) (new : PairState I D S M N) : Type 0 where
  pub performs : Performs m stun old entry.step entry.outcome entry.table new
  pub made : entry.made ≡ sdps_behind old.sdps new.sdps
