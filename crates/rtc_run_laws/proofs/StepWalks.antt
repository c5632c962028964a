-- A relation between peers that each call keeps holds over each step that makes calls beside those of negotiation.
use Rattle.std.proofs.Common.{◌≡◌, ℕ, Bool, List, [], ◌∷◌, Option, Some, None, Result, Ok, Err, alloc_error}
use Rattle.std.specs.declared.alloc.AllocError.{AllocError}
use Rattle.rtc_wire.specs.DatagramRecv.{kind_by}
use Rattle.rtc_wire.specs.declared.receive.Receive.{Receive}
use Rattle.rtc_wire.specs.declared.multiplex_kind.MultiplexKind.{MultiplexKind}
use Rattle.rtc_wire.specs.declared.net_error.NetError.{NetError}
use Rattle.rtc_wire.specs.declared.transmit.Transmit.{Transmit}
use Rattle.rtc_peer_core.specs.declared.rtc_error.RtcError.{RtcError}
use Rattle.rtc_peer_core.specs.declared.rtc_error.RtcError.TheVariants.{Alloc as PeerAlloc}
use Rattle.rtc_peer_core.specs.Meanings.{Meanings}
use Rattle.rtc_peer_transport.specs.declared.input.Input.TheVariants as given
use Rattle.rtc_peer_transport.specs.declared.output.Output.{Output}
use Rattle.rtc_peer_transport.specs.declared.output.Output.TheVariants as polled
use Rattle.rtc_peer_transport.specs.declared.polled_peer.PolledPeer.{PolledPeer}
use Rattle.rtc_peer_polling.specs.Inputs.{HandlesInput}
use Rattle.rtc_peer_polling.specs.Walk.{PollsPeer}
use Rattle.rtc_run_history.specs.declared.outcome.Outcome.{Outcome}
use Rattle.rtc_run_history.specs.declared.outcome.Outcome.TheVariants.{Done, Wrote, Polled, Refused, NoSuch, Alloc}
use Rattle.rtc_run_history.specs.declared.poll_end.PollEnd.{PollEnd}
use Rattle.rtc_run_history.specs.declared.poll_end.PollEnd.TheVariants.{Ended, Refused as EndRefused, NoRoom}
use Rattle.rtc_run_history.specs.declared.sent_packet.SentPacket.{SentPacket}
use Rattle.rtc_run_history.specs.declared.shown.Shown.{Shown}
use Rattle.rtc_run_history.specs.declared.shown.Shown.TheVariants.{Timeout, Packet, Event}
use Rattle.rtc_run_history.specs.declared.side.Side.{Side}
use Rattle.rtc_run_history.specs.declared.table.Table.{Table}
use Rattle.rtc_run_history.specs.CallReplies.{ClosesOpenChannel, FindsNone, StepCalls, StepClosesChannel, StepWrites, StepWritesOpen}
use Rattle.rtc_run_history.specs.Performs.{DrainsOn, DrainsPeer, HandlesRead, PollsOnce, PollsShown, StepPollsPeer, StepTakesDatagram}
use Rattle.rtc_peer_transport.specs.declared.input.Input.{Input}
use Rattle.rtc_peer_transport.specs.ChannelCalls.{ClosesDataChannel, WritesChannel}

-- what calls beside polls keep, and of inputs those that are so
pub record CallsBeside {I D S M E X T W N : Type 0} (m : Meanings I D S M E X T W N) (is_so : Input → Type 0)
    (keeps : PolledPeer I D S M N → PolledPeer I D S M N → Type 0) : Type 0 where
  pub none : (p q : PolledPeer I D S M N) → q ≡ p → keeps p q
  pub inputs : (input : Input) → is_so input → (p : PolledPeer I D S M N) (r : Result (Unit {0}) RtcError) (q : PolledPeer I D S M N)
      → HandlesInput m input p r q → keeps p q
  pub writes : (stream : ℕ) (binary : Bool) (bytes : List ℕ) (p : PolledPeer I D S M N) (r : Result Bool RtcError) (q : PolledPeer I D S M N)
      → WritesChannel m stream binary bytes p r q → keeps p q
  pub shuts : (id : ℕ) (p : PolledPeer I D S M N) (r : Result (Unit {0}) AllocError) (q : PolledPeer I D S M N) → ClosesDataChannel m id p r q
      → keeps p q

-- what each call keeps
pub record CallsKeep {I D S M E X T W N : Type 0} (m : Meanings I D S M E X T W N) (is_so : Input → Type 0)
    (keeps : PolledPeer I D S M N → PolledPeer I D S M N → Type 0) : Type 0 where
  pub beside : CallsBeside m is_so keeps
  pub on : (p b q : PolledPeer I D S M N) → keeps p b → keeps b q → keeps p q
  pub polls : (p : PolledPeer I D S M N) (answer : Result (Output E) RtcError) (q : PolledPeer I D S M N) → PollsPeer m p answer q → keeps p q

abbrev pub AnyInput : Input → Type 0
AnyInput input = Unit {0}

module _ {I D S M E X T W N : Type 0} {is_so : Input → Type 0} (m : Meanings I D S M E X T W N)
    (keeps : PolledPeer I D S M N → PolledPeer I D S M N → Type 0) (k : CallsBeside m is_so keeps) where
  -- inputs and closes
  pub calls_keep : (call : PolledPeer I D S M N → Result (Unit {0}) RtcError → PolledPeer I D S M N → Type 0)
      → ((p : PolledPeer I D S M N) (r : Result (Unit {0}) RtcError) (q : PolledPeer I D S M N) → call p r q → keeps p q)
      → (old : PolledPeer I D S M N) (outcome : Outcome E) (table : Option Table) (new : PolledPeer I D S M N)
      → StepCalls m call old outcome table new → keeps old new
  calls_keep call goes old Alloc None new h = k.none old new h
  calls_keep call goes old Done (Some table) new h = goes old (Ok tt) new h.0
  calls_keep call goes old (Refused error) (Some table) new h = goes old (Err error) new h.0
  calls_keep call goes old outcome table new h = absurd h

  pub read_keep : (kind : Result MultiplexKind NetError) (transmit : Transmit) (now : ℕ)
      → ((datagram : Receive) → is_so (given.Receive now datagram)) → (p : PolledPeer I D S M N) (r : Result (Unit {0}) RtcError)
      (q : PolledPeer I D S M N) → HandlesRead m kind transmit now p r q → keeps p q
  read_keep (Err why) transmit now is p r q h = k.none p q h.1
  read_keep (Ok kind) transmit now is p r q h = k.inputs (given.Receive now h.0) (is h.0) p r q h.2

  pub datagram_keep : (stun : List ℕ → Bool) (found : Option Transmit) (now : ℕ) → ((datagram : Receive) → is_so (given.Receive now datagram))
      → (old : PolledPeer I D S M N) (outcome : Outcome E) (table : Option Table) (new : PolledPeer I D S M N)
      → StepTakesDatagram m stun found now old outcome table new → keeps old new
  datagram_keep stun None now is old Alloc None new h = k.none old new h
  datagram_keep stun None now is old NoSuch (Some table) new h = k.none old new h.0
  datagram_keep stun None now is old outcome table new h = absurd h
  datagram_keep stun (Some transmit) now is old outcome table new h =
      calls_keep (HandlesRead m (kind_by stun transmit.contents) transmit now)
      (λ p r q x. read_keep (kind_by stun transmit.contents) transmit now is p r q x) old outcome table new h

  -- writes, and closes of channels
  none_keep : (old : PolledPeer I D S M N) (outcome : Outcome E) (table : Option Table) (new : PolledPeer I D S M N)
      → FindsNone m old outcome table new → keeps old new
  none_keep old Alloc None new h = k.none old new h
  none_keep old NoSuch (Some table) new h = k.none old new h.0
  none_keep old outcome table new h = absurd h

  open_write_keep : (stream : ℕ) (binary : Bool) (bytes : List ℕ) (old : PolledPeer I D S M N) (outcome : Outcome E) (table : Option Table)
      (new : PolledPeer I D S M N) → StepWritesOpen m stream binary bytes old outcome table new → keeps old new
  open_write_keep stream binary bytes old Alloc None new h = k.none old new h
  open_write_keep stream binary bytes old (Wrote taken) (Some table) new h =
      k.writes stream binary bytes old (Ok taken) new h.0
  open_write_keep stream binary bytes old (Refused error) (Some table) new h =
      k.writes stream binary bytes old (Err error) new h.0
  open_write_keep stream binary bytes old outcome table new h = absurd h

  pub write_keep : (stream : Option ℕ) (binary : Bool) (bytes : List ℕ) (old : PolledPeer I D S M N) (outcome : Outcome E) (table : Option Table)
      (new : PolledPeer I D S M N) → StepWrites m stream binary bytes old outcome table new → keeps old new
  write_keep None binary bytes old outcome table new h = none_keep old outcome table new h
  write_keep (Some stream) binary bytes old outcome table new h = open_write_keep stream binary bytes old outcome table new h

  shut_keep : (id : ℕ) (p : PolledPeer I D S M N) (r : Result (Unit {0}) RtcError) (q : PolledPeer I D S M N) → ClosesOpenChannel m id p r q
      → keeps p q
  shut_keep id p (Ok done) q h = k.shuts id p (Ok tt) q h
  shut_keep id p (Err PeerAlloc) q h = k.shuts id p (Err alloc_error) q h
  shut_keep id p (Err error) q h = absurd h

  pub close_keep : (stream : Option ℕ) (id : ℕ) (old : PolledPeer I D S M N) (outcome : Outcome E) (table : Option Table) (new : PolledPeer I D S M N)
      → StepClosesChannel m stream id old outcome table new → keeps old new
  close_keep None id old outcome table new h = none_keep old outcome table new h
  close_keep (Some stream) id old outcome table new h =
      calls_keep (ClosesOpenChannel m id) (λ p r q x. shut_keep id p r q x) old outcome table new h

module _ {I D S M E X T W N : Type 0} {is_so : Input → Type 0} (m : Meanings I D S M E X T W N)
    (keeps : PolledPeer I D S M N → PolledPeer I D S M N → Type 0) (k : CallsKeep m is_so keeps) where
  -- polls and drains
  shown_keep : (at : Side) (packets : List SentPacket) (shown : Shown E) (packets' : List SentPacket) (p q : PolledPeer I D S M N)
      → PollsShown m at p packets shown q packets' → keeps p q
  shown_keep at packets (Timeout moment reason) packets' p q h = k.polls p (Ok (polled.Timeout moment)) q h.0
  shown_keep at packets (Packet number len) packets' p q h = k.polls p (Ok (polled.Transmit h.0)) q h.1
  shown_keep at packets (Event event) packets' p q h = k.polls p (Ok (polled.Event event)) q h.0

  once_keep : (at : Side) (p : PolledPeer I D S M N) (packets : List SentPacket) (outputs : List (Shown E)) (end : PollEnd) (q : PolledPeer I D S M N)
      (packets' : List SentPacket) → PollsOnce m at p packets outputs end q packets' → keeps p q
  once_keep at p packets (shown ∷ []) Ended q packets' h = shown_keep at packets shown packets' p q h
  once_keep at p packets [] (EndRefused error) q packets' h = k.polls p (Err error) q h.0
  once_keep at p packets outputs end q packets' h = absurd h

  pub drains_on_keep : (at : Side) (p : PolledPeer I D S M N) (packets : List SentPacket) (outputs : List (Shown E)) (end : PollEnd)
      (q : PolledPeer I D S M N) (packets' : List SentPacket) → DrainsOn m at p packets outputs end q packets' → keeps p q
  drains_on_keep at p packets [] Ended q packets' h = absurd h
  drains_on_keep at p packets [] (EndRefused error) q packets' h = k.polls p (Err error) q h.0
  drains_on_keep at p packets [] NoRoom q packets' h = k.beside.none p q h.0
  drains_on_keep at p packets (Timeout moment reason ∷ []) Ended q packets' h = shown_keep at packets (Timeout moment reason) packets' p q h
  drains_on_keep at p packets (Timeout moment reason ∷ outputs) end q packets' h = absurd h
  drains_on_keep at p packets (Packet number len ∷ outputs) end q packets' h =
      k.on p h.0 q (shown_keep at packets (Packet number len) h.1 p h.0 h.2) (drains_on_keep at h.0 h.1 outputs end q packets' h.3)
  drains_on_keep at p packets (Event event ∷ outputs) end q packets' h =
      k.on p h.0 q (shown_keep at packets (Event event) h.1 p h.0 h.2) (drains_on_keep at h.0 h.1 outputs end q packets' h.3)

  drains_keep : (at : Side) (p : PolledPeer I D S M N) (packets : List SentPacket) (outputs : List (Shown E)) (end : PollEnd)
      (q : PolledPeer I D S M N) (packets' : List SentPacket) → DrainsPeer m at p packets outputs end q packets' → keeps p q
  drains_keep at p packets [] NoRoom q packets' h = absurd h
  drains_keep at p packets [] Ended q packets' h = drains_on_keep at p packets [] Ended q packets' h
  drains_keep at p packets [] (EndRefused error) q packets' h = drains_on_keep at p packets [] (EndRefused error) q packets' h
  drains_keep at p packets (shown ∷ outputs) end q packets' h = drains_on_keep at p packets (shown ∷ outputs) end q packets' h

  polls_keep : (polls : List SentPacket → List (Shown E) → PollEnd → PolledPeer I D S M N → List SentPacket → Type 0) (old : PolledPeer I D S M N)
      → ((packets : List SentPacket) (outputs : List (Shown E)) (end : PollEnd) (q : PolledPeer I D S M N) (packets' : List SentPacket)
      → polls packets outputs end q packets' → keeps old q)
      → (packets : List SentPacket) (outcome : Outcome E) (table : Option Table) (new : PolledPeer I D S M N) (packets' : List SentPacket)
      → StepPollsPeer m polls old packets outcome table new packets' → keeps old new
  polls_keep polls old goes packets Alloc None new packets' h = k.beside.none old new h.0
  polls_keep polls old goes packets (Polled outputs end) (Some table) new packets' h = goes packets outputs end new packets' h.0
  polls_keep polls old goes packets outcome table new packets' h = absurd h

  pub poll_keep : (at : Side) (old : PolledPeer I D S M N) (packets : List SentPacket) (outcome : Outcome E) (table : Option Table)
      (new : PolledPeer I D S M N) (packets' : List SentPacket) → StepPollsPeer m (PollsOnce m at old) old packets outcome table new packets'
      → keeps old new
  poll_keep at old packets outcome table new packets' h =
      polls_keep (PollsOnce m at old) old (λ from outputs end q to x. once_keep at old from outputs end q to x) packets outcome table new packets' h

  pub drain_keep : (at : Side) (old : PolledPeer I D S M N) (packets : List SentPacket) (outcome : Outcome E) (table : Option Table)
      (new : PolledPeer I D S M N) (packets' : List SentPacket) → StepPollsPeer m (DrainsPeer m at old) old packets outcome table new packets'
      → keeps old new
  drain_keep at old packets outcome table new packets' h =
      polls_keep (DrainsPeer m at old) old (λ from outputs end q to x. drains_keep at old from outputs end q to x) packets outcome table new packets' h
