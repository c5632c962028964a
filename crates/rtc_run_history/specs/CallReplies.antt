-- The replies to steps that make one call: what the call returns, and the table of the peer afterwards.
use Rattle.std.specs.Prelude.{◌≡◌, ℕ, Bool, List, Option, Some, None, Result, Ok, Err, alloc_error}
use Rattle.rtc_peer_core.specs.declared.peer.Peer.{Peer}
use Rattle.rtc_peer_core.specs.declared.rtc_error.RtcError.{RtcError}
use Rattle.rtc_peer_core.specs.declared.rtc_error.RtcError.TheVariants.{Alloc as PeerAlloc}
use Rattle.rtc_peer_core.specs.ChannelRows.{channel_rows}
use Rattle.rtc_peer_core.specs.Meanings.{Meanings}
use Rattle.rtc_peer_transport.specs.declared.polled_peer.PolledPeer.{PolledPeer}
use Rattle.rtc_peer_transport.specs.ChannelCalls.{ClosesDataChannel, WritesChannel}
use Rattle.rtc_run_history.specs.declared.outcome.Outcome.{Outcome}
use Rattle.rtc_run_history.specs.declared.outcome.Outcome.TheVariants.{Done, Wrote, Refused, NoSuch, Alloc}
use Rattle.rtc_run_history.specs.declared.table.Table.{Table}

module _ {I D S M E X T W N : Type 0} (m : Meanings I D S M E X T W N) where
  -- a table shows the lines and the channels of a peer
  pub record Shows (table : Table) (peer : Peer I D S M N) : Type 0 where
    pub lines : table.lines ≡ peer.lines
    pub channels : table.channels ≡ channel_rows m.association peer.sctp peer.channels

  -- An input or a close has a reply: `Done`, or why it was refused. Without memory for the table there is no call.
  abbrev pub StepCalls : (PolledPeer I D S M N → Result (Unit {0}) RtcError → PolledPeer I D S M N → Type 0) → PolledPeer I D S M N
      → Outcome E → Option Table → PolledPeer I D S M N → Type 0
  StepCalls call old Alloc None new = new ≡ old
  StepCalls call old Done (Some table) new = call old (Ok tt) new × Shows table new.core
  StepCalls call old (Refused error) (Some table) new = call old (Err error) new × Shows table new.core
  StepCalls call old outcome table new = ⊥

  -- A step that names a channel that is not open does nothing.
  abbrev pub FindsNone : PolledPeer I D S M N → Outcome E → Option Table → PolledPeer I D S M N → Type 0
  FindsNone old Alloc None new = new ≡ old
  FindsNone old NoSuch (Some table) new = (new ≡ old) × Shows table old.core
  FindsNone old outcome table new = ⊥

  -- A write to an open stream has a reply: whether the message was taken, or why it was refused.
  abbrev pub StepWritesOpen : (stream : ℕ) → (binary : Bool) → List ℕ → PolledPeer I D S M N → Outcome E → Option Table
      → PolledPeer I D S M N → Type 0
  StepWritesOpen stream binary bytes old Alloc None new = new ≡ old
  StepWritesOpen stream binary bytes old (Wrote taken) (Some table) new =
      WritesChannel m stream binary bytes old (Ok taken) new × Shows table new.core
  StepWritesOpen stream binary bytes old (Refused error) (Some table) new =
      WritesChannel m stream binary bytes old (Err error) new × Shows table new.core
  StepWritesOpen stream binary bytes old outcome table new = ⊥

  -- A message is written to the stream of a channel that is open.
  abbrev pub StepWrites : Option ℕ → (binary : Bool) → List ℕ → PolledPeer I D S M N → Outcome E → Option Table → PolledPeer I D S M N
      → Type 0
  StepWrites None binary bytes old outcome table new = FindsNone old outcome table new
  StepWrites (Some stream) binary bytes old outcome table new = StepWritesOpen stream binary bytes old outcome table new

  -- a channel is closed, unless memory runs out
  abbrev pub ClosesOpenChannel : (id : ℕ) → PolledPeer I D S M N → Result (Unit {0}) RtcError → PolledPeer I D S M N → Type 0
  ClosesOpenChannel id p (Ok done) q = ClosesDataChannel m id p (Ok tt) q
  ClosesOpenChannel id p (Err PeerAlloc) q = ClosesDataChannel m id p (Err alloc_error) q
  ClosesOpenChannel id p (Err error) q = ⊥

  -- A channel that is open is closed.
  abbrev pub StepClosesChannel : Option ℕ → (id : ℕ) → PolledPeer I D S M N → Outcome E → Option Table → PolledPeer I D S M N → Type 0
  StepClosesChannel None id old outcome table new = FindsNone old outcome table new
  StepClosesChannel (Some stream) id old outcome table new = StepCalls (ClosesOpenChannel id) old outcome table new
