-- What a peer that C keeps does with moments, datagrams, polls, messages of channels, and closes.
use Rattle.std.specs.Prelude.{◌≡◌, ℕ, Bool, List, Option, Some, None, Result, Ok, Err}
use Rattle.std.specs.declared.alloc.AllocError.{AllocError}
use Rattle.rtc_wire.specs.DatagramRecv.{kind_by}
use Rattle.rtc_wire.specs.declared.protocol.Protocol.TheVariants.{Udp}
use Rattle.rtc_wire.specs.declared.transmit.Transmit.{Transmit}
use Rattle.rtc_plain_ice.specs.Messages.{is_ice_message}
use Rattle.rtc_plain_media.specs.declared.plain_media_event.PlainMediaEvent.{PlainMediaEvent}
use Rattle.rtc_peer_core.specs.declared.rtc_error.RtcError.{RtcError}
use Rattle.rtc_peer_transport.specs.ChannelCalls.{ClosesDataChannel, WritesChannel, open_stream_under}
use Rattle.rtc_peer_transport.specs.Closing.{ClosesPeer}
use Rattle.rtc_peer_transport.specs.declared.input.Input.TheVariants.{Timeout}
use Rattle.rtc_peer_transport.specs.declared.output.Output.{Output}
use Rattle.rtc_peer_polling.specs.Inputs.{HandlesInput}
use Rattle.rtc_peer_polling.specs.Walk.{PollsPeer}
use Rattle.rtc_peer.specs.CachedPeer.{polled_of}
use Rattle.rtc.specs.PlainPeers.{memory_parts}
use Rattle.rtc.specs.Receives.{ReceivesDatagram}
use Rattle.rtc_c_handle.specs.Outputs.{kept_of_output, row_of_output}
use Rattle.rtc_c_handle.specs.HeldPeer.{HeldRtc}
use Rattle.rtc_c_handle.specs.Settings.{addr_of}
use Rattle.rtc_c_handle.specs.Statuses.{status_of_call, status_of_error, status_of_memory, status_of_write}
use Rattle.rtc_c_handle.specs.declared.address.Address.{Address}
use Rattle.rtc_c_handle.specs.declared.held.Held.{Held}
use Rattle.rtc_c_handle.specs.declared.output_row.OutputRow.{OutputRow}
use Rattle.rtc_c_handle.specs.declared.status.Status.{Status}
use Rattle.rtc_c_handle.specs.declared.status.Status.TheVariants.{Done, NoChannel}

-- The peer is called, and its status is that of what it returned; nothing else changes.
pub record CallsHeld (calls : HeldRtc → Result (Unit {0}) RtcError → HeldRtc → Type 0) (h : Held) (status : Status) (g : Held)
    : Type 0 where
  pub returned : Result (Unit {0}) RtcError
  pub called : calls (polled_of h.rtc) returned (polled_of g.rtc)
  pub is_returned : status ≡ status_of_call returned
  pub others : g ≡ record h { rtc = g.rtc }

-- The peer is given a moment.
abbrev pub HearsMoment : ℕ → Held → Status → Held → Type 0
HearsMoment now h status g = CallsHeld (HandlesInput memory_parts (Timeout now)) h status g

-- a datagram that was sent by UDP
abbrev pub udp_datagram : Address → Address → List ℕ → Transmit
udp_datagram source destination bytes = record {
  proto = Udp;
  source = addr_of source;
  destination = addr_of destination;
  contents = bytes;
}

-- The peer is given a datagram.
abbrev pub HearsDatagram : ℕ → Address → Address → List ℕ → Held → Status → Held → Type 0
HearsDatagram now source destination bytes h status g =
    CallsHeld (ReceivesDatagram memory_parts (kind_by is_ice_message bytes) (udp_datagram source destination bytes) now) h status g

-- The peer begins to close.
abbrev pub BeginsClose : Held → Status → Held → Type 0
BeginsClose h status g = CallsHeld (ClosesPeer memory_parts) h status g

-- A channel is closed.
pub record ClosesHeldChannel (id : ℕ) (h : Held) (status : Status) (g : Held) : Type 0 where
  pub returned : Result (Unit {0}) AllocError
  pub called : ClosesDataChannel memory_parts id (polled_of h.rtc) returned (polled_of g.rtc)
  pub is_returned : status ≡ status_of_memory returned
  pub others : g ≡ record h { rtc = g.rtc }

-- A poll returns an output, whose bytes are kept, with its row; or it fails, and the bytes and the row are those before.
pub data PollsRow (h : Held) (row : OutputRow) (status : Status) (g : Held) (after : OutputRow) : Type 0 where
  IsPolled : (output : Output PlainMediaEvent) → PollsPeer memory_parts (polled_of h.rtc) (Ok output) (polled_of g.rtc) → status ≡ Done
      → g ≡ record h { rtc = g.rtc; output = kept_of_output output } → after ≡ row_of_output output → PollsRow h row status g after
  IsNotPolled : (error : RtcError) → PollsPeer memory_parts (polled_of h.rtc) (Err error) (polled_of g.rtc) → status ≡ status_of_error error
      → g ≡ record h { rtc = g.rtc } → after ≡ row → PollsRow h row status g after

-- what a write to a channel returned, if that is open
abbrev pub WritesOpen : Option ℕ → (binary : Bool) → List ℕ → HeldRtc → Option (Result Bool RtcError) → HeldRtc → Type 0
WritesOpen None binary bytes p None q = q ≡ p
WritesOpen None binary bytes p (Some returned) q = ⊥
WritesOpen (Some stream) binary bytes p None q = ⊥
WritesOpen (Some stream) binary bytes p (Some returned) q = WritesChannel memory_parts stream binary bytes p returned q

abbrev pub status_of_written : Option (Result Bool RtcError) → Status
status_of_written None = NoChannel
status_of_written (Some returned) = status_of_write returned

-- A message is written to a channel, if that is open.
pub record WritesHeld (id : ℕ) (binary : Bool) (bytes : List ℕ) (h : Held) (status : Status) (g : Held) : Type 0 where
  pub returned : Option (Result Bool RtcError)
  pub called : WritesOpen (open_stream_under id (polled_of h.rtc)) binary bytes (polled_of h.rtc) returned (polled_of g.rtc)
  pub is_returned : status ≡ status_of_written returned
  pub others : g ≡ record h { rtc = g.rtc }
