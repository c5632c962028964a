-- What callers read of channels, and what they do with one that is open.
use Rattle.std.specs.Prelude.{ℕ, ◌≡◌, ◌-◌, if◌then◌else◌, nat_lt, Bool, true, false, List, length, map}
use Rattle.std.specs.Prelude.{Option, Some, None, option_and_then, Result, Ok, Err}
use Rattle.std.specs.declared.alloc.AllocError.{AllocError}
use Rattle.rtc_wire.specs.declared.channel_config.ChannelConfig.{ChannelConfig}
use Rattle.rtc_sctp_entries.specs.Entries.{entry_place, stream_config}
use Rattle.rtc_sctp_values.specs.declared.sctp_error.SctpError.{SctpError}
use Rattle.rtc_sctp.specs.Streams.{SctpStreams}
use Rattle.rtc_sctp.specs.Calls.{WritesStream, buffered_sum, is_open_stream}
use Rattle.rtc_sctp.specs.StreamCalls.{SetsThreshold}
use Rattle.rtc_channels.specs.Channels.{Channels, numbered_stream, stream_of_channel}
use Rattle.rtc_channels.specs.Openings.{ClosesChannel}
use Rattle.rtc_peer_core.specs.declared.phase.Phase.{Phase}
use Rattle.rtc_peer_core.specs.declared.phase.Phase.TheVariants.{Alive, Closing, Closed}
use Rattle.rtc_peer_core.specs.declared.rtc_error.RtcError.{RtcError}
use Rattle.rtc_peer_core.specs.Meanings.{Meanings}
use Rattle.rtc_peer_core.specs.RtcErrors.{error_of_sctp}
use Rattle.rtc_peer_transport.specs.declared.polled_peer.PolledPeer.{PolledPeer}
use Rattle.rtc_peer_transport.specs.Connection.{with_sctp}

-- whether a peer is neither closing nor closed
abbrev pub is_phase_open : Phase → Bool
is_phase_open Alive = true
is_phase_open Closing = false
is_phase_open Closed = false

-- the stream that a channel was given
abbrev pub stream_under : ℕ → Channels → Option ℕ
stream_under id held = stream_of_channel id (map numbered_stream held.rows)

-- a stream, if it is open
abbrev pub if_open : {S : Type 0} → SctpStreams S → ℕ → Option ℕ
if_open p stream = if is_open_stream stream p then Some stream else None

-- the stream of an open channel: there is none if the peer is closing or closed, if the channel has no stream, and if that is not open
abbrev pub open_stream_under : {I D S M N : Type 0} → ℕ → PolledPeer I D S M N → Option ℕ
open_stream_under id p =
    if is_phase_open p.core.phase then option_and_then (if_open p.core.sctp) (stream_under id p.core.channels) else None

-- what a channel was opened with: the config of its stream
abbrev pub config_under : Option ℕ → {S : Type 0} → SctpStreams S → Option ChannelConfig
config_under None p = None
config_under (Some stream) p = stream_config stream p.entries

-- a write that is Ok took the message
abbrev pub write_taken : Result ℕ SctpError → Result Bool RtcError
write_taken (Ok count) = Ok true
write_taken (Err error) = Err (error_of_sctp error)

-- a threshold is asked for at a stream that is open
abbrev pub SetsThresholdIf : (S : Type 0) → (is_open : Bool) → (stream n : ℕ) → SctpStreams S → SctpStreams S → Type 0
SetsThresholdIf S true stream n p q = SetsThreshold S n (entry_place stream p.entries) p q
SetsThresholdIf S false stream n p q = q ≡ p

abbrev pub SetsChannelThreshold : {I D S M N : Type 0} → (stream n : ℕ) → PolledPeer I D S M N → PolledPeer I D S M N → Type 0
SetsChannelThreshold {I} {D} {S} {M} {N} stream n p q =
    SetsThresholdIf S (is_open_stream stream p.core.sctp) stream n p.core.sctp q.core.sctp × (q ≡ with_sctp q.core.sctp p)

module _ {I D S M E X T W N : Type 0} (m : Meanings I D S M E X T W N) where
  -- how many bytes may be written yet, over all channels
  abbrev pub bytes_available : PolledPeer I D S M N → ℕ
  bytes_available p =
      if m.association.started p.core.sctp.association
      then p.core.sctp.max_buffered - buffered_sum m.association p.core.sctp.association p.core.sctp.entries
      else 0

  -- the bytes written to a stream that are not acknowledged
  abbrev pub bytes_buffered : (stream : ℕ) → PolledPeer I D S M N → ℕ
  bytes_buffered stream p =
      if m.association.started p.core.sctp.association then m.association.buffered p.core.sctp.association stream else 0

  abbrev pub WritesIf : (full : Bool) → (stream : ℕ) → (binary : Bool) → List ℕ → PolledPeer I D S M N → Result Bool RtcError
      → PolledPeer I D S M N → Type 0
  WritesIf true stream binary bytes p r q = (r ≡ Ok false) × (q ≡ p)
  WritesIf false stream binary bytes p r q =
      (answer : Result ℕ SctpError)
      × WritesStream m.association stream binary bytes p.core.sctp answer q.core.sctp
      × (r ≡ write_taken answer)
      × (q ≡ with_sctp q.core.sctp p)

  -- A message is written to the stream of a channel. It is not taken exactly if it is longer than what is available.
  abbrev pub WritesChannel : (stream : ℕ) → (binary : Bool) → List ℕ → PolledPeer I D S M N → Result Bool RtcError → PolledPeer I D S M N
      → Type 0
  WritesChannel stream binary bytes p r q = WritesIf (nat_lt (bytes_available p) (length bytes)) stream binary bytes p r q

  -- A channel is closed: its stream is, if it has one. The channel keeps its row until a poll reports that it is closed.
  abbrev pub ClosesDataChannel : (id : ℕ) → PolledPeer I D S M N → Result (Unit {0}) AllocError → PolledPeer I D S M N → Type 0
  ClosesDataChannel id p r q =
      ClosesChannel m.association (stream_under id p.core.channels) p.core.sctp r q.core.sctp × (q ≡ with_sctp q.core.sctp p)
