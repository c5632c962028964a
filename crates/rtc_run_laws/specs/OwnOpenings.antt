-- Streams that are opened from here, and the sides that they are of (RFC 8832, section 6).
use Rattle.std.specs.Prelude.{ℕ, ◌≡◌, ◌%◌, ◌⊎◌, Bool, List, [], ◌∷◌, Some, None}
use Rattle.rtc_channels.specs.Ids.{parity_of}
use Rattle.rtc_sctp_entries.specs.declared.stream_entry_state.StreamEntryState.{StreamEntryState}
use Rattle.rtc_sctp_entries.specs.declared.stream_entry_state.StreamEntryState.TheVariants.{AwaitOpen, AwaitDcepAck}
use Rattle.rtc_sctp_entries.specs.declared.stream_entry.StreamEntry.{StreamEntry}
use Rattle.rtc_channels.specs.Channels.{Channel}

-- a stream is of a side: the DTLS client gives its channels even numbers, and the server odd ones
abbrev pub IsOfSide : (client : Bool) → (stream : ℕ) → Type 0
IsOfSide client stream = stream % 2 ≡ parity_of client

-- an opening from here: it waits to be begun, or for its acknowledgement
abbrev pub IsOpeningState : StreamEntryState → Type 0
IsOpeningState state = (state ≡ AwaitOpen) ⊎ (state ≡ AwaitDcepAck)

-- a stream has an entry that is so
abbrev pub HasEntryOf : (StreamEntry → Type 0) → (stream : ℕ) → List StreamEntry → Type 0
HasEntryOf is_so stream [] = ⊥
HasEntryOf is_so stream (entry ∷ entries) = ((entry.id ≡ stream) × is_so entry) ⊎ HasEntryOf is_so stream entries

-- a stream is opened from here
abbrev pub HasOpening : (stream : ℕ) → List StreamEntry → Type 0
HasOpening stream entries = HasEntryOf (λ entry. IsOpeningState entry.state) stream entries

-- no channel was negotiated out-of-band for the stream
abbrev pub IsInBandChannel : (stream : ℕ) → List Channel → Type 0
IsInBandChannel stream [] = Unit {0}
IsInBandChannel stream (row ∷ rows) = (row.stream ≡ Some stream → row.negotiated ≡ None) × IsInBandChannel stream rows
