-- The streams that channels are given (RFC 8832, section 6).
use Rattle.std.specs.Prelude.{
  ◌≡◌,
  ◌+◌,
  ◌-◌,
  ◌^◌,
  ◌==◌,
  ◌||◌,
  not,
  ℕ,
  Bool,
  false,
  List,
  [],
  ◌∷◌,
  ◌++◌,
  take,
  slice_get,
  if◌then◌else◌,
  Option,
  Some,
  None,
  is_some,
  Result,
  Ok,
  Err,
}
use Rattle.std.specs.List.{filter, list_any}
use Rattle.std.specs.declared.alloc.AllocError.{AllocError}
use Rattle.rtc_channels.specs.Ids.{all_ids}
use Rattle.rtc_channels.specs.Channels.{Channel, Channels, has_channel_id, is_of_stream, channel_of_stream}
use Rattle.rtc_channels.specs.Holds.{is_stream_held}

-- whether a channel has a stream
abbrev pub is_given : ℕ → List Channel → Bool
is_given stream channels = list_any (λ channel. is_of_stream stream channel.stream) channels

-- whether a stream cannot be given: a channel has it, or it is held
abbrev pub is_taken : ℕ → Channels → Bool
is_taken stream held = is_given stream held.rows || is_stream_held stream held.holds

-- the streams of a parity that can be given, in ascending order
abbrev pub free_streams : ℕ → Channels → List ℕ
free_streams parity held = filter (λ stream. not (is_taken stream held)) (all_ids parity)

-- the stream for a channel, if there is one: its own if it was negotiated out-of-band, if that is not taken; else the least of the parity
-- that is not
abbrev pub stream_for : Option ℕ → ℕ → Channels → Option ℕ
stream_for (Some stream) parity held = if is_taken stream held then None else Some stream
stream_for None parity held = slice_get (free_streams parity held) 0

-- the channels once that of a number, if there is one, has a stream
abbrev pub rows_given : ℕ → ℕ → List Channel → List Channel
rows_given id stream [] = []
rows_given id stream (channel ∷ rest) =
    if has_channel_id id channel then record channel { stream = Some stream } ∷ rest else channel ∷ rows_given id stream rest

abbrev pub stream_given : ℕ → Option ℕ → Channels → Channels
stream_given id None held = held
stream_given id (Some stream) held = record held { rows = rows_given id stream held.rows }

-- the stream that a channel is to be given, if there is one: none if it has a stream
abbrev pub stream_sought : Option ℕ → Option ℕ → ℕ → Channels → Option ℕ
stream_sought (Some own) negotiated parity held = None
stream_sought None negotiated parity held = stream_for negotiated parity held

abbrev pub sought_by : ℕ → Channels → Channel → Option ℕ
sought_by parity held channel = stream_sought channel.stream channel.negotiated parity held

-- each of these channels in turn is given a stream, if there is one for it
abbrev pub all_allocated : ℕ → List Channel → Channels → Channels
all_allocated parity [] held = held
all_allocated parity (channel ∷ rest) held = all_allocated parity rest (stream_given channel.id (sought_by parity held channel) held)

-- The channels are given streams in order of their numbers. If memory runs out, the first of them were.
abbrev pub Allocates : ℕ → Channels → Result (Unit {0}) AllocError → Channels → Type 0
Allocates parity held (Ok done) held' = held' ≡ all_allocated parity held.rows held
Allocates parity held (Err error) held' = (n : ℕ) × (held' ≡ all_allocated parity (take n held.rows) held)

-- whether a channel can be given a stream
abbrev pub can_be_given : ℕ → Channels → Channel → Bool
can_be_given parity held channel = is_some (sought_by parity held channel)

abbrev pub can_allocate : ℕ → Channels → Bool
can_allocate parity held = list_any (can_be_given parity held) held.rows

-- whether a channel waits for a stream
abbrev pub is_waiting : List Channel → Bool
is_waiting channels = list_any (λ channel. not (is_some channel.stream)) channels

-- the stream for the channel at a place, if there are both
abbrev pub sought_at : Option Channel → ℕ → Channels → Option ℕ
sought_at None parity held = None
sought_at (Some channel) parity held = sought_by parity held channel

-- the channel at a place, if there is one, has a stream
abbrev pub given_to : Option Channel → ℕ → Channels → Channels
given_to None stream held = held
given_to (Some channel) stream held = stream_given channel.id (Some stream) held

-- the channel at a place has no stream yet
abbrev pub IsBare : Option Channel → Type 0
IsBare None = ⊥
IsBare (Some channel) = channel.stream ≡ None

-- the channel that is made for a stream which the other end opened: it has the next number
abbrev pub opened_by_other : ℕ → ℕ → Channel
opened_by_other id stream = record { id = id; stream = Some stream; negotiated = None; config = None; confirmed = false }

-- whether a channel has a stream, or no number is left for one
abbrev pub is_ensured : ℕ → Channels → Bool
is_ensured stream held = is_given stream held.rows || (held.given == 2 ^ 64 - 1)

-- a stream that no channel has gets a new one, while a number is left
abbrev pub channel_ensured : ℕ → Channels → Channels
channel_ensured stream held =
    if is_ensured stream held then held
    else record held { given = held.given + 1; rows = held.rows ++ opened_by_other held.given stream ∷ [] }

-- no two rows have one stream
abbrev pub IsUnshared : Option ℕ → List (ℕ × Option ℕ) → Type 0
IsUnshared None rows = Unit {0}
IsUnshared (Some stream) rows = channel_of_stream stream rows ≡ None

abbrev pub AreUnshared : List (ℕ × Option ℕ) → Type 0
AreUnshared [] = Unit {0}
AreUnshared (row ∷ rows) = IsUnshared row.1 rows × AreUnshared rows
