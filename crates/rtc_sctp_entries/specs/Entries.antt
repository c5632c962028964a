-- Streams in use: what is kept of each, and the list of them in order of their numbers.
use Rattle.std.specs.Prelude.{ℕ, ◌+◌, ◌≤◌, ◌==◌, ◌&&◌, not, Bool, true, false, List, [], ◌∷◌, ◌++◌, length, if◌then◌else◌, Option}
use Rattle.std.specs.Prelude.{Some, None, is_some, unwrap_or, position, insert, nat_lt}
use Rattle.std.specs.List.{filter, list_any}
use Rattle.rtc_wire.specs.declared.channel_config.ChannelConfig.{ChannelConfig}
use Rattle.rtc_wire.specs.ChannelConfig.{fresh, fits_open_message}
use Rattle.rtc_sctp_entries.specs.declared.buffered_threshold_config.BufferedThresholdConfig.{BufferedThresholdConfig}
use Rattle.rtc_sctp_entries.specs.declared.buffered_threshold_config.BufferedThresholdConfig.TheVariants.{Unconfigured, Desired, Configured}
use Rattle.rtc_sctp_entries.specs.declared.stream_entry_state.StreamEntryState.{StreamEntryState}
use Rattle.rtc_sctp_entries.specs.declared.stream_entry_state.StreamEntryState.TheVariants.{AwaitOpen, AwaitConfig}
use Rattle.rtc_sctp_entries.specs.declared.stream_entry_state.StreamEntryState.TheVariants.{AwaitDcepAck, Open, Closed}
use Rattle.rtc_sctp_entries.specs.declared.stream_entry.StreamEntry.{StreamEntry}

-- a threshold once a number of bytes is asked for
abbrev pub threshold_set : ℕ → BufferedThresholdConfig → BufferedThresholdConfig
threshold_set v Unconfigured = Desired v
threshold_set v (Desired own) = Desired v
threshold_set v (Configured own) = if own == v then Configured own else Desired v

-- the config of an entry; the fresh one if there is none yet
abbrev pub config_or_fresh : Option ChannelConfig → ChannelConfig
config_or_fresh None = fresh
config_or_fresh (Some config) = config

-- the open message of the other end gives an entry its config, where it has none
abbrev pub given_config : Option ChannelConfig → ChannelConfig → Option ChannelConfig
given_config None config = Some config
given_config (Some own) config = Some own

abbrev pub is_short_entry : StreamEntry → Bool
is_short_entry entry = fits_open_message (config_or_fresh entry.config)

-- whether both ends settled the stream by other means
abbrev pub is_out_of_band : StreamEntry → Bool
is_out_of_band entry = is_some (config_or_fresh entry.config).negotiated

abbrev pub closed_entry : StreamEntry → StreamEntry
closed_entry entry = record entry { state = Closed }

abbrev pub open_entry : StreamEntry → StreamEntry
open_entry entry = record entry { state = Open }

-- the entry of a channel that is announced, or acknowledged, in a generation of its stream
abbrev pub entry_in : ℕ → StreamEntry → StreamEntry
entry_in generation entry = record entry { generation = Some generation }

abbrev pub marked_entry : StreamEntry → StreamEntry
marked_entry entry = record entry { marked = true }

-- the streams whose reset is outstanding, with one more, and without one
abbrev pub has_reset : ℕ → List ℕ → Bool
has_reset id resets = list_any (λ own. own == id) resets

abbrev pub with_reset : ℕ → List ℕ → List ℕ
with_reset id resets = if has_reset id resets then resets else resets ++ id ∷ []

abbrev pub without_reset : ℕ → List ℕ → List ℕ
without_reset id resets = filter (λ own. not (own == id)) resets

-- how much work an entry may still make: at least what the steps of its opening and its close can add to the work
-- of the association
abbrev pub state_credit : StreamEntryState → Option ChannelConfig → ℕ
state_credit AwaitOpen config = 19 + length (config_or_fresh config).label + length (config_or_fresh config).protocol
state_credit AwaitConfig config = 6
state_credit AwaitDcepAck config = 3
state_credit Open config = 3
state_credit Closed config = 0

abbrev pub mark_credit : Bool → ℕ
mark_credit true = 0
mark_credit false = 1

-- whether a threshold is to be handed over
abbrev pub is_desired : BufferedThresholdConfig → Bool
is_desired Unconfigured = false
is_desired (Desired n) = true
is_desired (Configured n) = false

abbrev pub threshold_credit : BufferedThresholdConfig → ℕ
threshold_credit (Desired n) = 1
threshold_credit Unconfigured = 0
threshold_credit (Configured n) = 0

abbrev pub entry_credit : StreamEntry → ℕ
entry_credit entry = state_credit entry.state entry.config + mark_credit entry.marked + threshold_credit entry.threshold

abbrev pub is_entry_of : ℕ → StreamEntry → Bool
is_entry_of id entry = entry.id == id

abbrev pub entry_place : ℕ → List StreamEntry → Option ℕ
entry_place id entries = position (is_entry_of id) entries

-- the place at which an entry of a stream is put: before the first with a greater number
abbrev pub new_place : ℕ → List StreamEntry → ℕ
new_place id entries = unwrap_or (position (λ entry. nat_lt id entry.id) entries) (length entries)

abbrev pub with_entry : StreamEntry → List StreamEntry → List StreamEntry
with_entry entry entries = insert entries (new_place entry.id entries) entry

-- the entries from a number on are in order of their numbers, each of another stream
abbrev pub AscendFrom : ℕ → List StreamEntry → Type 0
AscendFrom low [] = Unit {0}
AscendFrom low (entry ∷ entries) = (low ≤ entry.id) × AscendFrom (entry.id + 1) entries

abbrev pub Ascend : List StreamEntry → Type 0
Ascend entries = AscendFrom 0 entries

abbrev pub new_entry : ℕ → StreamEntryState → Option ChannelConfig → StreamEntry
new_entry id state config =
    record { id = id; state = state; config = config; marked = false; threshold = Unconfigured; refused = None; generation = None }

abbrev pub is_open_state : StreamEntryState → Bool
is_open_state AwaitOpen = false
is_open_state AwaitConfig = false
is_open_state AwaitDcepAck = false
is_open_state Open = true
is_open_state Closed = false

-- the entries that are not closed
abbrev pub is_closed_state : StreamEntryState → Bool
is_closed_state AwaitOpen = false
is_closed_state AwaitConfig = false
is_closed_state AwaitDcepAck = false
is_closed_state Open = false
is_closed_state Closed = true

abbrev pub unclosed : List StreamEntry → List StreamEntry
unclosed entries = filter (λ own. not (is_closed_state own.state)) entries

-- whether the entry of a stream is open
abbrev pub has_open : ℕ → List StreamEntry → Bool
has_open id entries = list_any (λ entry. entry.id == id && is_open_state entry.state) entries

-- the config of a stream's entry, if there is one
abbrev pub stream_config : ℕ → List StreamEntry → Option ChannelConfig
stream_config id [] = None
stream_config id (entry ∷ entries) = if entry.id == id then entry.config else stream_config id entries

-- the generation that a stream's entry keeps, if there is one
abbrev pub stream_generation : ℕ → List StreamEntry → Option ℕ
stream_generation id [] = None
stream_generation id (entry ∷ entries) = if entry.id == id then entry.generation else stream_generation id entries

-- whether a generation is the kept one, if one is kept
abbrev pub fits_generation : Option ℕ → ℕ → Bool
fits_generation None generation = true
fits_generation (Some own) generation = own == generation

abbrev pub is_open_awaited : StreamEntryState → Bool
is_open_awaited AwaitOpen = true
is_open_awaited AwaitConfig = false
is_open_awaited AwaitDcepAck = false
is_open_awaited Open = false
is_open_awaited Closed = false

-- whether an opening is tried again
abbrev pub is_retrying : StreamEntry → Bool
is_retrying entry = is_open_awaited entry.state && is_some entry.refused
