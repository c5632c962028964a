-- The holds of streams. A stream of a channel that went while its reset was pending is not given again before that reset completes
-- (RFC 8831, section 6.7). A stream may be held several times.
use Rattle.std.specs.Prelude.{◌+◌, ◌==◌, ◌&&◌, not, nat_lt, ℕ, Bool, true, false, List, [], ◌∷◌, map, if◌then◌else◌, Option, Some, None}
use Rattle.std.specs.List.{list_any}
use Rattle.rtc_wire.specs.declared.channel_config.ChannelConfig.{ChannelConfig}
use Rattle.rtc_channels.specs.Channels.{Channel, Channels, has_channel_id, numbered_stream, stream_of_channel}

-- one hold more of a stream, in its place
abbrev pub with_hold : ℕ → List ℕ → List ℕ
with_hold stream [] = stream ∷ []
with_hold stream (own ∷ holds) = if nat_lt own stream then own ∷ with_hold stream holds else stream ∷ own ∷ holds

-- one hold of a stream fewer, if it has any
abbrev pub without_hold : ℕ → List ℕ → List ℕ
without_hold stream [] = []
without_hold stream (own ∷ holds) = if own == stream then holds else own ∷ without_hold stream holds

-- how often a stream is held
abbrev pub hold_count : ℕ → List ℕ → ℕ
hold_count stream [] = 0
hold_count stream (own ∷ holds) = if own == stream then 1 + hold_count stream holds else hold_count stream holds

abbrev pub is_stream_held : ℕ → List ℕ → Bool
is_stream_held stream holds = nat_lt 0 (hold_count stream holds)

-- a reset of a stream is complete
abbrev pub reset_completed : ℕ → Channels → Channels
reset_completed stream held = record held { holds = without_hold stream held.holds }

-- with the association every hold is gone
abbrev pub holds_lost : Channels → Channels
holds_lost held = record held { holds = [] }

-- the channels without that of a number, if there is one
abbrev pub channels_without : ℕ → List Channel → List Channel
channels_without id [] = []
channels_without id (channel ∷ rest) = if has_channel_id id channel then rest else channel ∷ channels_without id rest

-- a stream is held once more if its reset is pending
abbrev pub held_pending : Bool → Option ℕ → List ℕ → List ℕ
held_pending true (Some stream) holds = with_hold stream holds
held_pending true None holds = holds
held_pending false stream holds = holds

-- a channel is removed, and its stream, if it has one, is held once more if a reset is pending
abbrev pub removed_channel : ℕ → Bool → Channels → Channels
removed_channel id pending held = record held {
  rows = channels_without id held.rows;
  holds = held_pending pending (stream_of_channel id (map numbered_stream held.rows)) held.holds;
}

-- whether a channel is there and was never confirmed
abbrev pub is_unconfirmed : ℕ → List Channel → Bool
is_unconfirmed id channels = list_any (λ channel. has_channel_id id channel && not channel.confirmed) channels

abbrev pub cancelled_if : Bool → ℕ → Channels → Channels
cancelled_if true id held = removed_channel id false held
cancelled_if false id held = held

-- the channels without those of these that are still there and were never confirmed; their streams can be given again at once
abbrev pub all_cancelled : List (ℕ × ChannelConfig) → Channels → Channels
all_cancelled [] held = held
all_cancelled (channel ∷ rest) held = all_cancelled rest (cancelled_if (is_unconfirmed channel.0 held.rows) channel.0 held)
