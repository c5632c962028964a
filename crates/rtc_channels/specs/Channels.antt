-- The channels of a peer, in order of their numbers (RFC 8831, section 6.4).
use Rattle.std.specs.Prelude.{◌≡◌, ◌+◌, ◌-◌, ◌<◌, ◌≤◌, ◌^◌, ◌==◌, ◌||◌, ℕ, Bool, true, false, List, [], ◌∷◌, ◌++◌, if◌then◌else◌}
use Rattle.std.specs.Prelude.{Option, Some, None, Result, Ok, Err}
use Rattle.std.specs.List.{list_any}
use Rattle.rtc_wire.specs.declared.channel_config.ChannelConfig.{ChannelConfig}
use Rattle.rtc_wire.specs.ChannelConfig.{is_overlong}
use Rattle.rtc_channels.specs.declared.channel_error.ChannelError.{ChannelError}
use Rattle.rtc_channels.specs.declared.channel_error.ChannelError.TheVariants.{BadChannel, Alloc}

pub record Channel : Type 0 where
  pub id : ℕ
  -- the SCTP stream that it was given
  pub stream : Option ℕ
  -- the SCTP stream, if the channel is negotiated out-of-band
  pub negotiated : Option ℕ
  -- what it is to be opened with, once it is confirmed
  pub config : Option ChannelConfig
  -- whether it was confirmed, also once it was opened
  pub confirmed : Bool

pub record Channels : Type 0 where
  -- how many numbers were given; the first is 0
  pub given : ℕ
  pub rows : List Channel
  -- the streams that are held until they are reset, in ascending order, each as often as it is held
  pub holds : List ℕ

abbrev pub no_channels : Channels
no_channels = record { given = 0; rows = []; holds = [] }

abbrev pub has_channel_id : ℕ → Channel → Bool
has_channel_id id channel = channel.id == id

-- whether a channel has a number
abbrev pub has_channel : ℕ → List Channel → Bool
has_channel id channels = list_any (has_channel_id id) channels

abbrev pub is_of_stream : ℕ → Option ℕ → Bool
is_of_stream stream None = false
is_of_stream stream (Some own) = own == stream

-- whether a stream was given to a channel, or is negotiated out-of-band for one
abbrev pub is_claimed : ℕ → List Channel → Bool
is_claimed stream channels = list_any (λ channel. is_of_stream stream channel.stream || is_of_stream stream channel.negotiated) channels

-- whether a channel that is asked for wants a stream that another one claims
abbrev pub claims_again : Option ℕ → List Channel → Bool
claims_again None channels = false
claims_again (Some stream) channels = is_claimed stream channels

-- whether no channel can be made of a config
abbrev pub is_bad_channel : Channels → ChannelConfig → Bool
is_bad_channel held config =
    is_overlong config.label
    || (is_overlong config.protocol || (claims_again config.negotiated held.rows || (held.given == 2 ^ 64 - 1)))

-- the channel that is made of a config: it waits for a stream, and is not confirmed
abbrev pub unconfirmed : ℕ → ChannelConfig → Channel
unconfirmed id config = record { id = id; stream = None; negotiated = config.negotiated; config = None; confirmed = false }

-- the channels with one more, numbered above all before
abbrev pub with_channel : Channels → ChannelConfig → Channels
with_channel held config = record held { given = held.given + 1; rows = held.rows ++ unconfirmed held.given config ∷ [] }

-- A channel is made of a config, or refused.
abbrev pub MakesChannel : Channels → ChannelConfig → Result ℕ ChannelError → Channels → Type 0
MakesChannel held config (Ok id) held' =
    (is_bad_channel held config ≡ false) × (id ≡ held.given) × (held' ≡ with_channel held config)
MakesChannel held config (Err BadChannel) held' = (is_bad_channel held config ≡ true) × (held' ≡ held)
MakesChannel held config (Err Alloc) held' = held' ≡ held

-- the channels once that of a number, if there is one, is confirmed
abbrev pub rows_confirmed : ℕ → ChannelConfig → List Channel → List Channel
rows_confirmed id config [] = []
rows_confirmed id config (channel ∷ rest) =
    if has_channel_id id channel then record channel { config = Some config; confirmed = true } ∷ rest
    else channel ∷ rows_confirmed id config rest

abbrev pub confirmed : ℕ → ChannelConfig → Channels → Channels
confirmed id config held = record held { rows = rows_confirmed id config held.rows }

-- the channels once each of these, if it is still there, is confirmed
abbrev pub all_confirmed : List (ℕ × ChannelConfig) → Channels → Channels
all_confirmed [] held = held
all_confirmed (channel ∷ rest) held = all_confirmed rest (confirmed channel.0 channel.1 held)

-- a channel's number with its stream
abbrev pub numbered_stream : Channel → ℕ × Option ℕ
numbered_stream channel = (channel.id, channel.stream)

-- the channel that a stream was given to
abbrev pub channel_of_stream : ℕ → List (ℕ × Option ℕ) → Option ℕ
channel_of_stream stream [] = None
channel_of_stream stream (row ∷ rows) = if is_of_stream stream row.1 then Some row.0 else channel_of_stream stream rows

-- the stream that a channel was given
abbrev pub stream_of_channel : ℕ → List (ℕ × Option ℕ) → Option ℕ
stream_of_channel id [] = None
stream_of_channel id (row ∷ rows) = if row.0 == id then row.1 else stream_of_channel id rows

-- numbers rise, from this one on
abbrev pub AreRising : ℕ → List Channel → Type 0
AreRising least [] = Unit {0}
AreRising least (channel ∷ rest) = (least ≤ channel.id) × AreRising (channel.id + 1) rest

-- each number is below this one
abbrev pub AreBelow : ℕ → List Channel → Type 0
AreBelow bound [] = Unit {0}
AreBelow bound (channel ∷ rest) = (channel.id < bound) × AreBelow bound rest
