-- A channel that has no row gets none where rows are given streams, opened, confirmed and added.
use Rattle.std.proofs.Common.{if◌then◌else◌, ◌≡◌, ◌∷◌, ◌+◌, ◌<◌, ℕ, Bool, true, false, List, [], Option, Some, None, refl, ◌∙◌, arith}
use Rattle.rtc_wire.specs.declared.channel_config.ChannelConfig.{ChannelConfig}
use Rattle.rtc_channels.specs.Channels.{Channel, Channels, has_channel_id, unconfirmed, with_channel, rows_confirmed, confirmed, all_confirmed}
use Rattle.rtc_channels.specs.Allocation.{sought_by, stream_given, rows_given, all_allocated}
use Rattle.rtc_channels.specs.Openings.{config_handed, rows_opened}
use Rattle.rtc_peer_laws.specs.ChannelStreams.{HasNoRow, IsGone}
use Rattle.rtc_peer_laws.proofs.ChannelsOver.{none_more}

none_given : (c id s : ℕ) (rows : List Channel) → HasNoRow c rows → HasNoRow c (rows_given id s rows)
none_given c id s [] h = tt
none_given c id s (row ∷ rows) h = by (has_channel_id id row) (none_given c id s rows h.1)
  where
    by : (b : Bool) → HasNoRow c (rows_given id s rows) → HasNoRow c (if b then record row { stream = Some s } ∷ rows else row ∷ rows_given id s rows)
    by true rest = h
    by false rest = (h.0, rest)

none_opened : (c id : ℕ) (rows : List Channel) → HasNoRow c rows → HasNoRow c (rows_opened id rows)
none_opened c id [] h = tt
none_opened c id (row ∷ rows) h = by (has_channel_id id row) (none_opened c id rows h.1)
  where
    by : (b : Bool) → HasNoRow c (rows_opened id rows) → HasNoRow c (if b then record row { config = None } ∷ rows else row ∷ rows_opened id rows)
    by true rest = h
    by false rest = (h.0, rest)

none_confirmed : (c id : ℕ) (config : ChannelConfig) (rows : List Channel) → HasNoRow c rows → HasNoRow c (rows_confirmed id config rows)
none_confirmed c id config [] h = tt
none_confirmed c id config (row ∷ rows) h = by (has_channel_id id row) (none_confirmed c id config rows h.1)
  where
    by : (b : Bool) → HasNoRow c (rows_confirmed id config rows)
        → HasNoRow c (if b then record row { config = Some config; confirmed = true } ∷ rows else row ∷ rows_confirmed id config rows)
    by true rest = h
    by false rest = (h.0, rest)

pub allocated_gone : (parity c : ℕ) (channels : List Channel) (held : Channels) → IsGone c held → IsGone c (all_allocated parity channels held)
allocated_gone parity c [] held h = h
allocated_gone parity c (channel ∷ rest) held h = by (sought_by parity held channel) (λ other k. allocated_gone parity c rest other k)
  where
    by : (o : Option ℕ) → ((other : Channels) → IsGone c other → IsGone c (all_allocated parity rest other))
        → IsGone c (all_allocated parity rest (stream_given channel.id o held))
    by None go = go held h
    by (Some t) go = go (record held { rows = rows_given channel.id t held.rows }) (h.0, none_given c channel.id t held.rows h.1)

-- and no number is given
pub allocated_given : (parity : ℕ) (channels : List Channel) (held : Channels) → (all_allocated parity channels held).given ≡ held.given
allocated_given parity [] held = refl
allocated_given parity (channel ∷ rest) held =
    allocated_given parity rest (stream_given channel.id (sought_by parity held channel) held) ∙ by (sought_by parity held channel)
  where
    by : (o : Option ℕ) → (stream_given channel.id o held).given ≡ held.given
    by None = refl
    by (Some t) = refl

pub all_confirmed_given : (channels : List (ℕ × ChannelConfig)) (held : Channels) → (all_confirmed channels held).given ≡ held.given
all_confirmed_given [] held = refl
all_confirmed_given (channel ∷ rest) held = all_confirmed_given rest (confirmed channel.0 channel.1 held)

pub handed_gone : (c id : ℕ) (held : Channels) → IsGone c held → IsGone c (config_handed id held)
handed_gone c id held h = (h.0, none_opened c id held.rows h.1)

pub all_confirmed_gone : (c : ℕ) (channels : List (ℕ × ChannelConfig)) (held : Channels) → IsGone c held → IsGone c (all_confirmed channels held)
all_confirmed_gone c [] held h = h
all_confirmed_gone c (channel ∷ rest) held h =
    all_confirmed_gone c rest (confirmed channel.0 channel.1 held) (h.0, none_confirmed c channel.0 channel.1 held.rows h.1)

pub made_gone : (c : ℕ) (held : Channels) (config : ChannelConfig) → IsGone c held → IsGone c (with_channel held config)
made_gone c held config h =
    let less = h.0 in
    ((let more : c < held.given + 1 = omega (arith, less) in more), none_more c held.rows (unconfirmed held.given config) (λ e. omega (arith, less, e)) h.1)
