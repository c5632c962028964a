-- Channels that are made, and channels that are confirmed, leave each stream its channel, and the numbers in order.
use Rattle.std.proofs.Common.{if◌then◌else◌, ◌≡◌, ◌∷◌, ◌+◌, ◌<◌, ◌≤◌, ℕ, Bool, true, false, List, [], Option, Some, refl, ap, ◌∙◌, arith}
use Rattle.rtc_wire.specs.declared.channel_config.ChannelConfig.{ChannelConfig}
use Rattle.rtc_channels.specs.Channels.{Channel, Channels, is_of_stream, unconfirmed, with_channel, has_channel_id, rows_confirmed, confirmed, all_confirmed}
use Rattle.rtc_channels.proofs.KeptLemmas.{below_more, rising_more, below_one_more, rising_confirmed, below_confirmed}
use Rattle.rtc_peer_polling.specs.StreamStages.{channel_over}
use Rattle.rtc_peer_laws.proofs.ChannelsOver.{over_rows, over_front}
use Rattle.rtc_peer_laws.specs.ChannelStreams.{AreNumberedChannels}
use Rattle.rtc_peer_laws.proofs.ApartChannels.{confirmed_apart, made_apart}

confirmed_same : (s id : ℕ) (config : ChannelConfig) (rows : List Channel) → over_rows s (rows_confirmed id config rows) ≡ over_rows s rows
confirmed_same s id config [] = refl
confirmed_same s id config (row ∷ rows) = by (has_channel_id id row) (confirmed_same s id config rows)
  where
    by : (b : Bool) → over_rows s (rows_confirmed id config rows) ≡ over_rows s rows
        → over_rows s (if b then record row { config = Some config; confirmed = true } ∷ rows else row ∷ rows_confirmed id config rows) ≡ over_rows s (row ∷ rows)
    by true rest = refl
    by false rest = ap (λ (o : Option ℕ). if is_of_stream s row.stream then Some row.id else o) rest

pub all_confirmed_over : (s : ℕ) (channels : List (ℕ × ChannelConfig)) (held : Channels) → channel_over s (all_confirmed channels held) ≡ channel_over s held
all_confirmed_over s [] held = refl
all_confirmed_over s (channel ∷ rest) held =
    all_confirmed_over s rest (confirmed channel.0 channel.1 held) ∙ confirmed_same s channel.0 channel.1 held.rows

pub all_confirmed_numbers : (channels : List (ℕ × ChannelConfig)) (held : Channels) → AreNumberedChannels held → AreNumberedChannels (all_confirmed channels held)
all_confirmed_numbers [] held h = h
all_confirmed_numbers (channel ∷ rest) held h =
    all_confirmed_numbers rest (confirmed channel.0 channel.1 held) (
      rising_confirmed 0 channel.0 channel.1 held.rows h.0,
      below_confirmed held.given channel.0 channel.1 held.rows h.1,
      confirmed_apart channel.0 channel.1 held.rows h.2,
    )

below_next : (n : ℕ) → n < n + 1
below_next n = omega arith

pub up_to_next : (n : ℕ) → n ≤ n + 1
up_to_next n = omega arith

zero_below : (n : ℕ) → 0 ≤ n
zero_below n = omega arith

pub made_over : (s c : ℕ) (held : Channels) (config : ChannelConfig) → channel_over s held ≡ Some c → channel_over s (with_channel held config) ≡ Some c
made_over s c held config h = over_front s c held.rows (unconfirmed held.given config ∷ []) h

pub made_numbers : (held : Channels) (config : ChannelConfig) → AreNumberedChannels held → AreNumberedChannels (with_channel held config)
made_numbers held config h = (
  rising_more 0 held.given held.rows (unconfirmed held.given config) h.0 h.1 (zero_below held.given) refl,
  below_one_more (held.given + 1) held.rows (unconfirmed held.given config) (below_more held.given (held.given + 1) held.rows h.1 (up_to_next held.given))
      (below_next held.given),
  made_apart held config h.2,
)
