-- Numbers of channels rise where a stream is given a channel, and where the row of one goes.
use Rattle.std.proofs.Common.{◌≤◌, ◌<◌, ◌+◌, ◌++◌, ◌∷◌, if◌then◌else◌, ℕ, Bool, true, false, [], refl, arith}
use Rattle.rtc_channels.specs.Allocation.{channel_ensured, is_ensured, opened_by_other}
use Rattle.rtc_channels.specs.Channels.{AreBelow, AreRising, Channels}
use Rattle.rtc_channels.specs.Holds.{removed_channel}
use Rattle.rtc_channels.proofs.GivenLemmas.{below_without, rising_without}
use Rattle.rtc_channels.proofs.KeptLemmas.{below_more, below_one_more, rising_more}
use Rattle.rtc_peer_laws.specs.ChannelStreams.{AreNumberedChannels}
use Rattle.rtc_peer_laws.proofs.UnsharedRows.{ensured_apart, without_apart}

least : (n : ℕ) → 0 ≤ n
least n = omega arith

next : (n : ℕ) → n ≤ n + 1
next n = omega arith

below_next : (n : ℕ) → n < n + 1
below_next n = omega arith

pub ensured_numbers : (stream : ℕ) (held : Channels) → AreNumberedChannels held → AreNumberedChannels (channel_ensured stream held)
ensured_numbers stream held h =
    let two = by (is_ensured stream held) in (two.0, two.1, ensured_apart stream held h.2)
  where
    more : Channels
    more = record held { given = held.given + 1; rows = held.rows ++ opened_by_other held.given stream ∷ [] }

    by : (b : Bool) → AreRising 0 (if b then held else more).rows × AreBelow (if b then held else more).given (if b then held else more).rows
    by true = (h.0, h.1)
    by false = (
      rising_more 0 held.given held.rows (opened_by_other held.given stream) h.0 h.1 (least held.given) refl,
      below_one_more (held.given + 1) held.rows (opened_by_other held.given stream)
          (below_more held.given (held.given + 1) held.rows h.1 (next held.given)) (below_next held.given),
    )

pub removed_numbers : (id : ℕ) (pending : Bool) (held : Channels) → AreNumberedChannels held → AreNumberedChannels (removed_channel id pending held)
removed_numbers id pending held h = (rising_without 0 id held.rows h.0, below_without held.given id held.rows h.1, without_apart id held.rows h.2)
