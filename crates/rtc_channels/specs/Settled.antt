-- The channels from the first on that wait for nothing. No public clause cites this file.
use Rattle.std.specs.Prelude.{◌≡◌, ◌&&◌, not, ℕ, zero, suc, Bool, true, List, [], ◌∷◌, is_some, Option}
use Rattle.std.specs.BTreeMap.{BTreeMap}
use Rattle.rtc_channels.specs.declared.grants.Grant.{Grant}
use Rattle.rtc_channels.specs.declared.kept.Kept.{Kept}
use Rattle.rtc_channels.specs.declared.pools.Pools.{Pools}
use Rattle.rtc_channels.specs.Channels.{Channel}
use Rattle.rtc_channels.specs.Kept.{channels_of}
use Rattle.rtc_channels.specs.Granted.{AreHandled}
use Rattle.rtc_channels.specs.Pools.{ArePools}

-- whether a channel has a stream, and nothing more to be opened with
abbrev pub is_settled : Channel → Bool
is_settled channel = is_some channel.stream && not (is_some channel.config)

-- so many channels from the first on are settled
abbrev pub AreSettled : ℕ → List Channel → Type 0
AreSettled zero channels = Unit {0}
AreSettled (suc n) [] = ⊥
AreSettled (suc n) (channel ∷ channels) = (is_settled channel ≡ true) × AreSettled n channels

-- what a handler keeps fits together, so many of its channels are settled, and its pools have what can be given
pub record AreKept (given settled : ℕ) (rows : List (ℕ × Option ℕ)) (kept : List Kept) (grants : BTreeMap ℕ Grant) (pools : Pools)
    : Type 0 where
  pub handled : AreHandled given rows kept grants
  pub settled_first : AreSettled settled (channels_of rows kept)
  pub pools_are : ArePools grants pools
