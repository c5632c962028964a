-- What polls, inputs and closing do to the numbers of the channels (RFC 8831, section 6.4).
use Rattle.std.specs.Prelude.{ℕ, ◌≡◌, ◌+◌, ◌<◌, ◌≤◌, true, false, List, [], ◌∷◌, length, Option, Some, None, Result, Ok, Err}
use Rattle.rtc_channels.specs.Channels.{Channel, Channels, AreBelow, AreRising, has_channel_id}
use Rattle.rtc_peer_core.specs.declared.rtc_error.RtcError.{RtcError}
use Rattle.rtc_peer_transport.specs.declared.event.Event.{Event}
use Rattle.rtc_peer_transport.specs.declared.event.Event.TheVariants.{ChannelOpen}
use Rattle.rtc_peer_transport.specs.declared.output.Output.{Output}
use Rattle.rtc_peer_transport.specs.declared.output.Output.TheVariants as outputs

-- the number of the channel that a result of a poll reports as open, if any
abbrev pub number_told : {E : Type 0} → Result (Output E) RtcError → Option ℕ
number_told (Ok (outputs.Event (ChannelOpen id label))) = Some id
number_told (Ok output) = None
number_told (Err error) = None

-- no channel of a number was confirmed
abbrev pub AreUnconfirmed : ℕ → List Channel → Type 0
AreUnconfirmed id [] = Unit {0}
AreUnconfirmed id (channel ∷ rest) = (has_channel_id id channel ≡ true → channel.confirmed ≡ false) × AreUnconfirmed id rest

-- The numbers of channels before and after a call that reported this one. A number is given, and a row is new, if it is reported, if at
-- all, and each number that is reported was given. Rows whose numbers rise, each below those not given yet, stay so. No channel is
-- confirmed.
pub record ChannelNumbers (told : Option ℕ) (held held' : Channels) : Type 0 where
  pub rises : held.given ≤ held'.given
  pub unless_told : told ≡ None → held'.given ≡ held.given
  pub one_more : held'.given ≤ held.given + 1
  pub few_rows : length held'.rows ≤ length held.rows + 1
  pub no_new_row : told ≡ None → length held'.rows ≤ length held.rows
  pub below : AreBelow held.given held.rows → AreBelow held'.given held'.rows
  pub rising : AreBelow held.given held.rows → AreRising 0 held.rows → AreRising 0 held'.rows
  pub told_below : AreBelow held.given held.rows → (id : ℕ) → told ≡ Some id → id < held'.given
  pub unconfirmed : (id : ℕ) → AreUnconfirmed id held.rows → AreUnconfirmed id held'.rows
