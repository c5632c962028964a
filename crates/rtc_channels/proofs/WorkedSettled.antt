-- Streams that both ends settled, and those that ask for them, computed.
use Rattle.std.proofs.Common.{◌≡◌, true, false, Some, refl}
use Rattle.rtc_wire.specs.declared.channel_config.ChannelConfig.{ChannelConfig}
use Rattle.rtc_wire.specs.ChannelConfig.{fresh}
use Rattle.rtc_channels.specs.Channels.{Channels, no_channels, with_channel, is_bad_channel}
use Rattle.rtc_channels.specs.Holds.{removed_channel}
use Rattle.rtc_channels.specs.Allocation.{channel_ensured}

abbrev settled : ChannelConfig
settled = record fresh { negotiated = Some 4 }

-- of two channels that ask for one stream in turn, the second is refused, and one in-band is not
abbrev asked : Channels
asked = with_channel no_channels settled

first_taken : is_bad_channel no_channels settled ≡ false
first_taken = refl

second_refused : is_bad_channel asked settled ≡ true
second_refused = refl

in_band_taken : is_bad_channel asked fresh ≡ false
in_band_taken = refl

-- so is one that asks for a stream that the other end opened
granted_refused : is_bad_channel (channel_ensured 4 no_channels) settled ≡ true
granted_refused = refl

-- where the channel went, its stream can be asked for again
gone_taken : is_bad_channel (removed_channel 0 false asked) settled ≡ false
gone_taken = refl
