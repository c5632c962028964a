-- What a channel of a label alone is opened with.
use Rattle.std.specs.Prelude.{String, string_bytes}
use Rattle.rtc_wire.specs.ChannelConfig.{fresh}
use Rattle.rtc_wire.specs.declared.channel_config.ChannelConfig.{ChannelConfig}

-- ordered, reliable, announced by an open message, with this label and no protocol
abbrev pub labelled_config : {Z : Type 0} → String Z → ChannelConfig
labelled_config label = record fresh { label = string_bytes label }
