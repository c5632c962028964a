-- What C opens a data channel with.
use Rattle.std.specs.Prelude.{ℕ, List, Option, Some, None, if◌then◌else◌, not}
use Rattle.rtc_wire.specs.declared.channel_config.ChannelConfig.{ChannelConfig}
use Rattle.rtc_wire.specs.declared.reliability.Reliability.{Reliability}
use Rattle.rtc_c_handle.specs.declared.channel_settings.ChannelSettings.{ChannelSettings}

-- the stream of a channel that is negotiated out-of-band
abbrev pub stream_wanted : ChannelSettings → Option ℕ
stream_wanted settings = if settings.negotiated then Some settings.stream else None

-- the configuration of a channel with these texts
abbrev pub config_of_channel : ChannelSettings → Reliability → (label protocol : List ℕ) → ChannelConfig
config_of_channel settings reliability label protocol = record {
  label = label;
  ordered = not settings.unordered;
  reliability = reliability;
  negotiated = stream_wanted settings;
  protocol = protocol;
}
