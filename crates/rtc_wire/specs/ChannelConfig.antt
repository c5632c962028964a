-- What a channel is opened with, and the open message that says it.
use Rattle.std.specs.Prelude.{ℕ, Bool, List, [], true, not, ◌&&◌, nat_lt, length, None}
use Rattle.rtc_wire.specs.declared.channel_config.ChannelConfig.{ChannelConfig}
use Rattle.rtc_wire.specs.declared.dcep_open.DcepOpen.{DcepOpen}
use Rattle.rtc_wire.specs.declared.reliability.Reliability.TheVariants.{Reliable}
use Rattle.rtc_wire.specs.Reliability.{parts_of, reliability_of}

-- ordered, reliable, announced by an open message, with no label and no protocol
abbrev pub fresh : ChannelConfig
fresh = record { label = []; ordered = true; reliability = Reliable; negotiated = None; protocol = [] }

-- whether a label or protocol is too long for an open message, which has two bytes for the length of each (RFC 8832, section 5.1)
abbrev pub is_overlong : List ℕ → Bool
is_overlong text = nat_lt 65535 (length text)

-- whether the label and the protocol of a config fit an open message
abbrev pub fits_open_message : ChannelConfig → Bool
fits_open_message config = not (is_overlong config.label) && not (is_overlong config.protocol)

-- the open message that announces a channel (RFC 8832, section 5.1); its priority is 0
abbrev pub open_of : ChannelConfig → DcepOpen
open_of config = record {
  unordered = not config.ordered;
  channel_type = (parts_of config.reliability).0;
  priority = 0;
  reliability_parameter = (parts_of config.reliability).1;
  label = config.label;
  protocol = config.protocol;
}

-- the config that an open message asks for
abbrev pub config_of : DcepOpen → ChannelConfig
config_of message = record {
  label = message.label;
  ordered = not message.unordered;
  reliability = reliability_of message.channel_type message.reliability_parameter;
  negotiated = None;
  protocol = message.protocol;
}
