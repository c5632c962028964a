use Rattle.std.proofs.Common.{ℕ, List, Result, Ok, ap, sym, ◌∙◌}
use Rattle.rtc_wire.specs.declared.channel_config.ChannelConfig.{ChannelConfig}
use Rattle.rtc_c_handle.specs.ChannelSettings.{config_of_channel}
use Rattle.rtc_c_handle.specs.WantedReads.{HasChannel}
use Rattle.rtc_c_handle.specs.declared.status.Status.{Status}
use Rattle.rtc_c_handle.specs.declared.wanted_change.WantedChange.{WantedChange}
use Rattle.rtc_c_handle.specs.declared.wanted_change.WantedChange.TheVariants.{Channel}
use Rattle.rtc_c_handle.proofs.wanting.read_channel.Goals as goal

pub returns : goal.returns
returns c =
    let made : ChannelConfig → Result WantedChange Status = λ (config : ChannelConfig). Ok (Channel config) in
    let by_label : List ℕ → ChannelConfig = λ (label : List ℕ). config_of_channel c.args.settings.now c.in_ok-reliability.reliability label c.in-Ok-from_utf8.protocol.now in
    let by_protocol : List ℕ → ChannelConfig = λ (protocol : List ℕ). config_of_channel c.args.settings.now c.in_ok-reliability.reliability c.args.label.now protocol in
    HasChannel c.in_ok-reliability.reliability (sym c.in_ok-reliability.ensures)
    (ap made (c.in-Ok-config.ensures ∙ (ap by_label c.in-Ok.ensures.cases.0 ∙ ap by_protocol c.in-Ok-from_utf8.ensures.cases.0)))
