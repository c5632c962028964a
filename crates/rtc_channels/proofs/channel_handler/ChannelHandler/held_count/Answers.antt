use Rattle.std.proofs.Common.{◌∙◌, sym, ap, rules}
use Rattle.rtc_channels.specs.Channels.{Channels}
use Rattle.rtc_channels.specs.Holds.{hold_count}
use Rattle.rtc_channels.proofs.GrantLemmas.{hold_count-holds_of}
use Rattle.rtc_channels.proofs.channel_handler.ChannelHandler.held_count.Goals as goal

pub returns : goal.returns
returns c =
    c.count_holds.ensures
    ∙ (sym (hold_count-holds_of c.self.inside.grants c.args.s (search rules)) ∙ ap (λ (held : Channels). hold_count c.args.s held.holds) c.self.view_is)
