use Rattle.std.proofs.Common.{subst}
use Rattle.rtc_channels.specs.Channels.{Channels}
use Rattle.rtc_channels.specs.Settled.{AreSettled}
use Rattle.rtc_channels.proofs.channel_handler.ChannelHandler.first_unsettled.Goals as goal

pub returns : goal.returns
returns c = subst (λ (held : Channels). AreSettled c.self.inside.settled held.rows) c.self.view_is c.self.invariant.settled_first
