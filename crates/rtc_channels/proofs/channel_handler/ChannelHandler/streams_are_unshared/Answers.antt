use Rattle.std.proofs.Common.{sym}
use Rattle.rtc_channels.proofs.KeptLemmas.{streams_of_channels}
use Rattle.rtc_channels.proofs.channel_handler.ChannelHandler.streams_are_unshared.Goals as goal

pub returns : goal.returns
returns c = rw (sym c.self.view_is, streams_of_channels c.self.inside.rows.items c.self.inside.kept.items c.self.invariant.handled.paired.same) c.self.invariant.handled.unshared
