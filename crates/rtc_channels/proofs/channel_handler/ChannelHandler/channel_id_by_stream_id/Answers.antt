use Rattle.std.proofs.Common.{◌∙◌, sym}
use Rattle.rtc_channels.proofs.KeptLemmas.{streams_of_channels}
use Rattle.rtc_channels.proofs.channel_handler.ChannelHandler.channel_id_by_stream_id.Goals as goal

pub returns : goal.returns
returns c =
    rw (sym c.self.view_is) (rw (streams_of_channels c.self.inside.rows.items c.self.inside.kept.items c.self.invariant.handled.paired.same) (c.owner_of.ensures ∙ c.self.invariant.handled.owners c.args.s))
