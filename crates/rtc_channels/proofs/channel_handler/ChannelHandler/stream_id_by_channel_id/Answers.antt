use Rattle.std.proofs.Common.{◌∙◌, sym, ap, ℕ, List, Option}
use Rattle.rtc_channels.specs.Channels.{stream_of_channel}
use Rattle.rtc_channels.proofs.KeptLemmas.{streams_of_channels}
use Rattle.rtc_channels.proofs.PlaceLemmas.{handled_ascending}
use Rattle.rtc_channels.proofs.channel_handler.ChannelHandler.stream_id_by_channel_id.Goals as goal

pub find_stream-requires : goal.find_stream-requires
find_stream-requires c = rw c.as_slice.ensures.value (handled_ascending c.self.inside.rows.items c.self.inside.kept.items c.self.invariant.handled.paired)

pub returns : goal.returns
returns c =
    rw (sym c.self.view_is) (rw (streams_of_channels c.self.inside.rows.items c.self.inside.kept.items c.self.invariant.handled.paired.same) (c.find_stream.ensures ∙ ap (λ (rows : List (ℕ × Option ℕ)). stream_of_channel c.args.id rows) c.as_slice.ensures.value))
