use Rattle.std.proofs.Common.{sym, refl}
use Rattle.rtc_channels.proofs.KeptLemmas.{has_channel_place}
use Rattle.rtc_channels.proofs.PlaceLemmas.{handled_ascending}
use Rattle.rtc_channels.proofs.channel_handler.ChannelHandler.has_channel.Goals as goal

pub find_place-requires : goal.find_place-requires
find_place-requires c = rw c.as_slice.ensures.value (handled_ascending c.self.inside.rows.items c.self.inside.kept.items c.self.invariant.handled.paired)

pub returns : goal.returns
returns c =
    rw (sym c.self.view_is) (rw (sym (has_channel_place 0 c.args.id c.self.inside.rows.items c.self.inside.kept.items c.self.invariant.handled.paired.same))
    (rw (c.is_some.ensures, c.find_place.ensures.place, c.as_slice.ensures.value) refl))
