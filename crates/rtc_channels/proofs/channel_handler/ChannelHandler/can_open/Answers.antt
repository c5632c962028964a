use Rattle.std.proofs.Common.{◌∙◌, ap}
use Rattle.rtc_channels.specs.Channels.{Channels}
use Rattle.rtc_channels.specs.Kept.{channels_of}
use Rattle.rtc_channels.specs.Openings.{can_open}
use Rattle.rtc_channels.proofs.SettledLemmas.{settled_open}
use Rattle.rtc_channels.proofs.channel_handler.ChannelHandler.can_open.Goals as goal

pub any_ready-requires : goal.any_ready-requires
any_ready-requires c = rw (c.as_slice.ensures.value, c.as_slice-2.ensures.value) c.self.invariant.handled.paired.same

pub returns : goal.returns
returns c = c.any_ready.ensures ∙ (rw (c.as_slice.ensures.value, c.as_slice-2.ensures.value) (settled_open c.self.inside.settled (channels_of c.self.inside.rows.items c.self.inside.kept.items) c.self.invariant.settled_first ∙ ap (λ (held : Channels). can_open held.rows) c.self.view_is))
