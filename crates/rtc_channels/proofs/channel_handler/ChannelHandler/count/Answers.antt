use Rattle.std.proofs.Common.{◌∙◌, sym, ap, length, ℕ, List, Option}
use Rattle.rtc_channels.specs.Channels.{Channels}
use Rattle.rtc_channels.proofs.GivingLemmas.{length-channels_of}
use Rattle.rtc_channels.proofs.channel_handler.ChannelHandler.count.Goals as goal

pub returns : goal.returns
returns c =
    ap (λ (rows : List (ℕ × Option ℕ)). length rows) c.as_slice.ensures.value
    ∙ (sym (length-channels_of c.self.inside.rows.items c.self.inside.kept.items c.self.invariant.handled.paired.same) ∙ ap (λ (held : Channels). length held.rows) c.self.view_is)
