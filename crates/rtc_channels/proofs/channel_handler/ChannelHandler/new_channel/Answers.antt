use Rattle.std.proofs.Common.{◌∙◌, sym, ap, refl}
use Rattle.rtc_channels.specs.Channels.{Channels}
use Rattle.rtc_channels.specs.Granted.{holds_of}
use Rattle.rtc_channels.proofs.KeptLemmas.{made}
use Rattle.rtc_channels.proofs.HandledLemmas.{handled_more}
use Rattle.rtc_channels.proofs.SettledLemmas.{settled_more}
use Rattle.rtc_channels.proofs.channel_handler.ChannelHandler.new_channel.Goals as goal

pub invariant_of-self-2 : goal.invariant_of-self-2
invariant_of-self-2 c =
    rw (c.push_reserved.ensures.items, c.push_reserved-2.ensures.items, c.reserve.ensures.items, c.reserve-2.ensures.items)
    (record {
      handled = handled_more c.self.inside.given c.self.inside.rows.items c.self.inside.kept.items c.self.inside.grants c.self.invariant.handled c.next_channel-id.result _ c.next_channel-id.ensures refl;
      settled_first = settled_more c.self.inside.settled c.self.inside.rows.items c.self.inside.kept.items _ _ c.self.invariant.handled.paired.same c.self.invariant.settled_first;
      pools_are = c.self.invariant.pools_are;
    })

pub returns : goal.returns
returns c = (
  sym c.is_bad.ensures ∙ c.if-is_bad.false,
  c.next_channel-id.ensures ∙ ap (λ (held : Channels). held.given) c.self.view_is,
  rw (c.push_reserved.ensures.items, c.push_reserved-2.ensures.items, c.reserve.ensures.items, c.reserve-2.ensures.items)
      (made c.args.self.now c.self.inside.given c.self.inside.rows.items c.self.inside.kept.items c.next_channel-id.result c.args.config.now (holds_of c.self.inside.grants) c.self.view_is c.self.invariant.handled.paired.same c.next_channel-id.ensures),
)
