use Rattle.std.proofs.Common.{ap, refl, arith, length, ℕ, List}
use Rattle.rtc_channels.proofs.GrantLemmas.{holds_none}
use Rattle.rtc_channels.proofs.HandledLemmas.{handled_held}
use Rattle.rtc_channels.proofs.channel_handler.ChannelHandler.association_lost.Goals as goal

pub invariant_of-self : goal.invariant_of-self
invariant_of-self c = record {
  handled =
      handled_held c.self.inside.given c.self.inside.rows.items c.self.inside.kept.items c.self.inside.grants c.self.invariant.handled c.drop_holds.new.grants c.drop_holds.ensures.owner
      (omega (arith, ap (λ (list : List ℕ). length list) (holds_none c.drop_holds.new.grants c.drop_holds.ensures.holds)));
  pools_are = c.collect-self-inside.ensures;
  settled_first = c.self.invariant.settled_first;
}

pub returns : goal.returns
returns c = rw (← c.self.view_is, holds_none c.drop_holds.new.grants c.drop_holds.ensures.holds) refl
