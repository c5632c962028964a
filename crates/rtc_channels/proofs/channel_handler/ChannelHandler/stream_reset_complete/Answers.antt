use Rattle.std.proofs.Common.{ap, refl, arith, rules, length, ℕ, List}
use Rattle.rtc_channels.specs.Granted.{holds_of}
use Rattle.rtc_channels.proofs.GrantLemmas.{holds_fewer, length-without_hold}
use Rattle.rtc_channels.proofs.HandledLemmas.{handled_held}
use Rattle.rtc_channels.proofs.PoolLemmas.{granted_dropped, pools_noted}
use Rattle.rtc_channels.proofs.channel_handler.ChannelHandler.stream_reset_complete.Goals as goal

pub invariant_of-self : goal.invariant_of-self
invariant_of-self c = record {
  handled =
      handled_held c.self.inside.given c.self.inside.rows.items c.self.inside.kept.items c.self.inside.grants c.self.invariant.handled c.drop_hold.new.grants c.drop_hold.ensures.owner
      (omega (arith, length-without_hold c.args.s (holds_of c.self.inside.grants), ap (λ (list : List ℕ). length list) (holds_fewer c.self.inside.grants c.drop_hold.new.grants c.args.s (search rules) c.drop_hold.ensures.holds)));
  pools_are = pools_noted c.self.inside.grants c.drop_hold.new.grants c.args.s c.self.inside.pools c.note.new.self (search rules) (granted_dropped c.self.inside.grants c.drop_hold.new.grants c.args.s c.drop_hold.ensures.owner c.drop_hold.ensures.holds) c.self.invariant.pools_are c.note.ensures.client c.note.ensures.server;
  settled_first = c.self.invariant.settled_first;
}

pub returns : goal.returns
returns c =
    rw (← c.self.view_is, holds_fewer c.self.inside.grants c.drop_hold.new.grants c.args.s (search rules) c.drop_hold.ensures.holds) refl
