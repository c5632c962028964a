use Rattle.std.proofs.Common.{◌∙◌, sym, ap, refl, arith, rules, length, ℕ, List}
use Rattle.rtc_channels.proofs.HandledLemmas.{handled_held, handled_pushed, same_owner, same_list}
use Rattle.rtc_channels.proofs.AllocationLemmas.{ensured_free, ensured_view, on_err}
use Rattle.rtc_channels.proofs.SettledLemmas.{settled_more}
use Rattle.rtc_channels.proofs.PoolLemmas.{granted_given, pools_noted, pools_same}
use Rattle.rtc_channels.proofs.channel_handler.ChannelHandler.ensure_channel_id_for.Goals as goal

pub invariant_of-self-in_err-give : goal.invariant_of-self-in_err-give
invariant_of-self-in_err-give c =
    rw (c.reserve.ensures.items, c.reserve-2.ensures.items)
    (record {
      handled =
          handled_held c.self.inside.given c.self.inside.rows.items c.self.inside.kept.items c.self.inside.grants c.self.invariant.handled c.give.new.grants (λ q. same_owner c.self.inside.grants c.give.new.grants q c.in_err-give.ensures.refused)
          (omega (arith, ap (λ (list : List ℕ). length list) (same_list c.self.inside.grants c.give.new.grants c.in_err-give.ensures.refused)));
      settled_first = c.self.invariant.settled_first;
      pools_are = pools_same c.self.inside.grants c.give.new.grants c.self.inside.pools c.in_err-give.ensures.refused c.self.invariant.pools_are;
    })

pub returns-in_err-give-clause-refused : goal.returns-in_err-give-clause-refused
returns-in_err-give-clause-refused c =
    on_err c.from_residual-in_err-give.result
    (rw (c.reserve.ensures.items, c.reserve-2.ensures.items, same_list c.self.inside.grants c.give.new.grants c.in_err-give.ensures.refused) c.self.view_is)

pub invariant_of-self-2 : goal.invariant_of-self-2
invariant_of-self-2 c =
    rw (c.push_reserved.ensures.items, c.push_reserved-2.ensures.items, c.reserve.ensures.items, c.reserve-2.ensures.items)
    (record {
      pools_are = pools_noted c.self.inside.grants c.give.new.grants c.args.s c.self.inside.pools c.note.new.self (search rules) (granted_given c.self.inside.grants c.give.new.grants c.args.s c.next_channel-id.result c.in_ok-give.ensures.owner c.in_ok-give.ensures.holds) c.self.invariant.pools_are c.note.ensures.client c.note.ensures.server;
      settled_first = settled_more c.self.inside.settled c.self.inside.rows.items c.self.inside.kept.items _ _ c.self.invariant.handled.paired.same c.self.invariant.settled_first;
      handled =
          handled_pushed c.self.inside.given c.self.inside.rows.items c.self.inside.kept.items c.self.inside.grants c.self.invariant.handled c.give.new.grants c.next_channel-id.result c.args.s _ c.next_channel-id.ensures refl
          (ensured_free c.self.inside.given c.args.s c.self.inside.rows.items c.self.inside.kept.items c.self.inside.grants c.self.invariant.handled c.args.self.now c.self.view_is (sym c.is_ensured.ensures ∙ c.if-is_ensured.false))
          c.in_ok-give.ensures.owner c.in_ok-give.ensures.holds;
    })

pub returns-clause-ensured : goal.returns-clause-ensured
returns-clause-ensured c =
    rw (c.push_reserved.ensures.items, c.push_reserved-2.ensures.items, c.reserve.ensures.items, c.reserve-2.ensures.items)
    (ensured_view c.self.inside.given c.args.s c.self.inside.rows.items c.self.inside.kept.items c.self.inside.grants c.self.invariant.handled c.args.self.now c.self.view_is c.give.new.grants c.next_channel-id.result c.next_channel-id.ensures
    (sym c.is_ensured.ensures ∙ c.if-is_ensured.false) c.in_ok-give.ensures.holds)
