use Rattle.std.proofs.Common.{◌∙◌, ap, arith, rules, length, ℕ, List, Option, Some, None, cond, ◌==◌, false}
use Rattle.std.proofs.lemmas.Grind.{common_steps}
use Rattle.rtc_channels.specs.Channels.{Channels}
use Rattle.std.specs.Prelude.{slice_get}
use Rattle.rtc_channels.specs.Granted.{owner_at}
use Rattle.rtc_channels.proofs.PlaceLemmas.{same_row}
use Rattle.rtc_channels.proofs.HandledLemmas.{handled_held, same_owner, same_list}
use Rattle.rtc_channels.proofs.AllocationLemmas.{on_err}
use Rattle.rtc_channels.proofs.GivingLemmas.{bare_within, handled_give, give_view, give_count, set_behind}
use Rattle.rtc_channels.proofs.SettledLemmas.{settled_given}
use Rattle.rtc_channels.proofs.PoolLemmas.{granted_given, pools_noted, pools_same}
use Rattle.rtc_channels.proofs.channel_handler.ChannelHandler.give_at.Goals as goal

pub index-requires : goal.index-requires
index-requires c =
    let within = bare_within c.self.inside.given 0 c.self.inside.rows.items c.self.inside.kept.items c.self.inside.grants c.self.invariant.handled c.args.self.now c.self.view_is c.args.place c.requires.bare in
    grind (arith, common_steps, within)

pub index_mut-requires : goal.index_mut-requires
index_mut-requires c =
    let within = bare_within c.self.inside.given 0 c.self.inside.rows.items c.self.inside.kept.items c.self.inside.grants c.self.invariant.handled c.args.self.now c.self.view_is c.args.place c.requires.bare in
    grind (arith, common_steps, within)

pub invariant_of-self : goal.invariant_of-self
invariant_of-self c = record {
  handled =
      handled_held c.self.inside.given c.self.inside.rows.items c.self.inside.kept.items c.self.inside.grants c.self.invariant.handled c.give.new.grants (λ q. same_owner c.self.inside.grants c.give.new.grants q c.in_err-give.ensures.refused)
      (omega (arith, ap (λ (list : List ℕ). length list) (same_list c.self.inside.grants c.give.new.grants c.in_err-give.ensures.refused)));
  settled_first = c.self.invariant.settled_first;
  pools_are = pools_same c.self.inside.grants c.give.new.grants c.self.inside.pools c.in_err-give.ensures.refused c.self.invariant.pools_are;
}

pub returns-in_err-give-clause-refused : goal.returns-in_err-give-clause-refused
returns-in_err-give-clause-refused c =
    on_err c.from_residual.result (rw (same_list c.self.inside.grants c.give.new.grants c.in_err-give.ensures.refused) c.self.view_is)

pub invariant_of-self-2 : goal.invariant_of-self-2
invariant_of-self-2 c = record {
  pools_are = pools_noted c.self.inside.grants c.give.new.grants c.args.stream c.self.inside.pools c.note.new.self (search rules) (granted_given c.self.inside.grants c.give.new.grants c.args.stream c.index.result.now.0 c.in_ok-give.ensures.owner c.in_ok-give.ensures.holds) c.self.invariant.pools_are c.note.ensures.client c.note.ensures.server;
  settled_first = settled_given c.self.inside.settled c.self.inside.rows.items c.self.inside.kept.items c.args.place _ _ c.self.invariant.settled_first;
  handled =
      handled_give c.self.inside.given 0 c.self.inside.rows.items c.self.inside.kept.items c.self.inside.grants c.self.invariant.handled c.args.self.now c.self.view_is
      c.give.new.grants c.args.stream c.args.place c.index_mut.result.now c.index_mut.ensures.value c.requires.bare c.requires.free
      (λ q. c.in_ok-give.ensures.owner q
      ∙ ap (λ (row : ℕ × Option ℕ). cond (q == c.args.stream) (Some row.0) (owner_at c.self.inside.grants q))
      (same_row c.self.inside.rows.items c.args.place c.index.result.now c.index_mut.result.now
      (bare_within c.self.inside.given 0 c.self.inside.rows.items c.self.inside.kept.items c.self.inside.grants c.self.invariant.handled c.args.self.now c.self.view_is c.args.place c.requires.bare)
      c.index.ensures c.index_mut.ensures.value))
      c.in_ok-give.ensures.holds;
}

pub returns-clause-given : goal.returns-clause-given
returns-clause-given c =
    give_view c.self.inside.given 0 c.self.inside.rows.items c.self.inside.kept.items c.self.inside.grants c.self.invariant.handled c.args.self.now c.self.view_is
    c.give.new.grants c.args.stream c.args.place c.index_mut.result.now c.index_mut.ensures.value c.requires.bare c.requires.free (record { negotiated = None; config = None; confirmed = false }) c.in_ok-give.ensures.holds

pub returns-clause-behind : goal.returns-clause-behind
returns-clause-behind c k less =
    set_behind c.self.inside.rows.items c.self.inside.kept.items c.args.place k _ less ∙ ap (λ (held : Channels). slice_get held.rows k) c.self.view_is

pub returns-clause-count : goal.returns-clause-count
returns-clause-count c =
    give_count c.self.inside.given 0 c.self.inside.rows.items c.self.inside.kept.items c.self.inside.grants c.self.invariant.handled c.args.self.now c.self.view_is
    c.give.new.grants c.args.stream c.args.place c.index_mut.result.now c.index_mut.ensures.value c.requires.bare c.requires.free
