use Rattle.std.proofs.Common.{◌∙◌, ◌<◌, sym, ap, arith, rules, length, ℕ, List, Option}
use Rattle.rtc_channels.specs.Kept.{place_of_channel}
use Rattle.rtc_channels.proofs.PlaceLemmas.{handled_ascending}
use Rattle.rtc_channels.proofs.HandledLemmas.{handled_gone}
use Rattle.rtc_channels.proofs.HoldLemmas.{owned_at, times_within, removed_none, removed_bare, removed_owner, handled_owner}
use Rattle.rtc_channels.proofs.SettledLemmas.{settled_gone}
use Rattle.rtc_channels.proofs.PoolLemmas.{granted_released, pools_noted}
use Rattle.rtc_channels.proofs.channel_handler.ChannelHandler.remove_channel.Goals as goal

pub find_place-requires : goal.find_place-requires
find_place-requires c = rw c.as_slice.ensures.value (handled_ascending c.self.inside.rows.items c.self.inside.kept.items c.self.invariant.handled.paired)

pub returns-in_default : goal.returns-in_default
returns-in_default c =
    removed_none c.self.inside.given c.args.id c.self.inside.rows.items c.self.inside.kept.items c.self.inside.grants c.self.invariant.handled c.args.reset_pending c.args.self.now c.self.view_is
    (ap (λ (rows : List (ℕ × Option ℕ)). place_of_channel 0 c.args.id rows) (sym c.as_slice.ensures.value) ∙ (sym c.find_place.ensures.place ∙ c.in_default.is))

pub release-requires-clause-owned : goal.release-requires-clause-owned
release-requires-clause-owned c =
    owned_at c.self.inside.grants c.self.inside.rows.items c.in-Some-1₀.stream c.in-Some.place c.remove-row.result c.self.invariant.handled.owners (search rules)
    (ap (λ (row : ℕ × Option ℕ). row.1) (sym c.remove-row.ensures.value) ∙ c.in-Some-1₀.is)

pub release-requires-clause-few : goal.release-requires-clause-few
release-requires-clause-few c =
    let times = times_within c.self.inside.grants c.in-Some-1₀.stream (search rules) in
    let rows : c.in-Some.place < length c.self.inside.rows.items = search rules in
    omega (arith, times, rows, c.self.invariant.handled.count)

pub invariant_of-self-in-None : goal.invariant_of-self-in-None
invariant_of-self-in-None c =
    rw (c.remove-row.ensures.items, c.remove.ensures.items)
    (record {
      pools_are = c.self.invariant.pools_are;
      settled_first = settled_gone c.self.inside.settled c.settled_without-self-inside.result c.self.inside.rows.items c.self.inside.kept.items c.in-Some.place c.settled_without-self-inside.ensures.less c.settled_without-self-inside.ensures.same c.self.invariant.settled_first;
      handled =
          handled_gone c.self.inside.given c.self.inside.rows.items c.self.inside.kept.items c.self.inside.grants c.self.invariant.handled c.args.id c.in-Some.place c.remove-row.result (search rules)
          (ap (λ (rows : List (ℕ × Option ℕ)). place_of_channel 0 c.args.id rows) (sym c.as_slice.ensures.value) ∙ (sym c.find_place.ensures.place ∙ c.in-Some.is))
          (ap (λ (row : ℕ × Option ℕ). row.1) (sym c.remove-row.ensures.value) ∙ c.in-None.is);
    })

pub returns-in-None : goal.returns-in-None
returns-in-None c =
    rw (c.remove-row.ensures.items, c.remove.ensures.items)
    (removed_bare c.self.inside.given c.args.id c.self.inside.rows.items c.self.inside.kept.items c.self.inside.grants c.self.invariant.handled c.args.reset_pending c.in-Some.place c.remove-row.result (search rules)
    (ap (λ (rows : List (ℕ × Option ℕ)). place_of_channel 0 c.args.id rows) (sym c.as_slice.ensures.value) ∙ (sym c.find_place.ensures.place ∙ c.in-Some.is)) c.args.self.now c.self.view_is
    (ap (λ (row : ℕ × Option ℕ). row.1) (sym c.remove-row.ensures.value) ∙ c.in-None.is))

pub invariant_of-self : goal.invariant_of-self
invariant_of-self c =
    rw (c.remove-row.ensures.items, c.remove.ensures.items)
    (record {
      pools_are = pools_noted c.self.inside.grants c.release.new.grants c.in-Some-1₀.stream c.self.inside.pools c.note.new.self (search rules) (granted_released c.self.inside.grants c.release.new.grants c.in-Some-1₀.stream c.args.reset_pending c.release.ensures.owner c.release.ensures.holds) c.self.invariant.pools_are c.note.ensures.client c.note.ensures.server;
      settled_first = settled_gone c.self.inside.settled c.settled_without-self-inside.result c.self.inside.rows.items c.self.inside.kept.items c.in-Some.place c.settled_without-self-inside.ensures.less c.settled_without-self-inside.ensures.same c.self.invariant.settled_first;
      handled =
          handled_owner c.self.inside.given c.args.id c.self.inside.rows.items c.self.inside.kept.items c.self.inside.grants c.self.invariant.handled c.args.reset_pending c.in-Some.place c.remove-row.result (search rules)
          (ap (λ (rows : List (ℕ × Option ℕ)). place_of_channel 0 c.args.id rows) (sym c.as_slice.ensures.value) ∙ (sym c.find_place.ensures.place ∙ c.in-Some.is)) c.release.new.grants c.in-Some-1₀.stream
          (ap (λ (row : ℕ × Option ℕ). row.1) (sym c.remove-row.ensures.value) ∙ c.in-Some-1₀.is) (search rules) c.release.ensures.owner c.release.ensures.holds;
    })

pub returns-in-Some-1₀ : goal.returns-in-Some-1₀
returns-in-Some-1₀ c =
    rw (c.remove-row.ensures.items, c.remove.ensures.items)
    (removed_owner c.self.inside.given c.args.id c.self.inside.rows.items c.self.inside.kept.items c.self.inside.grants c.self.invariant.handled c.args.reset_pending c.in-Some.place c.remove-row.result (search rules)
    (ap (λ (rows : List (ℕ × Option ℕ)). place_of_channel 0 c.args.id rows) (sym c.as_slice.ensures.value) ∙ (sym c.find_place.ensures.place ∙ c.in-Some.is)) c.args.self.now c.release.new.grants c.in-Some-1₀.stream c.self.view_is
    (ap (λ (row : ℕ × Option ℕ). row.1) (sym c.remove-row.ensures.value) ∙ c.in-Some-1₀.is) (search rules) c.release.ensures.holds)
