use Rattle.std.proofs.Common.{◌≡◌, ◌+◌, ◌-◌, ◌<◌, ◌∷◌, drop, arith, sym, ap, subst, ◌∙◌}
use Rattle.std.proofs.Math.Seq.{drop-drop}
use Rattle.rtc_assoc_state.specs.Amounts.{Agree}
use Rattle.rtc_assoc_state.specs.Settling.{settled, told_of, item_settled}
use Rattle.rtc_assoc_state.proofs.SettlingLemmas.{settled-step}
use Rattle.rtc_assoc_state.proofs.settling.settle.Goals as goal

pub loop-preserved : goal.loop-preserved
loop-preserved c = record {
  told =
      let left : 0 < c.args.count - c.loop.counter = omega arith in
      let fewer : c.args.count - (c.loop.counter + 1) ≡ c.args.count - c.loop.counter - 1 = omega arith in
      let agreed : Agree c.loop.amounts (c.in-Some.item ∷ c.pop_front.new.self.items) = subst (λ items. Agree c.loop.amounts items) c.in-Some.ensures.items c.loop.invariant.agree in
      ap (λ t. settled (c.args.count - (c.loop.counter + 1)) c.pop_front.new.self.items t) (c.settle_item.ensures.told c.pop_front.new.self.items agreed)
      ∙ ap (λ n. settled n c.pop_front.new.self.items (item_settled c.in-Some.item c.pop_front.new.self.items (told_of c.loop.streams.rows.items c.loop.events.items))) fewer
      ∙ sym (settled-step (c.args.count - c.loop.counter) c.loop.items.items c.pop_front.new.self.items c.in-Some.item (told_of c.loop.streams.rows.items c.loop.events.items) left c.in-Some.ensures.items)
      ∙ c.loop.invariant.told;
  items = c.in-Some.ensures.rest ∙ ap (drop 1) c.loop.invariant.items ∙ drop-drop 1 c.loop.counter c.args.items.now.items;
  left = omega (arith, c.in-Some.ensures.len, c.loop.invariant.left);
  agree = c.settle_item.ensures.agree c.pop_front.new.self.items (subst (λ items. Agree c.loop.amounts items) c.in-Some.ensures.items c.loop.invariant.agree);
  sound = c.settle_item.ensures.sound;
  room = omega (arith, c.loop.invariant.room, c.settle_item.ensures.len, c.settle_item.ensures.capacity);
}
