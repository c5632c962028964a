use Rattle.std.proofs.Common.{ap, refl, sym, ◌∙◌}
use Rattle.rtc_c_handle.specs.Calls.{HasNoRole, IsEmptied}
use Rattle.rtc_c_handle.specs.declared.slot.Slot.{Slot}
use Rattle.rtc_c_handle.proofs.Placed.{has_one, is_none}
use Rattle.rtc_c_handle.proofs.calls.new_peer.Goals as goal

pub returns-then-is_full : goal.returns-then-is_full
returns-then-is_full c = has_one c.args.alloc c.args.settings.now c.args.slot.now.handle.value _ (sym c.if-is_full.ensures.full) (ap (λ (slot : Slot). slot.handle.value) c.is_full.ensures.kept)

pub put_peer-requires : goal.put_peer-requires
put_peer-requires c = ap (λ (slot : Slot). slot.handle.value) c.is_full.ensures.kept ∙ is_none c.args.slot.now.handle.value (sym c.if-is_full.ensures.full)

pub returns-in-Some : goal.returns-in-Some
returns-in-Some c = IsEmptied c.in-Some.role (is_none c.args.slot.now.handle.value (sym c.if-is_full.ensures.full)) (sym c.in-Some.ensures) c.put_peer.ensures

pub returns-in-None : goal.returns-in-None
returns-in-None c = HasNoRole (is_none c.args.slot.now.handle.value (sym c.if-is_full.ensures.full)) (sym c.in-None.ensures) refl (ap (λ (slot : Slot). slot.handle.value) c.is_full.ensures.kept ∙ is_none c.args.slot.now.handle.value (sym c.if-is_full.ensures.full))
