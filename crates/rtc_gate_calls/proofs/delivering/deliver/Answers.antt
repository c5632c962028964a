use Rattle.std.proofs.Common.{◌≡◌, length, arith}
use Rattle.rtc_gate_calls.proofs.ParcelLemmas.{deliver_one, all_delivered}
use Rattle.rtc_gate_calls.proofs.delivering.deliver.Goals as goal

pub loop-delivery-preserved : goal.loop-delivery-preserved
loop-delivery-preserved c = deliver_one _ _ _ _ c.in-Some.delivery c.index-connections-place.result _ c.in-Some.ensures.items c.loop-delivery.invariant.1 c.loop-delivery.invariant.0 c.receive.ensures

pub returns : goal.returns
returns c =
    let none : length c.loop-delivery.deliveries.items ≡ 0 = grind (arith, c.in_default.ensures.cases.0) in
    all_delivered _ _ _ none c.loop-delivery.invariant.0
