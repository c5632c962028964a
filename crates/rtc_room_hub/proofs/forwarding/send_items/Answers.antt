use Rattle.std.proofs.Common.{arith}
use Rattle.rtc_room_hub.proofs.SentSoFar.{sent_all, sent_more, sent_none, sent_refused, sent_size, sent_waits}
use Rattle.rtc_room_hub.proofs.forwarding.send_items.Goals as goal

pub loop-taken-init : goal.loop-taken-init
loop-taken-init c = record { few = omega arith; sent = sent_none _ _ _ }

pub send_item-requires : goal.send_item-requires
send_item-requires c =
    let size = sent_size _ _ _ _ _ c.loop-taken.invariant.sent in
    omega (arith, size, c.requires, c.loop-taken-test.true)

pub loop-taken-preserved : goal.loop-taken-preserved
loop-taken-preserved c =
    record {
      few = omega (arith, c.loop-taken-test.true);
      sent = sent_more _ _ _ _ _ _ _ _ c.loop-taken-test.true c.index-items-taken.is c.loop-taken.invariant.sent c.in_ok-sent.ensures c.in-Taken.is;
    }

pub returns-in-Waits-clause-sends : goal.returns-in-Waits-clause-sends
returns-in-Waits-clause-sends c = sent_waits _ _ _ _ _ _ _ _ c.loop-taken-test.true c.index-items-taken.is c.loop-taken.invariant.sent c.in_ok-sent.ensures c.in-Waits.is

pub returns-in-Refused-clause-sends : goal.returns-in-Refused-clause-sends
returns-in-Refused-clause-sends c = sent_refused _ _ _ _ _ _ _ _ c.loop-taken-test.true c.index-items-taken.is c.loop-taken.invariant.sent c.in_ok-sent.ensures c.in-Refused.is

pub returns-clause-sends : goal.returns-clause-sends
returns-clause-sends c = sent_all _ _ _ _ _ c.loop-taken.invariant.few (omega (arith, c.loop-taken-test.false)) c.loop-taken.invariant.sent
