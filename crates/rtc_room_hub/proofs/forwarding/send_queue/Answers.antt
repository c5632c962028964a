use Rattle.std.proofs.Common.{rules}
use Rattle.rtc_room_hub.proofs.SentQueues.{forwards_refused, forwards_written}
use Rattle.rtc_room_hub.proofs.forwarding.send_queue.Goals as goal

pub returns-then-is_refused : goal.returns-then-is_refused
returns-then-is_refused c =
    forwards_refused c.args.line c.queue.result.now c.args.member.now c.put_out.new.self _ _ c.args.pair.now c.send_items.new.pair c.queue.ensures.items c.queue.ensures.few
    c.in_ok-sent.ensures.sends (search rules) c.put_out.ensures

pub returns : goal.returns
returns c =
    forwards_written c.args.line c.queue.result.now c.args.member.now c.take_off.new.self _ _ c.args.pair.now c.send_items.new.pair c.queue.ensures.items c.queue.ensures.few
    c.in_ok-sent.ensures.sends (search rules) c.in_ok-take_off.ensures
