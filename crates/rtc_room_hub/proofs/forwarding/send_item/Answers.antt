use Rattle.std.proofs.Common.{rules}
use Rattle.rtc_room_hub.proofs.SentQueues.{sends_one}
use Rattle.rtc_room_hub.proofs.forwarding.send_item.Goals as goal

pub returns : goal.returns
returns c =
    sends_one c.args.line c.args.item.now c.in_ok-bytes.bytes c.args.pair.now c.perform-reply.new.self c.perform-reply.result c.sent_in_outcome.result c.in_ok-bytes.ensures
    c.perform-reply.ensures.performs (search rules) c.sent_in_outcome.ensures
