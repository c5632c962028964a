use Rattle.std.proofs.Common.{sym, rules}
use Rattle.rtc_room_hub.proofs.SentQueues.{forwards_nothing, forwards_out, forwards_to}
use Rattle.rtc_room_hub.proofs.forwarding.forward.Goals as goal

pub returns-then-is_put_out : goal.returns-then-is_put_out
returns-then-is_put_out c = forwards_out _ _ c.args.member.now c.args.pair.now (search rules)

pub returns-in-None : goal.returns-in-None
returns-in-None c = forwards_nothing _ _ c.args.member.now c.args.pair.now (search rules) (sym c.in-None.ensures)

pub returns-in-Some : goal.returns-in-Some
returns-in-Some c =
    forwards_to c.args.member.now.is_put_out c.args.member.now.line c.in-Some.line c.args.member.now c.send_queue.new.member c.args.pair.now c.send_queue.new.pair c.send_queue.result
    (search rules) (sym c.in-Some.ensures) c.send_queue.ensures
