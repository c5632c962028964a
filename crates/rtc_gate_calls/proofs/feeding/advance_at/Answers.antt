use Rattle.rtc_gate_calls.specs.Delivering.{advanced}
use Rattle.rtc_gate_calls.proofs.ConnectionLemmas.{write_at}
use Rattle.rtc_gate_calls.proofs.feeding.advance_at.Goals as goal

pub returns : goal.returns
returns c = write_at (advanced c.args.size c.args.stuck) c.args.connections.now c.args.sender.now.place c.args.sender.now.number c.index-connections-sender.result c.advance.new.self c.requires.there c.advance.ensures
