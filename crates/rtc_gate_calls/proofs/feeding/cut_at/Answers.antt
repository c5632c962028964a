use Rattle.rtc_gate_calls.specs.Delivering.{cut_to}
use Rattle.rtc_gate_calls.proofs.ConnectionLemmas.{write_at}
use Rattle.rtc_gate_calls.proofs.feeding.cut_at.Goals as goal

pub returns : goal.returns
returns c = write_at (cut_to c.args.count) c.args.connections.now c.args.sender.now.place c.args.sender.now.number c.index-connections-sender.result c.forget.new.self c.requires c.forget.ensures
