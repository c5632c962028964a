use Rattle.rtc_gate_calls.specs.Delivering.{with_piece}
use Rattle.rtc_gate_calls.proofs.ConnectionLemmas.{write_at}
use Rattle.rtc_gate_calls.proofs.feeding.keep_at.Goals as goal

pub returns-clause-ok : goal.returns-clause-ok
returns-clause-ok c = write_at (with_piece c.args.piece.now) c.args.connections.now c.args.sender.now.place c.args.sender.now.number c.index-connections-sender.result c.keep.new.self c.requires c.in_ok-keep.ensures.ok
