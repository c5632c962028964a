use Rattle.std.proofs.Common.{◌∙◌, ap}
use Rattle.std.specs.Prelude.{slice_get}
use Rattle.rtc_gate_calls.specs.GateState.{ConnectionState}
use Rattle.rtc_gate_calls.proofs.ConnectionLemmas.{got, write_at}
use Rattle.rtc_gate_calls.proofs.GateLemmas.{queue_left, left_is}
use Rattle.rtc_gate_calls.proofs.acting.next_at.Goals as goal

pub returns-clause-left : goal.returns-clause-left
returns-clause-left c = λ number at. write_at queue_left c.args.connections.now c.args.place number c.index-connections-place.result c.next.new.self at c.next.ensures.left ∙ left_is number c.args.connections.now

pub returns-clause-frame : goal.returns-clause-frame
returns-clause-frame c = λ conn at. c.next.ensures.frame ∙ ap (λ (d : ConnectionState). slice_get d.queue 0) (got c.args.connections.now c.args.place conn _ at)
