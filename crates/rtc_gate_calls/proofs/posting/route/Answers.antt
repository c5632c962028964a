use Rattle.std.proofs.Common.{sym, ◌∙◌}
use Rattle.rtc_gate_calls.proofs.ConnectionLemmas.{named_is_here}
use Rattle.rtc_gate_calls.proofs.posting.route.Goals as goal

pub unreachable-requires : goal.unreachable-requires
unreachable-requires c = named_is_here c.args.connections.now c.args.frame.now.name c.in-Some.number.now (sym (c.requires.can.index c.args.frame.now.name) ∙ sym c.in-Some.ensures.value) c.in_default-place_of.ensures.none
