use Rattle.std.proofs.Common.{sym, arith}
use Rattle.std.proofs.lemmas.List.{drop_all, take_rest}
use Rattle.rtc_assoc_state.proofs.header.content_of.Goals as goal

pub returns-then-packet-lt-DATA_OVERHEAD : goal.returns-then-packet-lt-DATA_OVERHEAD
returns-then-packet-lt-DATA_OVERHEAD c = sym (drop_all 28 c.args.packet.now (omega (arith, c.if-packet-lt-DATA_OVERHEAD.true)))

pub returns : goal.returns
returns c = take_rest c.args.packet.now 28
