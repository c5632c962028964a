use Rattle.std.proofs.Common.{arith}
use Rattle.rtc_sctp_values.proofs.BitLemmas.{none_past, of_one}
use Rattle.rtc_sctp_values.proofs.stream_set.top_from.Goals as goal

pub returns-then-from-ge64 : goal.returns-then-from-ge64
returns-then-from-ge64 c = none_past c.args.top.now c.args.from 1 c.requires (omega arith)

pub returns : goal.returns
returns c = of_one c.args.top.now c.args.from _ c.requires (omega arith) c.bit_behind.ensures
