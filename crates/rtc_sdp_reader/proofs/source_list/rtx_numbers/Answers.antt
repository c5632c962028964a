use Rattle.std.proofs.Common.{get_or, refl}
use Rattle.rtc_sdp_reader.proofs.NumberLemmas.{rtx_more}
use Rattle.rtc_sdp_reader.proofs.source_list.rtx_numbers.Goals as goal

pub loop-i-preserved : goal.loop-i-preserved
loop-i-preserved c = rtx_more c.args.pairs.now c.loop-i.i c.loop-i.found c.insert.new.self (record { 0 = 0 }, record { 0 = 0 }) (get_or c.args.pairs.now c.loop-i.i (record { 0 = 0 }, record { 0 = 0 })) c.loop-i-test.true refl c.in_ok-insert.ensures.updates.0 c.loop-i.invariant
