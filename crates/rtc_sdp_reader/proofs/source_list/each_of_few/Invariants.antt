use Rattle.std.proofs.Common.{◌≡◌, take, eqb}
use Rattle.rtc_wire_text.specs.Once.{each_once}
use Rattle.rtc_sdp_reader.proofs.source_list.each_of_few.Given as goal

abbrev pub invariant-loop-number : goal.invariant-loop-number
invariant-loop-number l = l.once.items ≡ each_once eqb (take l.number-index l.numbers)
