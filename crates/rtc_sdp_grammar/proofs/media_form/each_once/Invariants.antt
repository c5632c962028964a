use Rattle.std.proofs.Common.{◌≡◌, take, eqb}
use Rattle.rtc_wire_text.specs.Once.{each_once}
use Rattle.rtc_sdp_grammar.proofs.media_form.each_once.Given as goal

abbrev pub invariant-loop-number : goal.invariant-loop-number
invariant-loop-number l = l.once.items ≡ each_once eqb (take l.number-index l.numbers)
