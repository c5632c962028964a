use Rattle.rtc_sdp_reader.specs.Places.{AreFirst}
use Rattle.rtc_sdp_reader.proofs.layer_list.first_places.Given as goal

abbrev pub invariant-loop-i : goal.invariant-loop-i
invariant-loop-i l = AreFirst l.lines l.direction l.i l.found
