use Rattle.std.proofs.Common.{◌≡◌, take}
use Rattle.rtc_assoc_state.specs.Pieces.{packets_from, ReadBack}
use Rattle.rtc_assoc_state.proofs.cut.packets_of.Given as goal

abbrev pub invariant-loop-i : goal.invariant-loop-i
invariant-loop-i l = record {
  made : l.packets.items ≡ packets_from l.acknowledged l.first (take l.i l.items.items);
  reads : ReadBack l.acknowledged l.first (take l.i l.items.items);
}
