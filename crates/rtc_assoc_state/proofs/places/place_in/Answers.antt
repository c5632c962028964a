use Rattle.std.proofs.Common.{sym, ap, arith}
use Rattle.std.proofs.lemmas.Bool.Decides.{nat_tests}
use Rattle.rtc_assoc_state.specs.Places.{place_in_slot}
use Rattle.rtc_assoc_state.proofs.PlaceLemmas.{slot_past}
use Rattle.rtc_assoc_state.proofs.places.place_in.Goals as goal

pub returns-then-at-slots : goal.returns-then-at-slots
returns-then-at-slots c = sym (ap place_in_slot (slot_past c.args.slots.now c.args.at (grind (arith, nat_tests, c.if-at-slots.true))))
