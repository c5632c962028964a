use Rattle.std.proofs.Common.{◌≡◌, drop}
use Rattle.rtc_change.specs.PendingOffer.{adds_mid}
use Rattle.rtc_change.proofs.changes.is_added.Given as goal

abbrev pub invariant-loop-change : goal.invariant-loop-change
invariant-loop-change l = adds_mid l.mid (drop l.change-index l.changes) ≡ adds_mid l.mid l.changes
