use Rattle.std.proofs.Common.{◌≡◌, drop}
use Rattle.rtc_change.specs.PendingOffer.{staged_restart}
use Rattle.rtc_change.proofs.changes.find_restart.Given as goal

abbrev pub invariant-loop-change : goal.invariant-loop-change
invariant-loop-change l = staged_restart (drop l.change-index l.changes) ≡ staged_restart l.changes
