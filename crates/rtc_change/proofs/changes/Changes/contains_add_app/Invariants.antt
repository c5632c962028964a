use Rattle.std.proofs.Common.{◌≡◌, drop}
use Rattle.rtc_change.specs.PendingOffer.{contains_add_app}
use Rattle.rtc_change.proofs.changes.Changes.contains_add_app.Given as goal

abbrev pub invariant-loop-change : goal.invariant-loop-change
invariant-loop-change l = contains_add_app (drop l.change-index l.change-items) ≡ contains_add_app l.change-items
