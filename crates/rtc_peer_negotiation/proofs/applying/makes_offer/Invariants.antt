use Rattle.std.proofs.Common.{◌≡◌, drop}
use Rattle.rtc_change.specs.PendingOffer.{do_offer}
use Rattle.rtc_peer_negotiation.proofs.applying.makes_offer.Given as goal

-- the changes that are left make an offer where all do
abbrev pub invariant-loop-change : goal.invariant-loop-change
invariant-loop-change l = do_offer (drop l.change-index l.changes) ≡ do_offer l.changes
