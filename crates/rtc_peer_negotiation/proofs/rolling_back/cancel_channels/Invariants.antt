use Rattle.std.proofs.Common.{◌≡◌, drop}
use Rattle.rtc_change.specs.PendingOffer.{new_channels}
use Rattle.rtc_channels.specs.Holds.{all_cancelled}
use Rattle.rtc_peer_negotiation.proofs.rolling_back.cancel_channels.Given as goal

-- the changes that are left to cancel leave the channels that all of them leave
abbrev pub invariant-loop-change : goal.invariant-loop-change
invariant-loop-change l =
    all_cancelled (new_channels (drop l.change-index l.changes)) l.channels ≡ all_cancelled (new_channels l.changes) l.initial.channels
