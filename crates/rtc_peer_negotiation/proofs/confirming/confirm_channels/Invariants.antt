use Rattle.std.proofs.Common.{◌≡◌}
use Rattle.rtc_channels.specs.Channels.{all_confirmed}
use Rattle.rtc_peer_core.specs.Calls.{fitting_channels}
use Rattle.rtc_peer_negotiation.proofs.confirming.confirm_channels.Given as goal

-- those of the changes so far are confirmed
abbrev pub invariant-loop-change : goal.invariant-loop-change
invariant-loop-change l = l.channels ≡ all_confirmed (fitting_channels l.yielded) l.initial.channels
