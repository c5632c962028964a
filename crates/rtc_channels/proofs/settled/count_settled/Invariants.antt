use Rattle.std.proofs.Common.{◌-◌, length}
use Rattle.rtc_channels.specs.Kept.{channels_of}
use Rattle.rtc_channels.specs.Settled.{AreSettled}
use Rattle.rtc_channels.proofs.settled.count_settled.Given as goal

abbrev pub invariant-places : goal.invariant-places
invariant-places l = AreSettled l.count (channels_of l.rows l.kept)

abbrev pub decreases-places : goal.decreases-places
decreases-places l = length l.rows - l.count
