use Rattle.std.proofs.Common.{◌≡◌, ◌-◌, drop, length}
use Rattle.rtc_channels.specs.Kept.{channels_of}
use Rattle.rtc_channels.specs.Openings.{can_open}
use Rattle.rtc_channels.proofs.progress.any_ready.Given as goal

abbrev pub invariant-places : goal.invariant-places
invariant-places l = can_open (drop l.place (channels_of l.rows l.kept)) ≡ can_open (drop l.from (channels_of l.rows l.kept))

abbrev pub decreases-places : goal.decreases-places
decreases-places l = length l.rows - l.place
