use Rattle.std.proofs.Common.{◌≡◌, ◌≤◌, ◌-◌, drop}
use Rattle.std.specs.List.{list_any}
use Rattle.rtc_channels.specs.Ids.{parity_of}
use Rattle.rtc_channels.specs.Allocation.{can_be_given}
use Rattle.rtc_channels.proofs.channel_handler.ChannelHandler.can_give.Given as goal

abbrev pub invariant-places : goal.invariant-places
invariant-places l = record {
  within : l.place ≤ l.count;
  left : list_any (can_be_given (parity_of l.client) l.self) (drop l.place l.self.rows) ≡ list_any (can_be_given (parity_of l.client) l.self) l.self.rows;
}

abbrev pub decreases-places : goal.decreases-places
decreases-places l = l.count - l.place
