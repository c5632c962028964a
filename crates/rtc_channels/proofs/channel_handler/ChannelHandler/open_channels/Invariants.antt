use Rattle.std.proofs.Common.{◌≡◌, ◌≤◌, ◌-◌, length}
use Rattle.rtc_channels.proofs.OpeningLemmas.{OpensLeft}
use Rattle.rtc_channels.proofs.channel_handler.ChannelHandler.open_channels.Given as goal

abbrev pub invariant-places : goal.invariant-places
invariant-places g l = record {
  within : l.place ≤ l.count;
  size : length l.self.rows ≡ l.count;
  left : OpensLeft g.S.Association.association l.fn.self l.fn.sctp l.place l.self l.sctp;
}

abbrev pub decreases-places : goal.decreases-places
decreases-places g l = l.count - l.place
