use Rattle.std.proofs.Common.{◌≡◌, ◌≤◌, ◌-◌, length, take, ℕ}
use Rattle.std.specs.Prelude.{slice_get}
use Rattle.rtc_channels.specs.Ids.{parity_of}
use Rattle.rtc_channels.specs.Allocation.{all_allocated}
use Rattle.rtc_channels.proofs.channel_handler.ChannelHandler.do_allocations.Given as goal

abbrev pub invariant-places : goal.invariant-places
invariant-places l = record {
  within : l.place ≤ l.count;
  count : l.count ≡ length l.fn.self.rows;
  size : length l.self.rows ≡ length l.fn.self.rows;
  done : l.self ≡ all_allocated (parity_of l.client) (take l.place l.fn.self.rows) l.fn.self;
  rest : (k : ℕ) → l.place ≤ k → slice_get l.self.rows k ≡ slice_get l.fn.self.rows k;
}

abbrev pub decreases-places : goal.decreases-places
decreases-places l = l.count - l.place
