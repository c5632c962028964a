use Rattle.std.proofs.Common.{◌≡◌, ◌≤◌, take, length, vec_capacity}
use Rattle.rtc_peer_core.specs.ChannelRows.{channel_rows}
use Rattle.rtc_run_steps.proofs.replying.fill_channels.Given as goal

abbrev pub invariant-loop-k : goal.invariant-loop-k
invariant-loop-k g l =
    record {
      filled : l.room.items ≡ take l.k (channel_rows g.S.Association.association l.rtc.core.sctp l.rtc.core.channels);
      count : length l.room.items ≡ l.k;
      room : l.most ≤ vec_capacity l.room;
    }
