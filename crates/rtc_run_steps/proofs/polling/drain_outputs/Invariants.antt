use Rattle.std.proofs.Common.{◌≡◌, ◌<◌, ◌≤◌, ◌+◌, length, vec_capacity, vec_len}
use Rattle.rtc_peer_core.specs.Meanings.{meanings}
use Rattle.rtc_peer.specs.CachedPeer.{polled_of}
use Rattle.rtc_run_steps.proofs.Drained.{DrainsLeft}
use Rattle.rtc_run_steps.proofs.polling.drain_outputs.Given as goal

-- each turn so far showed an output, and there is room for the next
abbrev pub invariant-loop-turn : goal.invariant-loop-turn
invariant-loop-turn g l =
    record {
      left : DrainsLeft (meanings g.I.IceAgent.ice g.D.DtlsInstance.dtls g.S.Association.association g.M.MediaSession.media g.N.Ids.ids) l.at (polled_of l.fn.rtc) l.fn.packets.items l.outputs.items (polled_of l.rtc) l.packets.items;
      count : length l.outputs.items ≡ l.turn;
      output : vec_len l.outputs < vec_capacity l.outputs;
      packet : vec_len l.packets < vec_capacity l.packets;
      lines : l.rtc.core.lines ≡ l.fn.rtc.core.lines;
      channel : length l.rtc.core.channels.rows + 1 ≤ vec_capacity l.channels;
      no_channels : l.channels.items ≡ l.fn.channels.items;
    }
