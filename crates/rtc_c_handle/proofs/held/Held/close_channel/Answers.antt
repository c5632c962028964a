use Rattle.std.proofs.Common.{ℕ, refl, subst}
use Rattle.rtc.specs.PlainPeers.{memory_parts}
use Rattle.rtc_peer_transport.specs.ChannelCalls.{ClosesDataChannel}
use Rattle.rtc_peer.specs.CachedPeer.{polled_of}
use Rattle.rtc_c_handle.proofs.held.Held.close_channel.Goals as goal

pub returns : goal.returns
returns c = record {
  returned = c.close_data_channel-returned.result;
  called = subst (λ (id : ℕ). ClosesDataChannel memory_parts id (polled_of c.args.self.now.rtc) c.close_data_channel-returned.result (polled_of c.close_data_channel-returned.new.self)) c.new.ensures c.close_data_channel-returned.ensures;
  is_returned = c.memory_status.ensures;
  others = refl;
}
