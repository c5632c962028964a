use Rattle.std.proofs.Common.{subst}
use Rattle.rtc_wire.specs.declared.addr.Addr.{Addr}
use Rattle.rtc_config.specs.RtcConfig.{PeerConfig}
use Rattle.rtc.specs.PlainPeers.{IsPlainPeer}
use Rattle.rtc_c_handle.specs.Settings.{addr_of}
use Rattle.rtc_c_handle.proofs.held.Held.build.Goals as goal

pub returns-clause-peer : goal.returns-clause-peer
returns-clause-peer c =
    subst (λ (config : PeerConfig). IsPlainPeer c.args.alloc config c.args.settings.now.first (addr_of c.args.settings.now.address) c.in_ok-rtc.rtc.core) c.in_ok-config.ensures
    (subst (λ (addr : Addr). IsPlainPeer c.args.alloc c.in_ok-config.config c.args.settings.now.first addr c.in_ok-rtc.rtc.core) c.addr.ensures c.in_ok-rtc.ensures.peer)
