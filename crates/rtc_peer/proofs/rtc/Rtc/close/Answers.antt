use Rattle.std.proofs.Common.{ap, subst}
use Rattle.rtc_peer_core.specs.Meanings.{meanings}
use Rattle.rtc_peer_transport.specs.declared.polled_peer.PolledPeer.{PolledPeer}
use Rattle.rtc_peer.specs.CachedPeer.{CachedPeer, polled_of}
use Rattle.rtc_peer_transport.specs.Closing.{ClosesPeer}
use Rattle.rtc_peer.proofs.rtc.Rtc.close.Goals as goal

pub returns : goal.returns
returns g c = subst (λ (p : PolledPeer g.row.I.Denot g.row.D.Denot g.row.S.Denot g.row.M.Denot g.row.N.Denot). ClosesPeer (meanings g.I.IceAgent.ice g.D.DtlsInstance.dtls g.S.Association.association g.M.MediaSession.media g.N.Ids.ids) p c.close.result c.close.new.self) (ap (λ (x : CachedPeer g.row.I.Denot g.row.D.Denot g.row.S.Denot g.row.M.Denot g.row.N.Denot). polled_of x) c.self.view_is) c.close.ensures
