use Rattle.std.proofs.Common.{ap, subst}
use Rattle.rtc_peer_core.specs.Meanings.{meanings}
use Rattle.rtc_peer_transport.specs.declared.polled_peer.PolledPeer.{PolledPeer}
use Rattle.rtc_peer.specs.CachedPeer.{CachedPeer, polled_of}
use Rattle.rtc_peer_polling.specs.Inputs.{HandlesInput}
use Rattle.rtc_peer.proofs.rtc.Rtc.handle_input.Goals as goal

pub returns : goal.returns
returns g c = subst (λ (p : PolledPeer g.row.I.Denot g.row.D.Denot g.row.S.Denot g.row.M.Denot g.row.N.Denot). HandlesInput (meanings g.I.IceAgent.ice g.D.DtlsInstance.dtls g.S.Association.association g.M.MediaSession.media g.N.Ids.ids) c.args.input.now p c.handle_input.result c.handle_input.new.peer) (ap (λ (x : CachedPeer g.row.I.Denot g.row.D.Denot g.row.S.Denot g.row.M.Denot g.row.N.Denot). polled_of x) c.self.view_is) c.handle_input.ensures
