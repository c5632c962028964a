use Rattle.std.proofs.Common.{Option, sym, subst}
use Rattle.rtc_peer_core.specs.Meanings.{meanings}
use Rattle.rtc_peer_transport.specs.declared.send_addr.SendAddr.{SendAddr}
use Rattle.rtc_peer_polling.specs.SendStages.{SendsBy}
use Rattle.rtc_peer_transport.specs.Stages.{Stopped, WentOn}
use Rattle.rtc_peer_polling.proofs.sending.send_by_pair.Goals as goal

pub returns-in_default-send_dtls : goal.returns-in_default-send_dtls
returns-in_default-send_dtls g c =
    let m = meanings g.I.IceAgent.ice g.D.DtlsInstance.dtls g.S.Association.association g.M.MediaSession.media g.N.Ids.ids in
    subst (λ (a : Option SendAddr). SendsBy m a c.args.peer.now c.send_dtls.result c.send_dtls.new.peer) (sym c.in-Some.is)
    (Stopped c.in_default-send_dtls.not-Nothing c.send_dtls.ensures)

pub returns : goal.returns
returns g c =
    let m = meanings g.I.IceAgent.ice g.D.DtlsInstance.dtls g.S.Association.association g.M.MediaSession.media g.N.Ids.ids in
    subst (λ (a : Option SendAddr). SendsBy m a c.args.peer.now c.send_media.result c.send_media.new.peer) (sym c.in-Some.is)
    (WentOn _ c.in-Nothing.ensures c.send_media.ensures)
