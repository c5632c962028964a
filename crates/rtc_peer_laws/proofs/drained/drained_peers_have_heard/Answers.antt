use Rattle.rtc_peer_core.specs.Meanings.{meanings}
use Rattle.rtc_peer_laws.proofs.HeardPolls.{timeout_heard}
use Rattle.rtc_peer_laws.proofs.drained.drained_peers_have_heard.Goals as goal

pub returns : goal.returns
returns g c = λ p q moment first live none. timeout_heard (meanings g.I.IceAgent.ice g.D.DtlsInstance.dtls g.S.Association.association g.M.MediaSession.media g.N.Ids.ids) (record { ice = g.met.I.IceAgent.laws; dtls = g.met.D.DtlsInstance.laws; association = g.met.S.Association.laws; media = g.met.M.MediaSession.laws }) p q moment first live none
