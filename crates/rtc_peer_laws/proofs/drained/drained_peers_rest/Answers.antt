use Rattle.rtc_peer_core.specs.Meanings.{meanings}
use Rattle.rtc_peer_laws.proofs.DrainedPolls.{polled_again, closed_again}
use Rattle.rtc_peer_laws.proofs.drained.drained_peers_rest.Goals as goal

pub returns-clause-again : goal.returns-clause-again
returns-clause-again g c = λ p q s moment answer first second. polled_again (meanings g.I.IceAgent.ice g.D.DtlsInstance.dtls g.S.Association.association g.M.MediaSession.media g.N.Ids.ids) (record { ice = g.met.I.IceAgent.laws; dtls = g.met.D.DtlsInstance.laws; association = g.met.S.Association.laws; media = g.met.M.MediaSession.laws }) p q s moment answer first second

pub returns-clause-closed : goal.returns-clause-closed
returns-clause-closed g c = λ p q s moment answer first closed second. closed_again (meanings g.I.IceAgent.ice g.D.DtlsInstance.dtls g.S.Association.association g.M.MediaSession.media g.N.Ids.ids) p q s moment answer first closed second
