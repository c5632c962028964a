use Rattle.rtc_peer_core.specs.Meanings.{meanings}
use Rattle.rtc_peer_laws.proofs.ToldHandshakes.{polls_told}
use Rattle.rtc_peer_laws.proofs.Drains.{output_falls, poll_unset, puts_fewer}
use Rattle.rtc_peer_laws.proofs.weight.outputs_lower_weight.Goals as goal

pub returns-clause-polls : goal.returns-clause-polls
returns-clause-polls g c = λ p q output h k. output_falls (meanings g.I.IceAgent.ice g.D.DtlsInstance.dtls g.S.Association.association g.M.MediaSession.media g.N.Ids.ids) (record { ice = g.met.I.IceAgent.laws; dtls = g.met.D.DtlsInstance.laws; association = g.met.S.Association.laws; media = g.met.M.MediaSession.laws }) p q output h k

pub returns-clause-thresholds : goal.returns-clause-thresholds
returns-clause-thresholds g c = λ p q answer h k. poll_unset (meanings g.I.IceAgent.ice g.D.DtlsInstance.dtls g.S.Association.association g.M.MediaSession.media g.N.Ids.ids) (record { ice = g.met.I.IceAgent.laws; dtls = g.met.D.DtlsInstance.laws; association = g.met.S.Association.laws; media = g.met.M.MediaSession.laws }) p q answer h k

pub returns-clause-drains : goal.returns-clause-drains
returns-clause-drains g c = λ p q outputs h told k. puts_fewer (meanings g.I.IceAgent.ice g.D.DtlsInstance.dtls g.S.Association.association g.M.MediaSession.media g.N.Ids.ids) (record { ice = g.met.I.IceAgent.laws; dtls = g.met.D.DtlsInstance.laws; association = g.met.S.Association.laws; media = g.met.M.MediaSession.laws }) outputs p q h told k

pub returns-clause-handshakes : goal.returns-clause-handshakes
returns-clause-handshakes g c = λ p q answer told h. polls_told (meanings g.I.IceAgent.ice g.D.DtlsInstance.dtls g.S.Association.association g.M.MediaSession.media g.N.Ids.ids) p q answer told h
