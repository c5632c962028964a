use Rattle.rtc_peer_core.specs.Meanings.{meanings}
use Rattle.rtc_peer_laws.proofs.KeptPeers.{same_kept, calls_on}
use Rattle.rtc_peer_laws.proofs.KeptRollbacks.{leaves_of, rolled_back}
use Rattle.rtc_peer_laws.proofs.KeptStaging.{channel_added, applied}
use Rattle.rtc_peer_laws.proofs.kept.stagings_keep_streams.Goals as goal

pub returns-clause-channels : goal.returns-clause-channels
returns-clause-channels g c = λ p core config answer h. channel_added (meanings g.I.IceAgent.ice g.D.DtlsInstance.dtls g.S.Association.association g.M.MediaSession.media g.N.Ids.ids) p config answer core h

pub returns-clause-applies : goal.returns-clause-applies
returns-clause-applies g c = λ p core answer h. applied (meanings g.I.IceAgent.ice g.D.DtlsInstance.dtls g.S.Association.association g.M.MediaSession.media g.N.Ids.ids) p answer core h

pub returns-clause-others : goal.returns-clause-others
returns-clause-others g c = λ p q sctp channels closed. same_kept (meanings g.I.IceAgent.ice g.D.DtlsInstance.dtls g.S.Association.association g.M.MediaSession.media g.N.Ids.ids) p q (sctp, channels, closed)

pub returns-clause-joins : goal.returns-clause-joins
returns-clause-joins g c = λ p between q h k. calls_on (meanings g.I.IceAgent.ice g.D.DtlsInstance.dtls g.S.Association.association g.M.MediaSession.media g.N.Ids.ids) p between q h k

pub returns-clause-rollbacks : goal.returns-clause-rollbacks
returns-clause-rollbacks g c = λ p core token answer h. rolled_back (meanings g.I.IceAgent.ice g.D.DtlsInstance.dtls g.S.Association.association g.M.MediaSession.media g.N.Ids.ids) p token answer core h

pub returns-clause-leaves : goal.returns-clause-leaves
returns-clause-leaves g c = λ p q wrote h. leaves_of (meanings g.I.IceAgent.ice g.D.DtlsInstance.dtls g.S.Association.association g.M.MediaSession.media g.N.Ids.ids) p q wrote h
