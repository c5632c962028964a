use Rattle.rtc_peer_core.specs.Meanings.{meanings}
use Rattle.rtc_peer_laws.proofs.ActedCandidates.{local_did, remote_did}
use Rattle.rtc_peer_laws.proofs.acts.candidates_act.Goals as goal

pub returns-clause-own : goal.returns-clause-own
returns-clause-own g c = λ p ice candidate answer h. local_did (meanings g.I.IceAgent.ice g.D.DtlsInstance.dtls g.S.Association.association g.M.MediaSession.media g.N.Ids.ids) p ice candidate answer h

pub returns-clause-others : goal.returns-clause-others
returns-clause-others g c = λ p ice candidate answer h. remote_did (meanings g.I.IceAgent.ice g.D.DtlsInstance.dtls g.S.Association.association g.M.MediaSession.media g.N.Ids.ids) p ice candidate answer h
