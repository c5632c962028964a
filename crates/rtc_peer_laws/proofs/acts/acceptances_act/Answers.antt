use Rattle.rtc_peer_core.specs.Meanings.{meanings}
use Rattle.rtc_peer_laws.proofs.ActedAcceptances.{offer_did, answer_did, rollback_did}
use Rattle.rtc_peer_laws.proofs.acts.acceptances_act.Goals as goal

pub returns-clause-offers : goal.returns-clause-offers
returns-clause-offers g c = λ p core offer answer h. offer_did (meanings g.I.IceAgent.ice g.D.DtlsInstance.dtls g.S.Association.association g.M.MediaSession.media g.N.Ids.ids) p offer answer core h

pub returns-clause-answers : goal.returns-clause-answers
returns-clause-answers g c = λ p core token description answer h. answer_did (meanings g.I.IceAgent.ice g.D.DtlsInstance.dtls g.S.Association.association g.M.MediaSession.media g.N.Ids.ids) p token description answer core h

pub returns-clause-rollbacks : goal.returns-clause-rollbacks
returns-clause-rollbacks g c = λ p core token answer h. rollback_did (meanings g.I.IceAgent.ice g.D.DtlsInstance.dtls g.S.Association.association g.M.MediaSession.media g.N.Ids.ids) p token answer core h
