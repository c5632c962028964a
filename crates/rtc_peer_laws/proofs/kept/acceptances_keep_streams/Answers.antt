use Rattle.rtc_peer_core.specs.Meanings.{meanings}
use Rattle.rtc_peer_laws.proofs.KeptAcceptances.{offer_keeps, answer_keeps}
use Rattle.rtc_peer_laws.proofs.kept.acceptances_keep_streams.Goals as goal

pub returns-clause-offers : goal.returns-clause-offers
returns-clause-offers g c = λ p core offer answer h. offer_keeps (meanings g.I.IceAgent.ice g.D.DtlsInstance.dtls g.S.Association.association g.M.MediaSession.media g.N.Ids.ids) g.met.S.Association.laws p offer answer core h

pub returns-clause-answers : goal.returns-clause-answers
returns-clause-answers g c = λ p core token description answer h. answer_keeps (meanings g.I.IceAgent.ice g.D.DtlsInstance.dtls g.S.Association.association g.M.MediaSession.media g.N.Ids.ids) g.met.S.Association.laws p token description answer core h
