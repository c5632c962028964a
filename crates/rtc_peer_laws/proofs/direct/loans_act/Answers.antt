use Rattle.rtc_parts.specs.MediaActs.{RxExpected, RxLent, RxNamedLent, TxDeclared, TxLent, TxNamedLent, TxReset, WriterLent}
use Rattle.rtc_peer_core.specs.Meanings.{meanings}
use Rattle.rtc_peer_laws.proofs.ActedDirectCalls.{lent_told, media_called}
use Rattle.rtc_peer_laws.proofs.direct.loans_act.Goals as goal

pub returns-clause-rx_expected : goal.returns-clause-rx_expected
returns-clause-rx_expected g c = λ p q ssrc rtx mid rid lent left h. media_called (meanings g.I.IceAgent.ice g.D.DtlsInstance.dtls g.S.Association.association g.M.MediaSession.media g.N.Ids.ids) p q (lent_told g.M.MediaSession.media p.core.media q.core.media (RxExpected ssrc rtx mid rid lent left h.0)) h.1

pub returns-clause-tx_declared : goal.returns-clause-tx_declared
returns-clause-tx_declared g c = λ p q ssrc rtx mid rid lent left h. media_called (meanings g.I.IceAgent.ice g.D.DtlsInstance.dtls g.S.Association.association g.M.MediaSession.media g.N.Ids.ids) p q (lent_told g.M.MediaSession.media p.core.media q.core.media (TxDeclared ssrc rtx mid rid lent left h.0)) h.1

pub returns-clause-rx_lent : goal.returns-clause-rx_lent
returns-clause-rx_lent g c = λ p q ssrc lent left h. media_called (meanings g.I.IceAgent.ice g.D.DtlsInstance.dtls g.S.Association.association g.M.MediaSession.media g.N.Ids.ids) p q (lent_told g.M.MediaSession.media p.core.media q.core.media (RxLent ssrc lent left h.0)) h.1

pub returns-clause-tx_lent : goal.returns-clause-tx_lent
returns-clause-tx_lent g c = λ p q ssrc lent left h. media_called (meanings g.I.IceAgent.ice g.D.DtlsInstance.dtls g.S.Association.association g.M.MediaSession.media g.N.Ids.ids) p q (lent_told g.M.MediaSession.media p.core.media q.core.media (TxLent ssrc lent left h.0)) h.1

pub returns-clause-rx_named : goal.returns-clause-rx_named
returns-clause-rx_named g c = λ p q mid rid lent left h. media_called (meanings g.I.IceAgent.ice g.D.DtlsInstance.dtls g.S.Association.association g.M.MediaSession.media g.N.Ids.ids) p q (lent_told g.M.MediaSession.media p.core.media q.core.media (RxNamedLent mid rid lent left h.0)) h.1

pub returns-clause-tx_named : goal.returns-clause-tx_named
returns-clause-tx_named g c = λ p q mid rid lent left h. media_called (meanings g.I.IceAgent.ice g.D.DtlsInstance.dtls g.S.Association.association g.M.MediaSession.media g.N.Ids.ids) p q (lent_told g.M.MediaSession.media p.core.media q.core.media (TxNamedLent mid rid lent left h.0)) h.1

pub returns-clause-tx_reset : goal.returns-clause-tx_reset
returns-clause-tx_reset g c = λ p q mid rid ssrc rtx lent left h. media_called (meanings g.I.IceAgent.ice g.D.DtlsInstance.dtls g.S.Association.association g.M.MediaSession.media g.N.Ids.ids) p q (lent_told g.M.MediaSession.media p.core.media q.core.media (TxReset mid rid ssrc rtx lent left h.0)) h.1

pub returns-clause-writers : goal.returns-clause-writers
returns-clause-writers g c = λ p q mid lent left h. media_called (meanings g.I.IceAgent.ice g.D.DtlsInstance.dtls g.S.Association.association g.M.MediaSession.media g.N.Ids.ids) p q (lent_told g.M.MediaSession.media p.core.media q.core.media (WriterLent mid lent left h.0)) h.1
