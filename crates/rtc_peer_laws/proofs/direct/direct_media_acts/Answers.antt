use Rattle.rtc_parts.specs.MediaActs.{AppFed, PliFed, RedSet, RxRemoved, TwccEnabled, TxRemoved}
use Rattle.rtc_peer_core.specs.Meanings.{meanings}
use Rattle.rtc_peer_laws.proofs.ActedDirectCalls.{like_called, media_called, removes_called, stirred_told}
use Rattle.std.proofs.Common.{refl}
use Rattle.rtc_peer_laws.proofs.direct.direct_media_acts.Goals as goal

pub returns-clause-declares : goal.returns-clause-declares
returns-clause-declares g c = λ p q mid kind answer h. like_called (meanings g.I.IceAgent.ice g.D.DtlsInstance.dtls g.S.Association.association g.M.MediaSession.media g.N.Ids.ids) p _ q h.1 refl refl refl refl

pub returns-clause-removes : goal.returns-clause-removes
returns-clause-removes g c = λ p q mid answer h. removes_called (meanings g.I.IceAgent.ice g.D.DtlsInstance.dtls g.S.Association.association g.M.MediaSession.media g.N.Ids.ids) mid p answer q h

pub returns-clause-sources : goal.returns-clause-sources
returns-clause-sources g c = λ p q ssrc h. like_called (meanings g.I.IceAgent.ice g.D.DtlsInstance.dtls g.S.Association.association g.M.MediaSession.media g.N.Ids.ids) p _ q h.1 refl refl refl refl

pub returns-clause-reds : goal.returns-clause-reds
returns-clause-reds g c = λ p q mid on answer h. media_called (meanings g.I.IceAgent.ice g.D.DtlsInstance.dtls g.S.Association.association g.M.MediaSession.media g.N.Ids.ids) p q (stirred_told g.M.MediaSession.media p.core.media q.core.media (RedSet mid on answer h.0)) h.1

pub returns-clause-twcc : goal.returns-clause-twcc
returns-clause-twcc g c = λ p q h. media_called (meanings g.I.IceAgent.ice g.D.DtlsInstance.dtls g.S.Association.association g.M.MediaSession.media g.N.Ids.ids) p q (stirred_told g.M.MediaSession.media p.core.media q.core.media (TwccEnabled h.0)) h.1

pub returns-clause-app_feedback : goal.returns-clause-app_feedback
returns-clause-app_feedback g c = λ p q sender source payload answer h. media_called (meanings g.I.IceAgent.ice g.D.DtlsInstance.dtls g.S.Association.association g.M.MediaSession.media g.N.Ids.ids) p q (stirred_told g.M.MediaSession.media p.core.media q.core.media (AppFed sender source payload answer h.0)) h.1

pub returns-clause-plis : goal.returns-clause-plis
returns-clause-plis g c = λ p q sender source answer h. media_called (meanings g.I.IceAgent.ice g.D.DtlsInstance.dtls g.S.Association.association g.M.MediaSession.media g.N.Ids.ids) p q (stirred_told g.M.MediaSession.media p.core.media q.core.media (PliFed sender source answer h.0)) h.1

pub returns-clause-rx_removed : goal.returns-clause-rx_removed
returns-clause-rx_removed g c = λ p q ssrc answer h. media_called (meanings g.I.IceAgent.ice g.D.DtlsInstance.dtls g.S.Association.association g.M.MediaSession.media g.N.Ids.ids) p q (stirred_told g.M.MediaSession.media p.core.media q.core.media (RxRemoved ssrc answer h.0)) h.1

pub returns-clause-tx_removed : goal.returns-clause-tx_removed
returns-clause-tx_removed g c = λ p q ssrc answer h. media_called (meanings g.I.IceAgent.ice g.D.DtlsInstance.dtls g.S.Association.association g.M.MediaSession.media g.N.Ids.ids) p q (stirred_told g.M.MediaSession.media p.core.media q.core.media (TxRemoved ssrc answer h.0)) h.1
