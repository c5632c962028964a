use Rattle.rtc_parts.specs.IceActs.{ControllingSet, Invalidated, LiteSet, LocalSet, RemoteSet}
use Rattle.rtc_peer_core.specs.Meanings.{meanings}
use Rattle.rtc_peer_laws.proofs.ActedDirectCalls.{agent_called, creates_called, like_called, role_did, starts_called}
use Rattle.rtc_peer_laws.proofs.FollowedParts.{agent_call}
use Rattle.std.proofs.Common.{refl}
use Rattle.rtc_peer_laws.proofs.direct.direct_calls_act.Goals as goal

pub returns-clause-controlling : goal.returns-clause-controlling
returns-clause-controlling g c = λ p q on h. agent_called (meanings g.I.IceAgent.ice g.D.DtlsInstance.dtls g.S.Association.association g.M.MediaSession.media g.N.Ids.ids) p q (agent_call g.I.IceAgent.ice p.core.ice q.core.ice (ControllingSet on) h.0 refl) h.1

pub returns-clause-lite : goal.returns-clause-lite
returns-clause-lite g c = λ p q on h. agent_called (meanings g.I.IceAgent.ice g.D.DtlsInstance.dtls g.S.Association.association g.M.MediaSession.media g.N.Ids.ids) p q (agent_call g.I.IceAgent.ice p.core.ice q.core.ice (LiteSet on) h.0 refl) h.1

pub returns-clause-local_creds : goal.returns-clause-local_creds
returns-clause-local_creds g c = λ p q creds h. agent_called (meanings g.I.IceAgent.ice g.D.DtlsInstance.dtls g.S.Association.association g.M.MediaSession.media g.N.Ids.ids) p q (agent_call g.I.IceAgent.ice p.core.ice q.core.ice (LocalSet creds) h.0 refl) h.1

pub returns-clause-remote_creds : goal.returns-clause-remote_creds
returns-clause-remote_creds g c = λ p q creds h. agent_called (meanings g.I.IceAgent.ice g.D.DtlsInstance.dtls g.S.Association.association g.M.MediaSession.media g.N.Ids.ids) p q (agent_call g.I.IceAgent.ice p.core.ice q.core.ice (RemoteSet creds) h.0 refl) h.1

pub returns-clause-candidates : goal.returns-clause-candidates
returns-clause-candidates g c = λ p q candidate found h. agent_called (meanings g.I.IceAgent.ice g.D.DtlsInstance.dtls g.S.Association.association g.M.MediaSession.media g.N.Ids.ids) p q (agent_call g.I.IceAgent.ice p.core.ice q.core.ice (Invalidated candidate found) h.0 refl) h.1

pub returns-clause-fingerprints : goal.returns-clause-fingerprints
returns-clause-fingerprints g c = λ p q fingerprint h. like_called (meanings g.I.IceAgent.ice g.D.DtlsInstance.dtls g.S.Association.association g.M.MediaSession.media g.N.Ids.ids) p _ q h refl refl refl refl

pub returns-clause-roles : goal.returns-clause-roles
returns-clause-roles g c = λ p q active answer h. role_did (meanings g.I.IceAgent.ice g.D.DtlsInstance.dtls g.S.Association.association g.M.MediaSession.media g.N.Ids.ids) active p answer q h

pub returns-clause-starts : goal.returns-clause-starts
returns-clause-starts g c = λ p q client halves answer h. starts_called (meanings g.I.IceAgent.ice g.D.DtlsInstance.dtls g.S.Association.association g.M.MediaSession.media g.N.Ids.ids) client halves p answer q h

pub returns-clause-channels : goal.returns-clause-channels
returns-clause-channels g c = λ p q config answer h. creates_called (meanings g.I.IceAgent.ice g.D.DtlsInstance.dtls g.S.Association.association g.M.MediaSession.media g.N.Ids.ids) config p answer q h
