use Rattle.rtc_peer_core.specs.Meanings.{meanings}
use Rattle.rtc_peer_laws.proofs.SetsNone.{built_sets_none, inputs_set_none, closes_set_none, writes_set_none, channel_closes_set_none, offers_set_none, answers_set_none, applies_set_none, rollbacks_set_none}
use Rattle.rtc_peer_laws.proofs.weight.other_calls_set_no_threshold.Goals as goal

pub returns-clause-inputs : goal.returns-clause-inputs
returns-clause-inputs g c = λ p q input answer is h k. inputs_set_none (meanings g.I.IceAgent.ice g.D.DtlsInstance.dtls g.S.Association.association g.M.MediaSession.media g.N.Ids.ids) (record { ice = g.met.I.IceAgent.laws; dtls = g.met.D.DtlsInstance.laws; association = g.met.S.Association.laws; media = g.met.M.MediaSession.laws }) p q input answer is h k

pub returns-clause-closes : goal.returns-clause-closes
returns-clause-closes g c = λ p q answer h k. closes_set_none (meanings g.I.IceAgent.ice g.D.DtlsInstance.dtls g.S.Association.association g.M.MediaSession.media g.N.Ids.ids) (record { ice = g.met.I.IceAgent.laws; dtls = g.met.D.DtlsInstance.laws; association = g.met.S.Association.laws; media = g.met.M.MediaSession.laws }) p q answer h k

pub returns-clause-writes : goal.returns-clause-writes
returns-clause-writes g c = λ p q stream binary bytes answer h k. writes_set_none (meanings g.I.IceAgent.ice g.D.DtlsInstance.dtls g.S.Association.association g.M.MediaSession.media g.N.Ids.ids) (record { ice = g.met.I.IceAgent.laws; dtls = g.met.D.DtlsInstance.laws; association = g.met.S.Association.laws; media = g.met.M.MediaSession.laws }) p q stream binary bytes answer h k

pub returns-clause-channel_closes : goal.returns-clause-channel_closes
returns-clause-channel_closes g c = λ p q id answer h k. channel_closes_set_none (meanings g.I.IceAgent.ice g.D.DtlsInstance.dtls g.S.Association.association g.M.MediaSession.media g.N.Ids.ids) (record { ice = g.met.I.IceAgent.laws; dtls = g.met.D.DtlsInstance.laws; association = g.met.S.Association.laws; media = g.met.M.MediaSession.laws }) p q id answer h k

pub returns-clause-offers : goal.returns-clause-offers
returns-clause-offers g c = λ p q offer answer h k. offers_set_none (meanings g.I.IceAgent.ice g.D.DtlsInstance.dtls g.S.Association.association g.M.MediaSession.media g.N.Ids.ids) (record { ice = g.met.I.IceAgent.laws; dtls = g.met.D.DtlsInstance.laws; association = g.met.S.Association.laws; media = g.met.M.MediaSession.laws }) p q offer answer h k

pub returns-clause-answers : goal.returns-clause-answers
returns-clause-answers g c = λ p q token answer result h k. answers_set_none (meanings g.I.IceAgent.ice g.D.DtlsInstance.dtls g.S.Association.association g.M.MediaSession.media g.N.Ids.ids) (record { ice = g.met.I.IceAgent.laws; dtls = g.met.D.DtlsInstance.laws; association = g.met.S.Association.laws; media = g.met.M.MediaSession.laws }) p q token answer result h k

pub returns-clause-applies : goal.returns-clause-applies
returns-clause-applies g c = λ p q answer h k. applies_set_none (meanings g.I.IceAgent.ice g.D.DtlsInstance.dtls g.S.Association.association g.M.MediaSession.media g.N.Ids.ids) (record { ice = g.met.I.IceAgent.laws; dtls = g.met.D.DtlsInstance.laws; association = g.met.S.Association.laws; media = g.met.M.MediaSession.laws }) p q answer h k

pub returns-clause-rollbacks : goal.returns-clause-rollbacks
returns-clause-rollbacks g c = λ p q token answer h k. rollbacks_set_none (meanings g.I.IceAgent.ice g.D.DtlsInstance.dtls g.S.Association.association g.M.MediaSession.media g.N.Ids.ids) (record { ice = g.met.I.IceAgent.laws; dtls = g.met.D.DtlsInstance.laws; association = g.met.S.Association.laws; media = g.met.M.MediaSession.laws }) p q token answer h k

pub returns-clause-built : goal.returns-clause-built
returns-clause-built g c = λ alloc config start ice dtls association media ids p is fresh h. built_sets_none (meanings g.I.IceAgent.ice g.D.DtlsInstance.dtls g.S.Association.association g.M.MediaSession.media g.N.Ids.ids) (record { ice = g.met.I.IceAgent.laws; dtls = g.met.D.DtlsInstance.laws; association = g.met.S.Association.laws; media = g.met.M.MediaSession.laws }) alloc config start ice dtls association media ids p is fresh h
