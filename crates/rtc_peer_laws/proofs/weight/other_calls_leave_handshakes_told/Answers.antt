use Rattle.rtc_peer_core.specs.Meanings.{meanings}
use Rattle.rtc_peer_laws.proofs.ToldCalls.{channel_closes_told, closes_told, inputs_told, writes_told}
use Rattle.rtc_peer_laws.proofs.weight.other_calls_leave_handshakes_told.Goals as goal

pub returns-clause-inputs : goal.returns-clause-inputs
returns-clause-inputs g c = λ p q input answer k h. inputs_told (meanings g.I.IceAgent.ice g.D.DtlsInstance.dtls g.S.Association.association g.M.MediaSession.media g.N.Ids.ids) p q input answer k h

pub returns-clause-closes : goal.returns-clause-closes
returns-clause-closes g c = λ p q answer k h. closes_told (meanings g.I.IceAgent.ice g.D.DtlsInstance.dtls g.S.Association.association g.M.MediaSession.media g.N.Ids.ids) p q answer k h

pub returns-clause-writes : goal.returns-clause-writes
returns-clause-writes g c = λ p q stream binary bytes answer k h. writes_told (meanings g.I.IceAgent.ice g.D.DtlsInstance.dtls g.S.Association.association g.M.MediaSession.media g.N.Ids.ids) p q stream binary bytes answer k h

pub returns-clause-channel_closes : goal.returns-clause-channel_closes
returns-clause-channel_closes g c = λ p q id answer k h. channel_closes_told (meanings g.I.IceAgent.ice g.D.DtlsInstance.dtls g.S.Association.association g.M.MediaSession.media g.N.Ids.ids) p q id answer k h
