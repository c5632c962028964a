use Rattle.rtc_peer_core.specs.Meanings.{meanings}
use Rattle.rtc_peer_laws.proofs.KeptInputs.{input_keeps}
use Rattle.rtc_peer_laws.proofs.KeptPeers.{close_keeps, channel_write_keeps, channel_writes_own, threshold_keeps, channel_close_keeps}
use Rattle.rtc_peer_laws.proofs.kept.other_calls_keep_streams.Goals as goal

pub returns-clause-inputs : goal.returns-clause-inputs
returns-clause-inputs g c = λ p q input answer h. input_keeps (meanings g.I.IceAgent.ice g.D.DtlsInstance.dtls g.S.Association.association g.M.MediaSession.media g.N.Ids.ids) g.met.S.Association.laws input p answer q h

pub returns-clause-closes : goal.returns-clause-closes
returns-clause-closes g c = λ p q answer h. close_keeps (meanings g.I.IceAgent.ice g.D.DtlsInstance.dtls g.S.Association.association g.M.MediaSession.media g.N.Ids.ids) g.met.S.Association.laws p answer q h

pub returns-clause-writes : goal.returns-clause-writes
returns-clause-writes g c = λ p q stream binary bytes answer h. channel_write_keeps (meanings g.I.IceAgent.ice g.D.DtlsInstance.dtls g.S.Association.association g.M.MediaSession.media g.N.Ids.ids) g.met.S.Association.laws stream binary bytes p answer q h

pub returns-clause-writes_own : goal.returns-clause-writes_own
returns-clause-writes_own g c = λ p q stream generation binary bytes h live. channel_writes_own (meanings g.I.IceAgent.ice g.D.DtlsInstance.dtls g.S.Association.association g.M.MediaSession.media g.N.Ids.ids) stream binary bytes p q generation h live

pub returns-clause-thresholds : goal.returns-clause-thresholds
returns-clause-thresholds g c = λ p q stream n h. threshold_keeps (meanings g.I.IceAgent.ice g.D.DtlsInstance.dtls g.S.Association.association g.M.MediaSession.media g.N.Ids.ids) stream n p q h

pub returns-clause-channel_closes : goal.returns-clause-channel_closes
returns-clause-channel_closes g c = λ p q id answer h. channel_close_keeps (meanings g.I.IceAgent.ice g.D.DtlsInstance.dtls g.S.Association.association g.M.MediaSession.media g.N.Ids.ids) g.met.S.Association.laws id p answer q h
