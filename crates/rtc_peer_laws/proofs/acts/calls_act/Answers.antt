use Rattle.std.proofs.Common.{[]}
use Rattle.rtc_peer_core.specs.Meanings.{meanings}
use Rattle.rtc_peer_laws.specs.PeerActs.{nothing_came}
use Rattle.rtc_peer_laws.proofs.ActedClosing.{close_acts}
use Rattle.rtc_peer_laws.proofs.ActedInputs.{channel_close_acts, input_acts, write_acts, threshold_acts}
use Rattle.rtc_peer_laws.proofs.ActedPolls.{poll_acts}
use Rattle.rtc_peer_laws.proofs.acts.calls_act.Goals as goal

pub returns-clause-polls : goal.returns-clause-polls
returns-clause-polls g c = λ p q answer h. poll_acts (meanings g.I.IceAgent.ice g.D.DtlsInstance.dtls g.S.Association.association g.M.MediaSession.media g.N.Ids.ids) (record { ice = g.met.I.IceAgent.laws; dtls = g.met.D.DtlsInstance.laws; association = g.met.S.Association.laws; media = g.met.M.MediaSession.laws }) p answer q h

pub returns-clause-inputs : goal.returns-clause-inputs
returns-clause-inputs g c = λ p q input answer h. input_acts (meanings g.I.IceAgent.ice g.D.DtlsInstance.dtls g.S.Association.association g.M.MediaSession.media g.N.Ids.ids) g.met.S.Association.laws input p answer q h

pub returns-clause-closes : goal.returns-clause-closes
returns-clause-closes g c = λ p q answer h. close_acts (meanings g.I.IceAgent.ice g.D.DtlsInstance.dtls g.S.Association.association g.M.MediaSession.media g.N.Ids.ids) nothing_came [] g.met.S.Association.laws p answer q h

pub returns-clause-writes : goal.returns-clause-writes
returns-clause-writes g c = λ p q stream binary bytes answer h. write_acts (meanings g.I.IceAgent.ice g.D.DtlsInstance.dtls g.S.Association.association g.M.MediaSession.media g.N.Ids.ids) stream binary bytes p answer q h

pub returns-clause-thresholds : goal.returns-clause-thresholds
returns-clause-thresholds g c = λ p q stream n h. threshold_acts (meanings g.I.IceAgent.ice g.D.DtlsInstance.dtls g.S.Association.association g.M.MediaSession.media g.N.Ids.ids) stream n p q h

pub returns-clause-channel_closes : goal.returns-clause-channel_closes
returns-clause-channel_closes g c = λ p q id answer h. channel_close_acts (meanings g.I.IceAgent.ice g.D.DtlsInstance.dtls g.S.Association.association g.M.MediaSession.media g.N.Ids.ids) id p answer q h
