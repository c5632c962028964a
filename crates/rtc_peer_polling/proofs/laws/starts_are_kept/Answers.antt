use Rattle.rtc_peer_core.specs.Meanings.{meanings}
use Rattle.rtc_peer_polling.proofs.StandingCalls.{close_stands}
use Rattle.rtc_peer_polling.proofs.Standing.{poll_stands}
use Rattle.rtc_peer_polling.proofs.StandingInputs.{input_stands}
use Rattle.rtc_peer_polling.proofs.laws.starts_are_kept.Goals as goal

pub returns-clause-polls : goal.returns-clause-polls
returns-clause-polls g c = λ p q answer h. (poll_stands (meanings g.I.IceAgent.ice g.D.DtlsInstance.dtls g.S.Association.association g.M.MediaSession.media g.N.Ids.ids) g.met.I.IceAgent.laws g.met.M.MediaSession.laws g.met.S.Association.laws p answer q h).5

pub returns-clause-inputs : goal.returns-clause-inputs
returns-clause-inputs g c = λ p q input answer h. (input_stands (meanings g.I.IceAgent.ice g.D.DtlsInstance.dtls g.S.Association.association g.M.MediaSession.media g.N.Ids.ids) g.met.I.IceAgent.laws g.met.M.MediaSession.laws g.met.S.Association.laws input p answer q h).5

pub returns-clause-closes : goal.returns-clause-closes
returns-clause-closes g c = λ p q answer h. (close_stands (meanings g.I.IceAgent.ice g.D.DtlsInstance.dtls g.S.Association.association g.M.MediaSession.media g.N.Ids.ids) g.met.M.MediaSession.laws g.met.S.Association.laws p answer q h).5
