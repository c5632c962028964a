use Rattle.rtc_peer_core.specs.Meanings.{meanings}
use Rattle.rtc_peer_polling.proofs.KeptCalls.{close_keeps}
use Rattle.rtc_peer_polling.proofs.KeptInputs.{input_keeps}
use Rattle.rtc_peer_polling.proofs.Keeping.{poll_keeps}
use Rattle.rtc_peer_polling.proofs.StandingCalls.{close_stands}
use Rattle.rtc_peer_polling.proofs.Standing.{poll_stands}
use Rattle.rtc_peer_polling.proofs.StandingInputs.{input_stands, stance_by}
use Rattle.rtc_peer_polling.proofs.laws.stance_is_kept.Goals as goal

pub returns-clause-polls : goal.returns-clause-polls
returns-clause-polls g c = λ p q answer h. stance_by (meanings g.I.IceAgent.ice g.D.DtlsInstance.dtls g.S.Association.association g.M.MediaSession.media g.N.Ids.ids) p q (poll_keeps (meanings g.I.IceAgent.ice g.D.DtlsInstance.dtls g.S.Association.association g.M.MediaSession.media g.N.Ids.ids) p answer q h) (poll_stands (meanings g.I.IceAgent.ice g.D.DtlsInstance.dtls g.S.Association.association g.M.MediaSession.media g.N.Ids.ids) g.met.I.IceAgent.laws g.met.M.MediaSession.laws g.met.S.Association.laws p answer q h)

pub returns-clause-inputs : goal.returns-clause-inputs
returns-clause-inputs g c = λ p q input answer h. stance_by (meanings g.I.IceAgent.ice g.D.DtlsInstance.dtls g.S.Association.association g.M.MediaSession.media g.N.Ids.ids) p q (input_keeps (meanings g.I.IceAgent.ice g.D.DtlsInstance.dtls g.S.Association.association g.M.MediaSession.media g.N.Ids.ids) input p answer q h) (input_stands (meanings g.I.IceAgent.ice g.D.DtlsInstance.dtls g.S.Association.association g.M.MediaSession.media g.N.Ids.ids) g.met.I.IceAgent.laws g.met.M.MediaSession.laws g.met.S.Association.laws input p answer q h)

pub returns-clause-closes : goal.returns-clause-closes
returns-clause-closes g c = λ p q answer h. stance_by (meanings g.I.IceAgent.ice g.D.DtlsInstance.dtls g.S.Association.association g.M.MediaSession.media g.N.Ids.ids) p q (close_keeps (meanings g.I.IceAgent.ice g.D.DtlsInstance.dtls g.S.Association.association g.M.MediaSession.media g.N.Ids.ids) p answer q h) (close_stands (meanings g.I.IceAgent.ice g.D.DtlsInstance.dtls g.S.Association.association g.M.MediaSession.media g.N.Ids.ids) g.met.M.MediaSession.laws g.met.S.Association.laws p answer q h)
