use Rattle.rtc_peer_core.specs.Meanings.{meanings}
use Rattle.rtc_peer_polling.proofs.Lacking.{close_lacks, input_lacks, poll_lacks}
use Rattle.rtc_peer_polling.proofs.laws.want_of_memory_closes.Goals as goal

pub returns-clause-polls : goal.returns-clause-polls
returns-clause-polls g c = λ p q h. poll_lacks (meanings g.I.IceAgent.ice g.D.DtlsInstance.dtls g.S.Association.association g.M.MediaSession.media g.N.Ids.ids) p q h

pub returns-clause-inputs : goal.returns-clause-inputs
returns-clause-inputs g c = λ p q input h. input_lacks (meanings g.I.IceAgent.ice g.D.DtlsInstance.dtls g.S.Association.association g.M.MediaSession.media g.N.Ids.ids) input p q h

pub returns-clause-closes : goal.returns-clause-closes
returns-clause-closes g c = λ p q h. close_lacks (meanings g.I.IceAgent.ice g.D.DtlsInstance.dtls g.S.Association.association g.M.MediaSession.media g.N.Ids.ids) p q h
