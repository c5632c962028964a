use Rattle.rtc_peer_core.specs.Meanings.{meanings}
use Rattle.rtc_peer_polling.proofs.Numbering.{poll_numbers, input_numbers, close_numbers}
use Rattle.rtc_peer_polling.proofs.laws.channels_are_numbered.Goals as goal

pub returns-clause-polls : goal.returns-clause-polls
returns-clause-polls g c = λ p q answer h. poll_numbers (meanings g.I.IceAgent.ice g.D.DtlsInstance.dtls g.S.Association.association g.M.MediaSession.media g.N.Ids.ids) p answer q h

pub returns-clause-inputs : goal.returns-clause-inputs
returns-clause-inputs g c = λ p q input answer h. input_numbers (meanings g.I.IceAgent.ice g.D.DtlsInstance.dtls g.S.Association.association g.M.MediaSession.media g.N.Ids.ids) input p answer q h

pub returns-clause-closes : goal.returns-clause-closes
returns-clause-closes g c = λ p q answer h. close_numbers (meanings g.I.IceAgent.ice g.D.DtlsInstance.dtls g.S.Association.association g.M.MediaSession.media g.N.Ids.ids) p answer q h
