use Rattle.rtc_peer_core.specs.Meanings.{meanings}
use Rattle.rtc_peer_laws.proofs.ClosedCalls.{call_closed, channel_closed, direct_closed, lines_closed, loan_closed, negotiation_closed, transport_closed, turns_closed}
use Rattle.rtc_peer_laws.proofs.closed.closed_peers_stay_closed.Goals as goal

pub returns-clause-transport : goal.returns-clause-transport
returns-clause-transport g c = λ p q h. transport_closed (meanings g.I.IceAgent.ice g.D.DtlsInstance.dtls g.S.Association.association g.M.MediaSession.media g.N.Ids.ids) g.met.S.Association.laws p q h

pub returns-clause-channels : goal.returns-clause-channels
returns-clause-channels g c = λ p q h. channel_closed (meanings g.I.IceAgent.ice g.D.DtlsInstance.dtls g.S.Association.association g.M.MediaSession.media g.N.Ids.ids) g.met.S.Association.laws p q h

pub returns-clause-negotiation : goal.returns-clause-negotiation
returns-clause-negotiation g c = λ p q h. negotiation_closed (meanings g.I.IceAgent.ice g.D.DtlsInstance.dtls g.S.Association.association g.M.MediaSession.media g.N.Ids.ids) g.met.S.Association.laws p q h

pub returns-clause-direct : goal.returns-clause-direct
returns-clause-direct g c = λ p q h. direct_closed (meanings g.I.IceAgent.ice g.D.DtlsInstance.dtls g.S.Association.association g.M.MediaSession.media g.N.Ids.ids) p q h

pub returns-clause-media : goal.returns-clause-media
returns-clause-media g c = λ p q h. lines_closed (meanings g.I.IceAgent.ice g.D.DtlsInstance.dtls g.S.Association.association g.M.MediaSession.media g.N.Ids.ids) p q h

pub returns-clause-loans : goal.returns-clause-loans
returns-clause-loans g c = λ p q h. loan_closed (meanings g.I.IceAgent.ice g.D.DtlsInstance.dtls g.S.Association.association g.M.MediaSession.media g.N.Ids.ids) p q h

pub returns-clause-calls : goal.returns-clause-calls
returns-clause-calls g c = λ p q h. call_closed (meanings g.I.IceAgent.ice g.D.DtlsInstance.dtls g.S.Association.association g.M.MediaSession.media g.N.Ids.ids) g.met.S.Association.laws p q h

pub returns-clause-in_turn : goal.returns-clause-in_turn
returns-clause-in_turn g c = λ p q between h. turns_closed (meanings g.I.IceAgent.ice g.D.DtlsInstance.dtls g.S.Association.association g.M.MediaSession.media g.N.Ids.ids) g.met.S.Association.laws p q between h
