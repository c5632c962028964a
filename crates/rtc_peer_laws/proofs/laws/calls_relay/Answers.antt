use Rattle.rtc_peer_core.specs.Meanings.{meanings}
use Rattle.rtc_peer_laws.proofs.RelayingCalls.{call_relays, turns_relay}
use Rattle.rtc_peer_laws.proofs.laws.calls_relay.Goals as goal

pub returns-clause-calls : goal.returns-clause-calls
returns-clause-calls g c = λ p q h. call_relays (meanings g.I.IceAgent.ice g.D.DtlsInstance.dtls g.S.Association.association g.M.MediaSession.media g.N.Ids.ids) (record { ice = g.met.I.IceAgent.laws; dtls = g.met.D.DtlsInstance.laws; association = g.met.S.Association.laws; media = g.met.M.MediaSession.laws }) p q h

pub returns-clause-in_turn : goal.returns-clause-in_turn
returns-clause-in_turn g c = λ p q between h. turns_relay (meanings g.I.IceAgent.ice g.D.DtlsInstance.dtls g.S.Association.association g.M.MediaSession.media g.N.Ids.ids) (record { ice = g.met.I.IceAgent.laws; dtls = g.met.D.DtlsInstance.laws; association = g.met.S.Association.laws; media = g.met.M.MediaSession.laws }) p q between h
