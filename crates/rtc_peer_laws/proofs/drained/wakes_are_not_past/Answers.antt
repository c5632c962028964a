use Rattle.rtc_peer_core.specs.Meanings.{meanings}
use Rattle.rtc_peer_laws.proofs.DrainedPolls.{closed_wake, live_wake}
use Rattle.rtc_peer_laws.proofs.drained.wakes_are_not_past.Goals as goal

pub returns-clause-live : goal.returns-clause-live
returns-clause-live g c = λ p q moment first live. live_wake (meanings g.I.IceAgent.ice g.D.DtlsInstance.dtls g.S.Association.association g.M.MediaSession.media g.N.Ids.ids) p q moment first live

pub returns-clause-closed : goal.returns-clause-closed
returns-clause-closed g c = λ p q moment first closed. closed_wake (meanings g.I.IceAgent.ice g.D.DtlsInstance.dtls g.S.Association.association g.M.MediaSession.media g.N.Ids.ids) p q moment first closed
