use Rattle.std.proofs.Common.{arith}
use Rattle.rtc_peer_core.specs.Meanings.{meanings}
use Rattle.rtc_run.proofs.GoingOn.{goes_on}
use Rattle.rtc_run.proofs.pair.Pair.perform.Goals as goal

pub returns-clause-runs : goal.returns-clause-runs
returns-clause-runs g c = goes_on (meanings g.I.IceAgent.ice g.D.DtlsInstance.dtls g.S.Association.association g.M.MediaSession.media g.N.Ids.ids) g.I.StunReader.stun (record { ice = g.met.I.IceAgent.laws; dtls = g.met.D.DtlsInstance.laws; association = g.met.S.Association.laws; media = g.met.M.MediaSession.laws }) _ _ _ _ _ c.act.ensures (omega (arith, c.act.ensures.size, c.requires))
