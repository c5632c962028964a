use Rattle.rtc_run_laws.proofs.PartsSound.{runs_unfaulted}
use Rattle.rtc_peer_core.specs.Meanings.{meanings}
use Rattle.rtc_run.proofs.laws.faults_are_counted.Goals as goal

pub returns : goal.returns
returns g c =
    runs_unfaulted (meanings g.I.IceAgent.ice g.D.DtlsInstance.dtls g.S.Association.association g.M.MediaSession.media g.N.Ids.ids) g.I.StunReader.stun
