use Rattle.rtc_peer_core.specs.Meanings.{meanings}
use Rattle.rtc_run_steps.proofs.Ops.{restart_once}
use Rattle.rtc_run_steps.proofs.negotiating.stage_restart.Goals as goal

pub returns-in-Ok-clause-performs : goal.returns-in-Ok-clause-performs
returns-in-Ok-clause-performs g c = restart_once (meanings g.I.IceAgent.ice g.D.DtlsInstance.dtls g.S.Association.association g.M.MediaSession.media g.N.Ids.ids) c.args.api.now.rtc.now.core c.ice_restart.new.self.rtc.now.core c.args.keep c.in-Ok.creds c.in-Ok.ensures.stages
