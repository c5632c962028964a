use Rattle.std.proofs.Common.{◌∙◌}
use Rattle.rtc_run_steps.proofs.Ops.{stop_once}
use Rattle.rtc_peer_core.specs.Meanings.{meanings}
use Rattle.rtc_run_steps.proofs.negotiating.stop_line.Goals as goal

pub returns-in-Ok-clause-performs : goal.returns-in-Ok-clause-performs
returns-in-Ok-clause-performs g c =
    stop_once (meanings g.I.IceAgent.ice g.D.DtlsInstance.dtls g.S.Association.association g.M.MediaSession.media g.N.Ids.ids) c.args.api.now.rtc.now.core c.stop_media.new.self.rtc.now.core c.rows.result.now c.args.place c.find_line.result c.in-Some.mid c.in-Ok.changed (c.rows.ensures.value ∙ c.lines.ensures, c.find_line.ensures) c.in-Some.is c.in-Ok.ensures.stops
