use Rattle.std.proofs.Common.{◌∙◌}
use Rattle.rtc_run_steps.proofs.Ops.{set_once}
use Rattle.rtc_peer_core.specs.Meanings.{meanings}
use Rattle.rtc_run_steps.proofs.negotiating.set_line.Goals as goal

pub returns-in-Ok-clause-performs : goal.returns-in-Ok-clause-performs
returns-in-Ok-clause-performs g c =
    set_once (meanings g.I.IceAgent.ice g.D.DtlsInstance.dtls g.S.Association.association g.M.MediaSession.media g.N.Ids.ids) c.args.api.now.rtc.now.core c.set_direction.new.self.rtc.now.core c.rows.result.now c.args.place c.args.dir c.find_line.result c.in-Some.mid c.in-Ok.changed (c.rows.ensures.value ∙ c.lines.ensures, c.find_line.ensures) c.in-Some.is c.in-Ok.ensures.sets
