use Rattle.rtc_run_steps.proofs.Ops.{op_once}
use Rattle.rtc_peer_core.specs.Meanings.{meanings}
use Rattle.rtc_run_steps.proofs.negotiating.add_line.Goals as goal

pub returns-in-Ok-clause-performs : goal.returns-in-Ok-clause-performs
returns-in-Ok-clause-performs g c = op_once (meanings g.I.IceAgent.ice g.D.DtlsInstance.dtls g.S.Association.association g.M.MediaSession.media g.N.Ids.ids) c.args.api.now.rtc.now.core c.add_media.new.self.rtc.now.core c.args.kind c.args.dir c.in-Ok.mid c.in-Ok.ensures.adds
