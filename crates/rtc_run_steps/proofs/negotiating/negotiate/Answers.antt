use Rattle.rtc_run_steps.proofs.Negotiated.{negotiated}
use Rattle.rtc_peer_core.specs.Meanings.{meanings}
use Rattle.rtc_run_steps.proofs.negotiating.negotiate.Goals as goal

pub returns-clause-negotiates : goal.returns-clause-negotiates
returns-clause-negotiates g c =
    negotiated (meanings g.I.IceAgent.ice g.D.DtlsInstance.dtls g.S.Association.association g.M.MediaSession.media g.N.Ids.ids) c.args.at c.args.ops.now c.args.apply c.args.rtc.now.core c.perform_and_apply-answers.new.rtc.core c.args.sdps.now.items c.make_room.new.sdps.items c.keep_made-made.new.sdps.items c.perform_and_apply-answers.result.0 c.perform_and_apply-answers.result.1 c.keep_made-made.result c.reply_with.result.outcome c.reply_with.result.table c.perform_and_apply-answers.ensures.stages c.make_room.ensures.kept c.keep_made-made.ensures c.reply_with.ensures.outcome c.reply_with.ensures.table
