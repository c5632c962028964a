use Rattle.std.proofs.Common.{rules}
use Rattle.rtc_run_steps.proofs.Lent.{accepted_answer, rows_of_answer, channels_of_answer}
use Rattle.rtc_peer_core.specs.Meanings.{meanings}
use Rattle.rtc_run_steps.proofs.accepting.accept_answer.Goals as goal

pub returns-clause-accepts : goal.returns-clause-accepts
returns-clause-accepts g c = accepted_answer (meanings g.I.IceAgent.ice g.D.DtlsInstance.dtls g.S.Association.association g.M.MediaSession.media g.N.Ids.ids) c.args.rtc.now.core c.sdp_api.result.rtc.now.core c.accept_answer.new.self.0.core _ c.args.pending c.args.answer.0 c.accept_answer.result c.sdp_api.ensures.peer c.accept_answer.ensures.accepts (search rules)

pub returns-clause-rows : goal.returns-clause-rows
returns-clause-rows g c = rows_of_answer (meanings g.I.IceAgent.ice g.D.DtlsInstance.dtls g.S.Association.association g.M.MediaSession.media g.N.Ids.ids) c.args.rtc.now.core c.sdp_api.result.rtc.now.core c.accept_answer.new.self.0.core c.args.pending c.args.answer.0 c.accept_answer.result _ c.sdp_api.ensures.peer c.accept_answer.ensures.accepts (search rules)

pub returns-clause-channels : goal.returns-clause-channels
returns-clause-channels g c = channels_of_answer (meanings g.I.IceAgent.ice g.D.DtlsInstance.dtls g.S.Association.association g.M.MediaSession.media g.N.Ids.ids) c.args.rtc.now.core c.sdp_api.result.rtc.now.core c.accept_answer.new.self.0.core c.args.pending c.args.answer.0 c.accept_answer.result _ c.sdp_api.ensures.peer c.accept_answer.ensures.accepts (search rules)
