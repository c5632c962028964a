use Rattle.std.proofs.Common.{rules}
use Rattle.rtc_peer_core.specs.Meanings.{meanings}
use Rattle.rtc.proofs.Signalled.{answer_by_handle}
use Rattle.rtc.proofs.signalling.accept_answer.Goals as goal

pub returns-clause-accepts : goal.returns-clause-accepts
returns-clause-accepts g c = answer_by_handle (meanings g.I.IceAgent.ice g.D.DtlsInstance.dtls g.S.Association.association g.M.MediaSession.media g.N.Ids.ids) c.args.peer.now.core c.sdp_api.result.rtc.now.core c.accept_answer.new.self.0.core _ c.args.pending c.args.answer.0 c.accept_answer.result c.sdp_api.ensures.peer c.accept_answer.ensures.accepts (search rules)
