use Rattle.std.proofs.Common.{rules}
use Rattle.rtc.specs.PlainPeers.{memory_parts}
use Rattle.rtc.proofs.Signalled.{answer_by_handle}
use Rattle.rtc_c_handle.proofs.negotiation.give_answer.Goals as goal

pub returns-clause-accepts : goal.returns-clause-accepts
returns-clause-accepts c = answer_by_handle memory_parts c.args.rtc.now.core c.sdp_api.result.rtc.now.core c.accept_answer.new.self.0.core _ c.args.token c.args.answer.0 c.accept_answer.result c.sdp_api.ensures.peer c.accept_answer.ensures.accepts (search rules)
