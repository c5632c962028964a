use Rattle.std.proofs.Common.{Err, refl, ap}
use Rattle.rtc_peer_core.specs.declared.rtc_error.RtcError.{RtcError}
use Rattle.rtc_c_handle.specs.Negotiation.{AnswerUnread, AnswerRead}
use Rattle.rtc_c_handle.proofs.held.Held.accept_answer.Goals as goal

pub returns-in-Ok : goal.returns-in-Ok
returns-in-Ok c = record { takes = AnswerRead c.in-Ok.answer.0 c.in-Ok.ensures c.finish.ensures.spends }

pub returns-in-Err : goal.returns-in-Err
returns-in-Err c = record { takes = AnswerUnread c.in-Err.error c.in-Err.ensures (ap (λ (error : RtcError). Err error) c.from.ensures) refl }
