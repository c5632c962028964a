use Rattle.std.proofs.Common.{Err, ◌∙◌, refl, ap}
use Rattle.rtc_peer_core.specs.declared.rtc_error.RtcError.{RtcError}
use Rattle.rtc.specs.Texts.{AnswerUnread, AnswerRead}
use Rattle.rtc.proofs.signalling.accept_answer_text.Goals as goal

pub returns-in-Ok-clause-accepts : goal.returns-in-Ok-clause-accepts
returns-in-Ok-clause-accepts g c = AnswerRead c.in-Ok.answer.0 c.in-Ok.ensures c.accept_answer.ensures.accepts

pub returns-in-Err-clause-accepts : goal.returns-in-Err-clause-accepts
returns-in-Err-clause-accepts g c = AnswerUnread (record { cause = c.in-Err.error; by_reading = c.in-Err.ensures; error = c.release.ensures ∙ ap (λ (error : RtcError). Err error) c.from.ensures; peer = refl })
