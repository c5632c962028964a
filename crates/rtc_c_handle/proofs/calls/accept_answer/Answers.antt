use Rattle.std.proofs.Common.{ℕ, List, subst}
use Rattle.rtc_c_handle.specs.Calls.{AnswerGiven, OnPeer, IsText}
use Rattle.rtc_c_handle.proofs.calls.accept_answer.Goals as goal

pub returns : goal.returns
returns c = IsText c.in-Ok.ensures.cases.1 (subst (λ (text : List ℕ). OnPeer (λ h status g. AnswerGiven text h status g) c.args.slot.now.handle.value c.accept_answer_of.result c.accept_answer_of.new.slot.handle.value) c.in-Ok.ensures.cases.0 c.accept_answer_of.ensures)
