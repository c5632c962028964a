use Rattle.std.proofs.Common.{◌≡◌, drop}
use Rattle.rtc_run_history.specs.Memory.{answers_lack}
use Rattle.rtc_run_history.proofs.reply.do_answers_lack.Given as goal

abbrev pub invariant-loop-answer : goal.invariant-loop-answer
invariant-loop-answer l = answers_lack (drop l.answer-index l.answers) ≡ answers_lack l.answers
