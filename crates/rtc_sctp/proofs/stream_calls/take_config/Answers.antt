use Rattle.std.proofs.Common.{◌∙◌, refl, sym}
use Rattle.rtc_sctp_entries.specs.declared.asked.Asked.TheVariants.{Done, Refused, OutOfMemory}
use Rattle.rtc_sctp.specs.StreamCalls.{Answered}
use Rattle.rtc_sctp.proofs.stream_calls.take_config.Goals as goal

pub returns-in-Done : goal.returns-in-Done
returns-in-Done g c = Answered Done (sym c.can_take.ensures ∙ c.if-can_take.true) c.in-Done.ensures.asks c.open_by_config.ensures

pub returns-in-Refused : goal.returns-in-Refused
returns-in-Refused g c = Answered Refused (sym c.can_take.ensures ∙ c.if-can_take.true) c.in-Refused.ensures.asks refl

pub returns-in-OutOfMemory : goal.returns-in-OutOfMemory
returns-in-OutOfMemory g c = Answered OutOfMemory (sym c.can_take.ensures ∙ c.if-can_take.true) c.in-OutOfMemory.ensures.asks refl
