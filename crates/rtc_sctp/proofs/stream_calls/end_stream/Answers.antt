use Rattle.std.proofs.Common.{◌∙◌, ap}
use Rattle.rtc_sctp_entries.specs.Entries.{with_reset}
use Rattle.rtc_sctp_entries.specs.declared.asked.Asked.TheVariants.{Done, Refused, OutOfMemory}
use Rattle.rtc_sctp.specs.StreamCalls.{Ended}
use Rattle.rtc_sctp.proofs.stream_calls.end_stream.Goals as goal

pub returns-in-Done : goal.returns-in-Done
returns-in-Done g c = Ended Done c.in-Done.ensures.asks (c.note_reset.ensures ∙ ap (with_reset c.args.id) c.in_ok-reserve.ensures.items)

pub returns-in-Refused : goal.returns-in-Refused
returns-in-Refused g c = Ended Refused c.in-Refused.ensures.asks c.in_ok-reserve.ensures.items

pub returns-in-OutOfMemory : goal.returns-in-OutOfMemory
returns-in-OutOfMemory g c = Ended OutOfMemory c.in-OutOfMemory.ensures.asks c.in_ok-reserve.ensures.items
