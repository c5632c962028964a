use Rattle.std.proofs.Common.{refl}
use Rattle.rtc_sctp_entries.specs.declared.asked.Asked.TheVariants.{Done, Refused, OutOfMemory}
use Rattle.rtc_sctp_entries.specs.Visits.{Ended}
use Rattle.rtc_sctp_entries.proofs.closing.close_entry.Goals as goal

pub returns-in-Done : goal.returns-in-Done
returns-in-Done g c =
    rw (c.tell_close.ensures.told, c.tell_close.ensures.closed, c.as_slice.ensures.value, c.note_reset.ensures, c.reserve.ensures.items)
    (Ended Done _ c.in-Done.ensures.asks (refl, refl))

pub returns-in-Refused : goal.returns-in-Refused
returns-in-Refused g c =
    rw (c.tell_close-in-Refused.ensures.told, c.tell_close-in-Refused.ensures.closed, c.as_slice-in-Refused.ensures.value, c.reserve.ensures.items)
    (Ended Refused _ c.in-Refused.ensures.asks (refl, refl))

pub returns-in-OutOfMemory : goal.returns-in-OutOfMemory
returns-in-OutOfMemory g c = rw c.reserve.ensures.items (Ended OutOfMemory _ c.in-OutOfMemory.ensures.asks (refl, refl))
