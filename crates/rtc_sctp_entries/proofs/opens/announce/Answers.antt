use Rattle.std.proofs.Common.{◌∙◌, refl}
use Rattle.rtc_sctp_entries.specs.declared.asked.Asked.TheVariants.{Done, Refused, OutOfMemory}
use Rattle.rtc_sctp_entries.specs.Visits.{Written}
use Rattle.rtc_sctp_entries.proofs.opens.announce.Goals as goal

pub returns-in-Done : goal.returns-in-Done
returns-in-Done g c = Written Done _ (rw (c.as_slice.ensures ∙ c.in-Ok.ensures) at c.in-Done.ensures.asks) (refl, rw c.generation.ensures refl)

pub returns-in-Refused : goal.returns-in-Refused
returns-in-Refused g c = Written Refused _ (rw (c.as_slice.ensures ∙ c.in-Ok.ensures) at c.in-Refused.ensures.asks) c.close_entry.ensures

pub returns : goal.returns
returns g c = Written OutOfMemory _ (rw (c.as_slice.ensures ∙ c.in-Ok.ensures) at c.in-OutOfMemory.ensures.asks) (refl, refl)
