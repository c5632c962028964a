-- Results of an association, as streams distinguish them.
use Rattle.std.specs.Prelude.{ℕ, List, Option, Some, None, Result, Ok, Err}
use Rattle.rtc_parts.specs.declared.assoc_error.AssocError.{AssocError}
use Rattle.rtc_parts.specs.declared.assoc_error.AssocError.TheVariants.{StreamExists, ResetPending, Alloc}
use Rattle.rtc_parts.specs.declared.ppi.Ppi.{Ppi}
use Rattle.rtc_sctp_entries.specs.declared.asked.Asked.{Asked}
use Rattle.rtc_sctp_entries.specs.declared.asked.Asked.TheVariants as did
use Rattle.rtc_sctp_entries.specs.declared.opening.Opening.{Opening}
use Rattle.rtc_sctp_entries.specs.declared.opening.Opening.TheVariants as opened
use Rattle.rtc_sctp_entries.specs.declared.heard.Heard.{Heard}
use Rattle.rtc_sctp_entries.specs.declared.heard.Heard.TheVariants as heard

abbrev pub asked_of : {T : Type 0} → Result T AssocError → Asked
asked_of (Ok _) = did.Done
asked_of (Err Alloc) = did.OutOfMemory
asked_of (Err _) = did.Refused

abbrev pub opening_of : Result (Unit {0}) AssocError → Opening
opening_of (Ok _) = opened.Done
opening_of (Err StreamExists) = opened.Exists
opening_of (Err ResetPending) = opened.Pending
opening_of (Err Alloc) = opened.OutOfMemory
opening_of (Err _) = opened.Refused

abbrev pub heard_of : Result (Option (Ppi × List ℕ)) AssocError → Heard
heard_of (Ok None) = heard.Nothing
heard_of (Ok (Some message)) = heard.Message message.0 message.1
heard_of (Err Alloc) = heard.OutOfMemory
heard_of (Err _) = heard.Refused
