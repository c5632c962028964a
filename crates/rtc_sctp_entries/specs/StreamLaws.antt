-- What the laws of streams say of visits.
use Rattle.std.specs.Prelude.{ℕ, Bool, true, false, Option, Some, None}
use Rattle.rtc_sctp_entries.specs.declared.sctp_event.SctpEvent.{SctpEvent}
use Rattle.rtc_sctp_entries.specs.declared.sctp_event.SctpEvent.TheVariants as event
use Rattle.rtc_sctp_entries.specs.declared.met.Met.{Met}
use Rattle.rtc_sctp_entries.specs.declared.met.Met.TheVariants.{Nothing, Again, Output, OutOfMemory}
use Rattle.rtc_sctp_entries.specs.Visits.{is_opening_over}

-- whether ten seconds went by since an opening was refused first
abbrev pub is_given_up : ℕ → Option ℕ → Bool
is_given_up now None = false
is_given_up now (Some first) = is_opening_over first now

abbrev pub is_data_event : SctpEvent → Bool
is_data_event (event.Transmit packets) = false
is_data_event (event.Open id label) = false
is_data_event (event.Close id pending) = false
is_data_event (event.StreamResetComplete id) = false
is_data_event (event.Data id binary bytes) = true
is_data_event (event.BufferedAmountLow id) = false
is_data_event event.AssociationLost = false

-- whether a message of the other end is returned
abbrev pub is_data_met : Met → Bool
is_data_met Nothing = false
is_data_met Again = false
is_data_met (Output e) = is_data_event e
is_data_met OutOfMemory = false

abbrev pub is_nothing_met : Met → Bool
is_nothing_met Nothing = true
is_nothing_met Again = false
is_nothing_met (Output e) = false
is_nothing_met OutOfMemory = false
