-- Messages of streams, as acts of the association and as events that are returned.
use Rattle.std.specs.Prelude.{ℕ, ◌≡◌, ◌++◌, Bool, true, false, List, [], ◌∷◌, Option, Some, None, Result, Ok, Err}
use Rattle.std.specs.List.{list_all}
use Rattle.std.specs.declared.alloc.AllocError.{AllocError}
use Rattle.rtc_parts.specs.declared.ppi.Ppi.{Ppi}
use Rattle.rtc_parts.specs.declared.ppi.Ppi.TheVariants as ppi
use Rattle.rtc_parts.specs.Ppi.{ppi_number, ppi_of}
use Rattle.rtc_parts.specs.AssociationMeaning.{AssociationMeaning}
use Rattle.rtc_parts.specs.AssociationActs.{AssociationAct, Wrote, Read}
use Rattle.rtc_sctp_entries.specs.declared.sctp_event.SctpEvent.{SctpEvent}
use Rattle.rtc_sctp_entries.specs.declared.sctp_event.SctpEvent.TheVariants as event
use Rattle.rtc_sctp_entries.specs.declared.met.Met.{Met}
use Rattle.rtc_sctp_entries.specs.declared.met.Met.TheVariants.{Nothing, Again, Output, OutOfMemory}

-- a message on a generation of a stream, with its identifier
pub record StreamMessage : Type 0 where
  pub stream : ℕ
  pub generation : ℕ
  pub ppi : Ppi
  pub bytes : List ℕ

abbrev pub stream_message : (stream generation : ℕ) → Ppi → List ℕ → StreamMessage
stream_message stream generation ppi bytes = record { stream = stream; generation = generation; ppi = ppi; bytes = bytes }

-- an identifier has its name, if its number has one (RFC 8831, section 8)
abbrev pub IsNamedPpi : Ppi → Type 0
IsNamedPpi i = ppi_of (ppi_number i) ≡ i

-- the identifiers of messages have their names
abbrev pub HaveNamedPpis : List StreamMessage → Type 0
HaveNamedPpis [] = Unit {0}
HaveNamedPpis (x ∷ messages) = IsNamedPpi x.ppi × HaveNamedPpis messages

-- What holds of an association whose readings name identifiers.
abbrev pub NamesReadings : {S : Type 0} → AssociationMeaning S → Type 0
NamesReadings {S} m = (a b : S) (id : ℕ) (i : Ppi) (bytes : List ℕ) → m.read a id (Ok (Some (i, bytes))) b → IsNamedPpi i

-- the act that writes a message, and the one that reads it
abbrev pub write_act : StreamMessage → AssociationAct
write_act x = Wrote x.stream x.generation (ppi_number x.ppi) x.bytes

abbrev pub read_act : StreamMessage → AssociationAct
read_act x = Read x.stream x.generation (ppi_number x.ppi) x.bytes

-- of some acts those that write, and those that read, in order
abbrev pub writes_of : List AssociationAct → List AssociationAct
writes_of [] = []
writes_of (Wrote s g i b ∷ acts) = Wrote s g i b ∷ writes_of acts
writes_of (_ ∷ acts) = writes_of acts

abbrev pub reads_of : List AssociationAct → List AssociationAct
reads_of [] = []
reads_of (Read s g i b ∷ acts) = Read s g i b ∷ reads_of acts
reads_of (_ ∷ acts) = reads_of acts

-- messages that open channels and acknowledge that (RFC 8832, section 8.1)
abbrev pub is_dcep : Ppi → Bool
is_dcep ppi.Dcep = true
is_dcep ppi.Text = false
is_dcep ppi.Binary = false
is_dcep ppi.EmptyText = false
is_dcep ppi.EmptyBinary = false
is_dcep (ppi.Other number) = false

abbrev pub is_dcep_message : StreamMessage → Bool
is_dcep_message x = is_dcep x.ppi

abbrev pub are_dcep : List StreamMessage → Bool
are_dcep messages = list_all is_dcep_message messages

-- what is returned of a message: text and binary are data, the empty ones without bytes (RFC 8831, section 6.6)
abbrev pub shown_message : ℕ → Ppi → List ℕ → List SctpEvent
shown_message id ppi.Dcep bytes = []
shown_message id ppi.Text bytes = event.Data id false bytes ∷ []
shown_message id ppi.Binary bytes = event.Data id true bytes ∷ []
shown_message id ppi.EmptyText bytes = event.Data id false [] ∷ []
shown_message id ppi.EmptyBinary bytes = event.Data id true [] ∷ []
shown_message id (ppi.Other number) bytes = []

abbrev pub shown_messages : List StreamMessage → List SctpEvent
shown_messages [] = []
shown_messages (x ∷ messages) = shown_message x.stream x.ppi x.bytes ++ shown_messages messages

-- what is data of an event
abbrev pub data_event : SctpEvent → List SctpEvent
data_event (event.Transmit packets) = []
data_event (event.Open id label) = []
data_event (event.Close id pending) = []
data_event (event.StreamResetComplete id) = []
data_event (event.Data id binary bytes) = event.Data id binary bytes ∷ []
data_event (event.BufferedAmountLow id) = []
data_event event.AssociationLost = []

abbrev pub data_met : Met → List SctpEvent
data_met Nothing = []
data_met Again = []
data_met (Output e) = data_event e
data_met OutOfMemory = []

-- the packets of an event
abbrev pub packets_event : SctpEvent → List (List ℕ)
packets_event (event.Transmit packets) = packets
packets_event (event.Open id label) = []
packets_event (event.Close id pending) = []
packets_event (event.StreamResetComplete id) = []
packets_event (event.Data id binary bytes) = []
packets_event (event.BufferedAmountLow id) = []
packets_event event.AssociationLost = []

abbrev pub packets_met : Met → List (List ℕ)
packets_met Nothing = []
packets_met Again = []
packets_met (Output e) = packets_event e
packets_met OutOfMemory = []

-- the stream whose completed reset an event reports
abbrev pub resets_event : SctpEvent → List ℕ
resets_event (event.Transmit packets) = []
resets_event (event.Open id label) = []
resets_event (event.Close id pending) = []
resets_event (event.StreamResetComplete id) = id ∷ []
resets_event (event.Data id binary bytes) = []
resets_event (event.BufferedAmountLow id) = []
resets_event event.AssociationLost = []

abbrev pub resets_met : Met → List ℕ
resets_met Nothing = []
resets_met Again = []
resets_met (Output e) = resets_event e
resets_met OutOfMemory = []

-- what the last pass of a poll met, by the result of the poll
abbrev pub met_of : Result (Option SctpEvent) AllocError → Met
met_of (Ok None) = Nothing
met_of (Ok (Some e)) = Output e
met_of (Err x) = OutOfMemory

-- packets that were pushed back and wait to be given again
abbrev pub pushed_packets : Option (List (List ℕ)) → List (List ℕ)
pushed_packets None = []
pushed_packets (Some packets) = packets
