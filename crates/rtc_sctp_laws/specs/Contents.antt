-- What the messages of streams carry for the users of channels: whether it is binary, and its bytes (RFC 8831, section 6.6).
use Rattle.std.specs.Prelude.{ℕ, ◌==◌, if◌then◌else◌, ◌++◌, Bool, true, false, List, [], ◌∷◌}
use Rattle.rtc_parts.specs.declared.ppi.Ppi.{Ppi}
use Rattle.rtc_parts.specs.declared.ppi.Ppi.TheVariants as ppi
use Rattle.rtc_parts.specs.Ppi.{ppi_number, ppi_of}
use Rattle.rtc_parts.specs.AssociationWords.{AssociationMessage}
use Rattle.rtc_sctp_entries.specs.declared.sctp_event.SctpEvent.{SctpEvent}
use Rattle.rtc_sctp_entries.specs.declared.sctp_event.SctpEvent.TheVariants as event
use Rattle.rtc_sctp_laws.specs.StreamMessages.{StreamMessage}

-- text and binary are carried, the empty ones without bytes; a message that opens channels, or one of another identifier, carries nothing
abbrev pub content_of : Ppi → List ℕ → List (Bool × List ℕ)
content_of ppi.Dcep bytes = []
content_of ppi.Text bytes = (false, bytes) ∷ []
content_of ppi.Binary bytes = (true, bytes) ∷ []
content_of ppi.EmptyText bytes = (false, []) ∷ []
content_of ppi.EmptyBinary bytes = (true, []) ∷ []
content_of (ppi.Other number) bytes = []

abbrev pub contents_of : List StreamMessage → List (Bool × List ℕ)
contents_of [] = []
contents_of (x ∷ messages) = content_of x.ppi x.bytes ++ contents_of messages

-- the same by the numbers of identifiers
abbrev pub contents_by : List AssociationMessage → List (Bool × List ℕ)
contents_by [] = []
contents_by (x ∷ messages) = content_of (ppi_of x.identifier) x.bytes ++ contents_by messages

-- a message as acts have it, with the number of its identifier
abbrev pub numbered_message : StreamMessage → AssociationMessage
numbered_message x = record { identifier = ppi_number x.ppi; bytes = x.bytes }

-- the data of a stream among events
abbrev pub data_of : (stream : ℕ) → List SctpEvent → List (Bool × List ℕ)
data_of s [] = []
data_of s (event.Data id binary bytes ∷ events) = if id == s then (binary, bytes) ∷ data_of s events else data_of s events
data_of s (_ ∷ events) = data_of s events
