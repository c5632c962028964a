-- Data that comes while the open message of a stream waits for its answer: it is handed out before the stream is told to be open.
use Rattle.std.proofs.Common.{false, [], ◌∷◌, Some, None, refl}
use Rattle.rtc_parts.specs.declared.ppi.Ppi.TheVariants as ppi
use Rattle.rtc_parts.specs.AssociationMeaning.{AssociationMeaning}
use Rattle.rtc_sctp_entries.specs.declared.heard.Heard.TheVariants as heard
use Rattle.rtc_sctp_entries.specs.declared.met.Met.{Met}
use Rattle.rtc_sctp_entries.specs.declared.met.Met.TheVariants.{Output}
use Rattle.rtc_sctp_entries.specs.declared.sctp_event.SctpEvent.TheVariants as event
use Rattle.rtc_sctp_entries.specs.declared.stream_entry.StreamEntry.{StreamEntry}
use Rattle.rtc_sctp_entries.specs.declared.stream_entry_state.StreamEntryState.TheVariants.{AwaitConfig, AwaitDcepAck}
use Rattle.rtc_sctp_entries.specs.Entries.{new_entry}
use Rattle.rtc_sctp_entries.specs.Visits.{ReadBy, Turn, VisitsIn, Attends, turn}

-- an entry that has written its open message, in generation 0 of stream 4
abbrev waiting : StreamEntry
waiting = record (new_entry 4 AwaitConfig None) { state = AwaitDcepAck; generation = Some 0 }

-- a visit reads of it what it would read of an open entry
reads_as_open : {S : Type 0} (m : AssociationMeaning S) (a : S) (met : Met) (t : Turn S) → Attends m (turn a waiting []) met t
    → VisitsIn m AwaitDcepAck 0 (turn a waiting []) met t
reads_as_open m a met t h = h

-- and a text that it reads is told
told_early : {S : Type 0} (m : AssociationMeaning S) (a : S)
    → ReadBy m (heard.Message ppi.Text (104 ∷ [])) (turn a waiting []) (Output (event.Data 4 false (104 ∷ []))) (turn a waiting [])
told_early m a = (refl, refl)
