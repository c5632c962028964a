-- What each call on streams does to the association under them: what it gives, takes, writes, reads and hears.
use Rattle.std.specs.Prelude.{ℕ, ◌≡◌, ◌++◌, Bool, true, false, List, [], ◌∷◌, map, Result, Ok, Err}
use Rattle.rtc_parts.specs.declared.assoc_event.AssocEvent.{AssocEvent}
use Rattle.rtc_parts.specs.declared.assoc_event.AssocEvent.TheVariants.{ResetComplete, Lost}
use Rattle.rtc_parts.specs.AssociationMeaning.{AssociationMeaning}
use Rattle.rtc_parts.specs.AssociationActs.{AssociationAct, Moved}
use Rattle.rtc_parts.specs.AssociationWords.{given, taken, told}
use Rattle.rtc_sctp_entries.specs.declared.met.Met.{Met}
use Rattle.rtc_sctp_values.specs.declared.sctp_error.SctpError.{SctpError}
use Rattle.rtc_sctp.specs.Streams.{SctpStreams}
use Rattle.rtc_sctp.specs.Calls.{written_ppi, is_nil}
use Rattle.rtc_sctp_laws.specs.StreamMessages.{StreamMessage, stream_message, write_act, read_act, writes_of, reads_of}
use Rattle.rtc_sctp_laws.specs.StreamMessages.{HaveNamedPpis, NamesReadings, are_dcep, shown_messages}
use Rattle.rtc_sctp_laws.specs.StreamMessages.{data_met, packets_met, resets_met, pushed_packets}

-- Acts in order took an association from a to b. They gave it the packets `ins` and no others, took the packets `outs`, polled the events
-- `tells`, and wrote and read these messages. The identifiers read have their names if readings have.
pub record AssociationDid {S : Type 0} (m : AssociationMeaning S) (ins outs : List (List ℕ)) (tells : List AssocEvent)
    (wrote heard : List StreamMessage) (a b : S) : Type 0 where
  pub acts : List AssociationAct
  pub went : Moved m a acts b
  pub given_is : given acts ≡ ins
  pub taken_is : taken acts ≡ outs
  pub told_is : told acts ≡ tells
  pub wrote_is : writes_of acts ≡ map write_act wrote
  pub heard_is : reads_of acts ≡ map read_act heard
  pub named : NamesReadings m → HaveNamedPpis heard

-- What a visit of a stream, or several of them, did. It wrote only messages that open channels, and the data that it returned is what it
-- read. It sent nothing and returned no completed reset.
pub record VisitDid {S : Type 0} (m : AssociationMeaning S) (a : S) (met : Met) (b : S) : Type 0 where
  pub wrote : List StreamMessage
  pub heard : List StreamMessage
  pub did : AssociationDid m [] [] [] wrote heard a b
  pub dcep : are_dcep wrote ≡ true
  pub sent_is : packets_met met ≡ []
  pub reset_is : resets_met met ≡ []
  pub shown_is : data_met met ≡ shown_messages heard

-- the streams whose completed reset is to be reported, after some events: each ResetComplete puts its stream behind them, and a lost
-- association has none
abbrev pub completed_after : List ℕ → List AssocEvent → List ℕ
completed_after completed [] = completed
completed_after completed (ResetComplete id ∷ events) = completed_after (completed ++ id ∷ []) events
completed_after completed (Lost ∷ events) = completed_after [] events
completed_after completed (_ ∷ events) = completed_after completed events

-- What a poll, or a step of one, did. What it sent, with what is pushed back afterwards, is what was pushed back before and what it took.
-- The data that it returned is what it read, and it wrote only messages that open channels. The completed resets that it reports, with
-- those that are still to be reported, are those that were to be reported before and those that it polled.
pub record PollDid {S : Type 0} (m : AssociationMeaning S) (p : SctpStreams S) (met : Met) (q : SctpStreams S) : Type 0 where
  pub outs : List (List ℕ)
  pub tells : List AssocEvent
  pub wrote : List StreamMessage
  pub heard : List StreamMessage
  pub did : AssociationDid m [] outs tells wrote heard p.association q.association
  pub dcep : are_dcep wrote ≡ true
  pub sent_is : packets_met met ++ pushed_packets q.pushed ≡ pushed_packets p.pushed ++ outs
  pub shown_is : data_met met ≡ shown_messages heard
  pub completed_is : completed_after p.completed tells ≡ resets_met met ++ q.completed

-- a call that gave these packets, wrote these messages, and took, read and polled nothing; what is pushed back, and what is to be reported,
-- is unchanged
pub record CallDid {S : Type 0} (m : AssociationMeaning S) (ins : List (List ℕ)) (wrote : List StreamMessage)
    (p q : SctpStreams S) : Type 0 where
  pub did : AssociationDid m ins [] [] wrote [] p.association q.association
  pub pushed_is : q.pushed ≡ p.pushed
  pub completed_is : q.completed ≡ p.completed

-- the message of a write that was Ok
abbrev pub written_message : (stream generation : ℕ) → (binary : Bool) → List ℕ → Result ℕ SctpError → List StreamMessage
written_message stream generation binary bytes (Ok n) =
    stream_message stream generation (written_ppi binary (is_nil bytes)) bytes ∷ []
written_message stream generation binary bytes (Err e) = []

-- a packet if the association was started, and none before
abbrev pub given_packet : Bool → List ℕ → List (List ℕ)
given_packet true packet = packet ∷ []
given_packet false packet = []
