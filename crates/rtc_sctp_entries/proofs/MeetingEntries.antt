-- What closing, opening and taking a message of a stream meet: something.
use Rattle.std.proofs.Common.{ℕ, Bool, true, false, List}
use Rattle.rtc_parts.specs.declared.ppi.Ppi.{Ppi}
use Rattle.rtc_parts.specs.declared.ppi.Ppi.TheVariants as ppi
use Rattle.rtc_parts.specs.AssociationMeaning.{AssociationMeaning}
use Rattle.rtc_sctp_entries.specs.declared.asked.Asked.{Asked}
use Rattle.rtc_sctp_entries.specs.declared.asked.Asked.TheVariants as did
use Rattle.rtc_sctp_entries.specs.declared.read_message.ReadMessage.{ReadMessage}
use Rattle.rtc_sctp_entries.specs.declared.read_message.ReadMessage.TheVariants as message
use Rattle.rtc_sctp_entries.specs.declared.stream_entry_state.StreamEntryState.{StreamEntryState}
use Rattle.rtc_sctp_entries.specs.declared.stream_entry_state.StreamEntryState.TheVariants.{AwaitOpen, AwaitConfig, AwaitDcepAck, Open, Closed}
use Rattle.rtc_sctp_entries.specs.declared.met.Met.TheVariants.{Nothing}
use Rattle.rtc_sctp_entries.specs.Entries.{is_short_entry, is_out_of_band}
use Rattle.rtc_sctp_entries.specs.Visits.{Turn, ClosedBy, Closes, NoRoom, Ended, AnnouncedBy, NoMessage, Written}
use Rattle.rtc_sctp_entries.specs.Visits.{AnnouncesIf, BegunAs, BegunBy, Begins}
use Rattle.rtc_sctp_entries.specs.Visits.{AcknowledgedBy, TakenUpBy, TakenAs, TakesDcep, TakesStreamMessage, HandedBy}

module _ {S : Type 0} (m : AssociationMeaning S) where
  -- closing, opening and taking a message meet something
  closed_by : (a : Asked) (t t' : Turn S) → ClosedBy m a t Nothing t' → ⊥
  closed_by did.Done t t' h = cc (h.0)
  closed_by did.Refused t t' h = cc (h.0)
  closed_by did.OutOfMemory t t' h = cc (h.0)

  pub closes_meet : (t t' : Turn S) → Closes m t Nothing t' → ⊥
  closes_meet t t' (NoRoom h) = cc (h.0)
  closes_meet t t' (Ended a q asks h) = closed_by a (record t { association = q }) t' h

  announced : (a : Asked) (t t' : Turn S) → AnnouncedBy m a t Nothing t' → ⊥
  announced did.Done t t' h = cc (h.0)
  announced did.Refused t t' h = closes_meet t t' h
  announced did.OutOfMemory t t' h = cc (h.0)

  announces_if : (b : Bool) (t t' : Turn S) → AnnouncesIf m b t Nothing t' → ⊥
  announces_if true t t' (NoMessage h) = cc (h.0)
  announces_if true t t' (Written a q asks h) = announced a (record t { association = q }) t' h
  announces_if false t t' h = closes_meet t t' h

  begun_as : (b : Bool) (t t' : Turn S) → BegunAs m b t Nothing t' → ⊥
  begun_as true t t' h = absurd h.0
  begun_as false t t' h = announces_if (is_short_entry t.entry) t t' h

  begun : (a : Asked) (t t' : Turn S) → BegunBy m a t Nothing t' → ⊥
  begun did.Done t t' h = begun_as (is_out_of_band t.entry) t t' h
  begun did.Refused t t' h = closes_meet t t' h
  begun did.OutOfMemory t t' h = cc (h.0)

  pub begins_meet : (t t' : Turn S) → Begins m t Nothing t' → ⊥
  begins_meet t t' h = begun h.answer (record t { association = h.between }) t' h.then

  acknowledged : (a : Asked) (label : List ℕ) (t t' : Turn S) → AcknowledgedBy m a label t Nothing t' → ⊥
  acknowledged did.Done label t t' h = cc (h.0)
  acknowledged did.Refused label t t' h = closes_meet t t' h
  acknowledged did.OutOfMemory label t t' h = cc (h.0)

  taken_up : (a : Asked) (label : List ℕ) (t t' : Turn S) → TakenUpBy m a label t Nothing t' → ⊥
  taken_up did.Done label t t' h = acknowledged h.answer label (record t { association = h.between }) t' h.then
  taken_up did.Refused label t t' h = cc (h.0)
  taken_up did.OutOfMemory label t t' h = cc (h.0)

  taken_as : (read : ReadMessage) (t t' : Turn S) → TakenAs m read t Nothing t' → ⊥
  taken_as (message.Open label config) t t' h = taken_up h.answer label _ t' h.then
  taken_as message.Malformed t t' h = cc (h.0)
  taken_as message.OutOfMemory t t' h = cc (h.0)

  dcep_taken : (st : StreamEntryState) (bytes : List ℕ) (t t' : Turn S) → TakesDcep m st bytes t Nothing t' → ⊥
  dcep_taken AwaitConfig bytes t t' h = taken_as h.message t t' h.then
  dcep_taken AwaitDcepAck bytes t t' h = absurd h.0
  dcep_taken AwaitOpen bytes t t' h = cc (h.0)
  dcep_taken Open bytes t t' h = cc (h.0)
  dcep_taken Closed bytes t t' h = cc (h.0)

  pub message_taken : (identifier : Ppi) (bytes : List ℕ) (t t' : Turn S) → TakesStreamMessage m identifier bytes t Nothing t' → ⊥
  message_taken ppi.Dcep bytes t t' h = dcep_taken t.entry.state bytes t t' h
  message_taken ppi.Text bytes t t' h = cc (h.0)
  message_taken ppi.Binary bytes t t' h = cc (h.0)
  message_taken ppi.EmptyText bytes t t' h = cc (h.0)
  message_taken ppi.EmptyBinary bytes t t' h = cc (h.0)
  message_taken (ppi.Other number) bytes t t' h = cc (h.0)

  pub threshold_handed : (a : Asked) (n : ℕ) (t t' : Turn S) → HandedBy m a n t Nothing t' → ⊥
  threshold_handed did.Done n t t' h = cc (h.0)
  threshold_handed did.Refused n t t' h = cc (h.0)
  threshold_handed did.OutOfMemory n t t' h = cc (h.0)
