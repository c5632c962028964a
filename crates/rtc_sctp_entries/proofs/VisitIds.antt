-- A visit leaves the number of the entry.
use Rattle.std.proofs.Common.{◌≡◌, ℕ, Bool, true, false, List, Option, Some, None, refl, ap, ◌∙◌}
use Rattle.rtc_parts.specs.declared.ppi.Ppi.{Ppi}
use Rattle.rtc_parts.specs.declared.ppi.Ppi.TheVariants as ppi
use Rattle.rtc_parts.specs.AssociationMeaning.{AssociationMeaning}
use Rattle.rtc_sctp_entries.specs.declared.asked.Asked.{Asked}
use Rattle.rtc_sctp_entries.specs.declared.asked.Asked.TheVariants as did
use Rattle.rtc_sctp_entries.specs.declared.opening.Opening.{Opening}
use Rattle.rtc_sctp_entries.specs.declared.opening.Opening.TheVariants as opened
use Rattle.rtc_sctp_entries.specs.declared.heard.Heard.{Heard}
use Rattle.rtc_sctp_entries.specs.declared.heard.Heard.TheVariants as heard
use Rattle.rtc_sctp_entries.specs.declared.read_message.ReadMessage.{ReadMessage}
use Rattle.rtc_sctp_entries.specs.declared.read_message.ReadMessage.TheVariants as read
use Rattle.rtc_sctp_entries.specs.declared.buffered_threshold_config.BufferedThresholdConfig.{BufferedThresholdConfig}
use Rattle.rtc_sctp_entries.specs.declared.buffered_threshold_config.BufferedThresholdConfig.TheVariants.{Unconfigured, Desired, Configured}
use Rattle.rtc_sctp_entries.specs.declared.stream_entry_state.StreamEntryState.{StreamEntryState}
use Rattle.rtc_sctp_entries.specs.declared.stream_entry_state.StreamEntryState.TheVariants.{AwaitOpen, AwaitConfig, AwaitDcepAck, Open, Closed}
use Rattle.rtc_sctp_entries.specs.declared.met.Met.{Met}
use Rattle.rtc_sctp_entries.specs.declared.met.Met.TheVariants.{Nothing, Again, Output, OutOfMemory}
use Rattle.rtc_sctp_entries.specs.declared.stream_entry.StreamEntry.{StreamEntry}
use Rattle.rtc_sctp_entries.specs.Entries.{is_short_entry, is_out_of_band}
use Rattle.rtc_sctp_entries.specs.Visits.{Turn, Settles, TakesAck, ForEntry, given_config, ClosedBy, Closes, NoRoom, Ended, AnnouncedBy, Announces, NoMessage, Written, AnnouncesIf, BegunAs, BegunBy, Begins, RetriedIf, RetriedAt, is_adopted, AdoptedIf, OpenedBy, OpensEntry, AcknowledgedBy, Acknowledges, TakenUpBy, TakesUp, TakenAs, TakesDcep, TakesStreamMessage, ReadBy, ReadsEntry, MayRead, IsRead, NothingUnread, HandedBy, AttendsBy, AttendsIf, is_entry_there, VisitsIn, Visits, is_opening_over}

module _ {S : Type 0} (m : AssociationMeaning S) where
  same : (u t' : Turn S) (id : ℕ) → t' ≡ u → u.entry.id ≡ id → t'.entry.id ≡ id
  same u t' id e f = ap (λ (x : Turn S). x.entry.id) e ∙ f

  closed_by : (a : Asked) (t : Turn S) (met : Met) (t' : Turn S) → ClosedBy m a t met t' → t'.entry.id ≡ t.entry.id
  closed_by did.Done t met t' h = same _ t' t.entry.id h.1 refl
  closed_by did.Refused t met t' h = same _ t' t.entry.id h.1 refl
  closed_by did.OutOfMemory t met t' h = same _ t' t.entry.id h.1 refl

  closes : (t : Turn S) (met : Met) (t' : Turn S) → Closes m t met t' → t'.entry.id ≡ t.entry.id
  closes t met t' (NoRoom h) = same _ t' t.entry.id h.1 refl
  closes t met t' (Ended a q k h) = closed_by a (record t { association = q }) met t' h

  announced : (a : Asked) (t : Turn S) (met : Met) (t' : Turn S) → AnnouncedBy m a t met t' → t'.entry.id ≡ t.entry.id
  announced did.Done t met t' h = same _ t' t.entry.id h.1 refl
  announced did.Refused t met t' h = closes t met t' h
  announced did.OutOfMemory t met t' h = same _ t' t.entry.id h.1 refl

  announces : (t : Turn S) (met : Met) (t' : Turn S) → Announces m t met t' → t'.entry.id ≡ t.entry.id
  announces t met t' (NoMessage h) = same _ t' t.entry.id h.1 refl
  announces t met t' (Written a q k h) = announced a (record t { association = q }) met t' h

  announces_if : (b : Bool) (t : Turn S) (met : Met) (t' : Turn S) → AnnouncesIf m b t met t' → t'.entry.id ≡ t.entry.id
  announces_if true t met t' h = announces t met t' h
  announces_if false t met t' h = closes t met t' h

  settled : (e : StreamEntry) (met : Met) (e' : StreamEntry) → Settles e met e' → e'.id ≡ e.id
  settled e Nothing e' h = absurd h
  settled e Again e' h = absurd h
  settled e (Output o) e' h = ap (λ (x : StreamEntry). x.id) h.1
  settled e OutOfMemory e' h = ap (λ (x : StreamEntry). x.id) h

  settles : (t : Turn S) (met : Met) (t' : Turn S) → ForEntry Settles t met t' → t'.entry.id ≡ t.entry.id
  settles t met t' h = settled t.entry met t'.entry h.0

  begun_as : (b : Bool) (t : Turn S) (met : Met) (t' : Turn S) → BegunAs m b t met t' → t'.entry.id ≡ t.entry.id
  begun_as true t met t' h = settles t met t' h
  begun_as false t met t' h = announces_if (is_short_entry t.entry) t met t' h

  begun : (a : Asked) (t : Turn S) (met : Met) (t' : Turn S) → BegunBy m a t met t' → t'.entry.id ≡ t.entry.id
  begun did.Done t met t' h = begun_as (is_out_of_band t.entry) t met t' h
  begun did.Refused t met t' h = closes t met t' h
  begun did.OutOfMemory t met t' h = same _ t' t.entry.id h.1 refl

  begins : (t : Turn S) (met : Met) (t' : Turn S) → Begins m t met t' → t'.entry.id ≡ t.entry.id
  begins t met t' h = begun h.answer (record t { association = h.between }) met t' h.then

  retried_if : (b : Bool) (t : Turn S) (met : Met) (t' : Turn S) → RetriedIf m b t met t' → t'.entry.id ≡ t.entry.id
  retried_if true t met t' h = closes t met t' h
  retried_if false t met t' h = same _ t' t.entry.id h.1 refl

  retried : (now : ℕ) (o : Option ℕ) (t : Turn S) (met : Met) (t' : Turn S) → RetriedAt m now o t met t' → t'.entry.id ≡ t.entry.id
  retried now None t met t' h = same _ t' t.entry.id h.1 refl
  retried now (Some first) t met t' h = retried_if (is_opening_over first now) t met t' h

  adopted : (b : Bool) (now : ℕ) (t : Turn S) (met : Met) (t' : Turn S) → AdoptedIf m b now t met t' → t'.entry.id ≡ t.entry.id
  adopted true now t met t' h = begins t met t' h
  adopted false now t met t' h = retried now t.entry.refused t met t' h

  opened_by : (a : Opening) (now : ℕ) (t : Turn S) (met : Met) (t' : Turn S) → OpenedBy m a now t met t' → t'.entry.id ≡ t.entry.id
  opened_by opened.Done now t met t' h = begins t met t' h
  opened_by opened.Exists now t met t' h = adopted (is_adopted m t) now t met t' h
  opened_by opened.Pending now t met t' h = retried now t.entry.refused t met t' h
  opened_by opened.Refused now t met t' h = closes t met t' h
  opened_by opened.OutOfMemory now t met t' h = same _ t' t.entry.id h.1 refl

  opens : (now : ℕ) (t : Turn S) (met : Met) (t' : Turn S) → OpensEntry m now t met t' → t'.entry.id ≡ t.entry.id
  opens now t met t' h = opened_by h.answer now (record t { association = h.between }) met t' h.then

  acknowledged : (a : Asked) (label : List ℕ) (t : Turn S) (met : Met) (t' : Turn S) → AcknowledgedBy m a label t met t' → t'.entry.id ≡ t.entry.id
  acknowledged did.Done label t met t' h = same _ t' t.entry.id h.1 refl
  acknowledged did.Refused label t met t' h = closes t met t' h
  acknowledged did.OutOfMemory label t met t' h = same _ t' t.entry.id h.1 refl

  acknowledges : (label : List ℕ) (t : Turn S) (met : Met) (t' : Turn S) → Acknowledges m label t met t' → t'.entry.id ≡ t.entry.id
  acknowledges label t met t' h = acknowledged h.answer label (record t { association = h.between }) met t' h.then

  taken_up : (a : Asked) (label : List ℕ) (t : Turn S) (met : Met) (t' : Turn S) → TakenUpBy m a label t met t' → t'.entry.id ≡ t.entry.id
  taken_up did.Done label t met t' h = acknowledges label t met t' h
  taken_up did.Refused label t met t' h = same _ t' t.entry.id h.1 refl
  taken_up did.OutOfMemory label t met t' h = same _ t' t.entry.id h.1 refl

  takes_up : (label : List ℕ) (t : Turn S) (met : Met) (t' : Turn S) → TakesUp m label t met t' → t'.entry.id ≡ t.entry.id
  takes_up label t met t' h = taken_up h.answer label (record t { association = h.between }) met t' h.then

  taken_as : (r : ReadMessage) (t : Turn S) (met : Met) (t' : Turn S) → TakenAs m r t met t' → t'.entry.id ≡ t.entry.id
  taken_as (read.Open label config) t met t' h = takes_up label (record t { entry = record t.entry { config = given_config t.entry.config config } }) met t' h
  taken_as read.Malformed t met t' h = same _ t' t.entry.id h.1 refl
  taken_as read.OutOfMemory t met t' h = same _ t' t.entry.id h.1 refl

  acked_by : (bytes : List ℕ) (e : StreamEntry) (met : Met) (e' : StreamEntry) → TakesAck bytes e met e' → e'.id ≡ e.id
  acked_by bytes e Nothing e' h = absurd h
  acked_by bytes e Again e' h = ap (λ (x : StreamEntry). x.id) h.1
  acked_by bytes e (Output o) e' h = settled e (Output o) e' h.1
  acked_by bytes e OutOfMemory e' h = settled e OutOfMemory e' h.1

  acked : (bytes : List ℕ) (t : Turn S) (met : Met) (t' : Turn S) → ForEntry (TakesAck bytes) t met t' → t'.entry.id ≡ t.entry.id
  acked bytes t met t' h = acked_by bytes t.entry met t'.entry h.0

  dcep : (st : StreamEntryState) (bytes : List ℕ) (t : Turn S) (met : Met) (t' : Turn S) → TakesDcep m st bytes t met t' → t'.entry.id ≡ t.entry.id
  dcep AwaitConfig bytes t met t' h = taken_as h.message t met t' h.then
  dcep AwaitDcepAck bytes t met t' h = acked bytes t met t' h
  dcep AwaitOpen bytes t met t' h = same _ t' t.entry.id h.1 refl
  dcep Open bytes t met t' h = same _ t' t.entry.id h.1 refl
  dcep Closed bytes t met t' h = same _ t' t.entry.id h.1 refl

  message : (i : Ppi) (bytes : List ℕ) (t : Turn S) (met : Met) (t' : Turn S) → TakesStreamMessage m i bytes t met t' → t'.entry.id ≡ t.entry.id
  message ppi.Dcep bytes t met t' h = dcep t.entry.state bytes t met t' h
  message ppi.Text bytes t met t' h = same _ t' t.entry.id h.1 refl
  message ppi.Binary bytes t met t' h = same _ t' t.entry.id h.1 refl
  message ppi.EmptyText bytes t met t' h = same _ t' t.entry.id h.1 refl
  message ppi.EmptyBinary bytes t met t' h = same _ t' t.entry.id h.1 refl
  message (ppi.Other n) bytes t met t' h = same _ t' t.entry.id h.1 refl

  read_by : (a : Heard) (t : Turn S) (met : Met) (t' : Turn S) → ReadBy m a t met t' → t'.entry.id ≡ t.entry.id
  read_by heard.Nothing t met t' h = same _ t' t.entry.id h.1 refl
  read_by (heard.Message i bytes) t met t' h = message i bytes t met t' h
  read_by heard.Refused t met t' h = same _ t' t.entry.id h.1 refl
  read_by heard.OutOfMemory t met t' h = same _ t' t.entry.id h.1 refl

  reads : (t : Turn S) (met : Met) (t' : Turn S) → ReadsEntry m t met t' → t'.entry.id ≡ t.entry.id
  reads t met t' h = read_by h.answer (record t { association = h.between }) met t' h.then

  may_read : (t : Turn S) (met : Met) (t' : Turn S) → MayRead m t met t' → t'.entry.id ≡ t.entry.id
  may_read t met t' (IsRead h) = reads t met t' h
  may_read t met t' (NothingUnread unread e f) = same _ t' t.entry.id f refl

  handed : (a : Asked) (n : ℕ) (t : Turn S) (met : Met) (t' : Turn S) → HandedBy m a n t met t' → t'.entry.id ≡ t.entry.id
  handed did.Done n t met t' h = same _ t' t.entry.id h.1 refl
  handed did.Refused n t met t' h = same _ t' t.entry.id h.1 refl
  handed did.OutOfMemory n t met t' h = same _ t' t.entry.id h.1 refl

  attends_by : (b : BufferedThresholdConfig) (t : Turn S) (met : Met) (t' : Turn S) → AttendsBy m b t met t' → t'.entry.id ≡ t.entry.id
  attends_by (Desired n) t met t' h = handed h.answer n (record t { association = h.between }) met t' h.then
  attends_by Unconfigured t met t' h = may_read t met t' h
  attends_by (Configured n) t met t' h = may_read t met t' h

  attends_if : (b c : Bool) (t : Turn S) (met : Met) (t' : Turn S) → AttendsIf m b c t met t' → t'.entry.id ≡ t.entry.id
  attends_if true c t met t' h = closes t met t' h
  attends_if false false t met t' h = same _ t' t.entry.id h.1 refl
  attends_if false true t met t' h = attends_by t.entry.threshold t met t' h

  visits_in : (st : StreamEntryState) (now : ℕ) (t : Turn S) (met : Met) (t' : Turn S) → VisitsIn m st now t met t' → t'.entry.id ≡ t.entry.id
  visits_in AwaitOpen now t met t' h = opens now t met t' h
  visits_in AwaitConfig now t met t' h = attends_if t.entry.marked (is_entry_there m t.association t.entry) t met t' h
  visits_in AwaitDcepAck now t met t' h = attends_if t.entry.marked (is_entry_there m t.association t.entry) t met t' h
  visits_in Open now t met t' h = attends_if t.entry.marked (is_entry_there m t.association t.entry) t met t' h
  visits_in Closed now t met t' h = same _ t' t.entry.id h.1 refl

  pub visits_id : (now : ℕ) (t : Turn S) (met : Met) (t' : Turn S) → Visits m now t met t' → t'.entry.id ≡ t.entry.id
  visits_id now t met t' h = visits_in t.entry.state now t met t' h
