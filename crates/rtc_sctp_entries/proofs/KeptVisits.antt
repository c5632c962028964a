-- What a visit keeps of the association: what each call keeps.
use Rattle.std.proofs.Common.{◌≡◌, ℕ, Bool, true, false, List, Option, Some, None, Result, sym, subst}
use Rattle.rtc_wire.specs.declared.reliability_type.ReliabilityType.{ReliabilityType}
use Rattle.rtc_parts.specs.declared.assoc_error.AssocError.{AssocError}
use Rattle.rtc_parts.specs.declared.ppi.Ppi.{Ppi}
use Rattle.rtc_parts.specs.declared.ppi.Ppi.TheVariants as ppi
use Rattle.rtc_parts.specs.AssociationMeaning.{AssociationMeaning}
use Rattle.rtc_sctp_entries.specs.declared.asked.Asked.{Asked}
use Rattle.rtc_sctp_entries.specs.declared.asked.Asked.TheVariants as did
use Rattle.rtc_sctp_entries.specs.declared.opening.Opening.{Opening}
use Rattle.rtc_sctp_entries.specs.declared.opening.Opening.TheVariants as opened
use Rattle.rtc_sctp_entries.specs.declared.heard.Heard.{Heard}
use Rattle.rtc_sctp_entries.specs.declared.heard.Heard.TheVariants as heard
use Rattle.rtc_sctp_entries.specs.declared.read_message.ReadMessage.{ReadMessage}
use Rattle.rtc_sctp_entries.specs.declared.read_message.ReadMessage.TheVariants as read
use Rattle.rtc_sctp_entries.specs.declared.buffered_threshold_config.BufferedThresholdConfig.{BufferedThresholdConfig}
use Rattle.rtc_sctp_entries.specs.declared.buffered_threshold_config.BufferedThresholdConfig.TheVariants.{Unconfigured, Desired, Configured}
use Rattle.rtc_sctp_entries.specs.declared.stream_entry_state.StreamEntryState.{StreamEntryState}
use Rattle.rtc_sctp_entries.specs.declared.stream_entry_state.StreamEntryState.TheVariants.{AwaitOpen, AwaitConfig, AwaitDcepAck, Open, Closed}
use Rattle.rtc_sctp_entries.specs.declared.met.Met.{Met}
use Rattle.rtc_sctp_entries.specs.Entries.{is_short_entry, is_out_of_band}
use Rattle.rtc_sctp_entries.specs.Visits.{Turn, given_config, ClosedBy, Closes, NoRoom, Ended, AnnouncedBy, Announces, NoMessage, Written, AnnouncesIf, BegunAs, BegunBy, Begins, RetriedIf, RetriedAt, is_adopted, AdoptedIf, OpenedBy, OpensEntry, AcknowledgedBy, Acknowledges, TakenUpBy, TakesUp, TakenAs, TakesDcep, TakesStreamMessage, ReadBy, ReadsEntry, MayRead, IsRead, NothingUnread, HandedBy, AttendsBy, AttendsIf, is_entry_there, VisitsIn, Visits, is_opening_over}

-- what each call of an association keeps, if one stream alone is written to
pub record KeepsCalls {S : Type 0} (m : AssociationMeaning S) (own : ℕ) (P : S → Type 0) : Type 0 where
  pub opened : (p q : S) (id : ℕ) (r : Result (Unit {0}) AssocError) → P p → m.opened p id r q → P q
  pub wrote : (p q : S) (id : ℕ) (ppi : Ppi) (b : List ℕ) (r : Result ℕ AssocError) → id ≡ own → P p → m.wrote p id ppi b r q → P q
  pub read : (p q : S) (id : ℕ) (r : Result (Option (Ppi × List ℕ)) AssocError) → P p → m.read p id r q → P q
  pub ended : (p q : S) (id : ℕ) (r : Result (Unit {0}) AssocError) → P p → m.ended p id r q → P q
  pub threshold : (p q : S) (id n : ℕ) (r : Result (Unit {0}) AssocError) → P p → m.threshold_set p id n r q → P q
  pub reliability : (p q : S) (id : ℕ) (u : Bool) (t : ReliabilityType) (n : ℕ) (r : Result (Unit {0}) AssocError) → P p
      → m.reliability_set p id u t n r q → P q

module _ {S : Type 0} (m : AssociationMeaning S) (own : ℕ) (P : S → Type 0) (keeps : KeepsCalls m own P) where
  same : (u t' : Turn S) → t' ≡ u → P u.association → P t'.association
  same u t' e s = subst (λ (x : Turn S). P x.association) (sym e) s

  closed_by : (a : Asked) (t : Turn S) (met : Met) (t' : Turn S) → t.entry.id ≡ own → P t.association → ClosedBy m a t met t' → P t'.association
  closed_by did.Done t met t' o s h = same _ t' h.1 s
  closed_by did.Refused t met t' o s h = same _ t' h.1 s
  closed_by did.OutOfMemory t met t' o s h = same _ t' h.1 s

  closes : (t : Turn S) (met : Met) (t' : Turn S) → t.entry.id ≡ own → P t.association → Closes m t met t' → P t'.association
  closes t met t' o s (NoRoom h) = same _ t' h.1 s
  closes t met t' o s (Ended a q k h) = closed_by a (record t { association = q }) met t' o (keeps.ended t.association q t.entry.id k.result s k.called) h

  announced : (a : Asked) (t : Turn S) (met : Met) (t' : Turn S) → t.entry.id ≡ own → P t.association → AnnouncedBy m a t met t' → P t'.association
  announced did.Done t met t' o s h = same _ t' h.1 s
  announced did.Refused t met t' o s h = closes t met t' o s h
  announced did.OutOfMemory t met t' o s h = same _ t' h.1 s

  announces : (t : Turn S) (met : Met) (t' : Turn S) → t.entry.id ≡ own → P t.association → Announces m t met t' → P t'.association
  announces t met t' o s (NoMessage h) = same _ t' h.1 s
  announces t met t' o s (Written a q k h) = announced a (record t { association = q }) met t' o (keeps.wrote t.association q t.entry.id ppi.Dcep _ k.result o s k.called) h

  announces_if : (b : Bool) (t : Turn S) (met : Met) (t' : Turn S) → t.entry.id ≡ own → P t.association → AnnouncesIf m b t met t' → P t'.association
  announces_if true t met t' o s h = announces t met t' o s h
  announces_if false t met t' o s h = closes t met t' o s h

  begun_as : (b : Bool) (t : Turn S) (met : Met) (t' : Turn S) → t.entry.id ≡ own → P t.association → BegunAs m b t met t' → P t'.association
  begun_as true t met t' o s h = same _ t' h.1 s
  begun_as false t met t' o s h = announces_if (is_short_entry t.entry) t met t' o s h

  begun : (a : Asked) (t : Turn S) (met : Met) (t' : Turn S) → t.entry.id ≡ own → P t.association → BegunBy m a t met t' → P t'.association
  begun did.Done t met t' o s h = begun_as (is_out_of_band t.entry) t met t' o s h
  begun did.Refused t met t' o s h = closes t met t' o s h
  begun did.OutOfMemory t met t' o s h = same _ t' h.1 s

  begins : (t : Turn S) (met : Met) (t' : Turn S) → t.entry.id ≡ own → P t.association → Begins m t met t' → P t'.association
  begins t met t' o s h = begun h.answer (record t { association = h.between }) met t' o (keeps.reliability t.association h.between t.entry.id _ _ _ h.asks.result s h.asks.called) h.then

  retried_if : (b : Bool) (t : Turn S) (met : Met) (t' : Turn S) → t.entry.id ≡ own → P t.association → RetriedIf m b t met t' → P t'.association
  retried_if true t met t' o s h = closes t met t' o s h
  retried_if false t met t' o s h = same _ t' h.1 s

  retried : (now : ℕ) (o : Option ℕ) (t : Turn S) (met : Met) (t' : Turn S) → t.entry.id ≡ own → P t.association → RetriedAt m now o t met t' → P t'.association
  retried now None t met t' o s h = same _ t' h.1 s
  retried now (Some first) t met t' o s h = retried_if (is_opening_over first now) t met t' o s h

  adopted : (b : Bool) (now : ℕ) (t : Turn S) (met : Met) (t' : Turn S) → t.entry.id ≡ own → P t.association → AdoptedIf m b now t met t' → P t'.association
  adopted true now t met t' o s h = begins t met t' o s h
  adopted false now t met t' o s h = retried now t.entry.refused t met t' o s h

  opened_by : (a : Opening) (now : ℕ) (t : Turn S) (met : Met) (t' : Turn S) → t.entry.id ≡ own → P t.association → OpenedBy m a now t met t' → P t'.association
  opened_by opened.Done now t met t' o s h = begins t met t' o s h
  opened_by opened.Exists now t met t' o s h = adopted (is_adopted m t) now t met t' o s h
  opened_by opened.Pending now t met t' o s h = retried now t.entry.refused t met t' o s h
  opened_by opened.Refused now t met t' o s h = closes t met t' o s h
  opened_by opened.OutOfMemory now t met t' o s h = same _ t' h.1 s

  opens : (now : ℕ) (t : Turn S) (met : Met) (t' : Turn S) → t.entry.id ≡ own → P t.association → OpensEntry m now t met t' → P t'.association
  opens now t met t' o s h = opened_by h.answer now (record t { association = h.between }) met t' o (keeps.opened t.association h.between t.entry.id h.asks.result s h.asks.called) h.then

  acknowledged : (a : Asked) (label : List ℕ) (t : Turn S) (met : Met) (t' : Turn S) → t.entry.id ≡ own → P t.association → AcknowledgedBy m a label t met t' → P t'.association
  acknowledged did.Done label t met t' o s h = same _ t' h.1 s
  acknowledged did.Refused label t met t' o s h = closes t met t' o s h
  acknowledged did.OutOfMemory label t met t' o s h = same _ t' h.1 s

  acknowledges : (label : List ℕ) (t : Turn S) (met : Met) (t' : Turn S) → t.entry.id ≡ own → P t.association → Acknowledges m label t met t' → P t'.association
  acknowledges label t met t' o s h = acknowledged h.answer label (record t { association = h.between }) met t' o (keeps.wrote t.association h.between t.entry.id ppi.Dcep _ h.asks.result o s h.asks.called) h.then

  taken_up : (a : Asked) (label : List ℕ) (t : Turn S) (met : Met) (t' : Turn S) → t.entry.id ≡ own → P t.association → TakenUpBy m a label t met t' → P t'.association
  taken_up did.Done label t met t' o s h = acknowledges label t met t' o s h
  taken_up did.Refused label t met t' o s h = same _ t' h.1 s
  taken_up did.OutOfMemory label t met t' o s h = same _ t' h.1 s

  takes_up : (label : List ℕ) (t : Turn S) (met : Met) (t' : Turn S) → t.entry.id ≡ own → P t.association → TakesUp m label t met t' → P t'.association
  takes_up label t met t' o s h = taken_up h.answer label (record t { association = h.between }) met t' o (keeps.reliability t.association h.between t.entry.id _ _ _ h.asks.result s h.asks.called) h.then

  taken_as : (r : ReadMessage) (t : Turn S) (met : Met) (t' : Turn S) → t.entry.id ≡ own → P t.association → TakenAs m r t met t' → P t'.association
  taken_as (read.Open label config) t met t' o s h = takes_up label (record t { entry = record t.entry { config = given_config t.entry.config config } }) met t' o s h
  taken_as read.Malformed t met t' o s h = same _ t' h.1 s
  taken_as read.OutOfMemory t met t' o s h = same _ t' h.1 s

  dcep : (st : StreamEntryState) (bytes : List ℕ) (t : Turn S) (met : Met) (t' : Turn S) → t.entry.id ≡ own → P t.association → TakesDcep m st bytes t met t' → P t'.association
  dcep AwaitConfig bytes t met t' o s h = taken_as h.message t met t' o s h.then
  dcep AwaitDcepAck bytes t met t' o s h = same _ t' h.1 s
  dcep AwaitOpen bytes t met t' o s h = same _ t' h.1 s
  dcep Open bytes t met t' o s h = same _ t' h.1 s
  dcep Closed bytes t met t' o s h = same _ t' h.1 s

  message : (i : Ppi) (bytes : List ℕ) (t : Turn S) (met : Met) (t' : Turn S) → t.entry.id ≡ own → P t.association → TakesStreamMessage m i bytes t met t' → P t'.association
  message ppi.Dcep bytes t met t' o s h = dcep t.entry.state bytes t met t' o s h
  message ppi.Text bytes t met t' o s h = same _ t' h.1 s
  message ppi.Binary bytes t met t' o s h = same _ t' h.1 s
  message ppi.EmptyText bytes t met t' o s h = same _ t' h.1 s
  message ppi.EmptyBinary bytes t met t' o s h = same _ t' h.1 s
  message (ppi.Other n) bytes t met t' o s h = same _ t' h.1 s

  read_by : (a : Heard) (t : Turn S) (met : Met) (t' : Turn S) → t.entry.id ≡ own → P t.association → ReadBy m a t met t' → P t'.association
  read_by heard.Nothing t met t' o s h = same _ t' h.1 s
  read_by (heard.Message i bytes) t met t' o s h = message i bytes t met t' o s h
  read_by heard.Refused t met t' o s h = same _ t' h.1 s
  read_by heard.OutOfMemory t met t' o s h = same _ t' h.1 s

  reads : (t : Turn S) (met : Met) (t' : Turn S) → t.entry.id ≡ own → P t.association → ReadsEntry m t met t' → P t'.association
  reads t met t' o s h = read_by h.answer (record t { association = h.between }) met t' o (keeps.read t.association h.between t.entry.id h.asks.result s h.asks.called) h.then

  may_read : (t : Turn S) (met : Met) (t' : Turn S) → t.entry.id ≡ own → P t.association → MayRead m t met t' → P t'.association
  may_read t met t' o s (IsRead h) = reads t met t' o s h
  may_read t met t' o s (NothingUnread unread e f) = same _ t' f s

  handed : (a : Asked) (n : ℕ) (t : Turn S) (met : Met) (t' : Turn S) → t.entry.id ≡ own → P t.association → HandedBy m a n t met t' → P t'.association
  handed did.Done n t met t' o s h = same _ t' h.1 s
  handed did.Refused n t met t' o s h = same _ t' h.1 s
  handed did.OutOfMemory n t met t' o s h = same _ t' h.1 s

  attends_by : (b : BufferedThresholdConfig) (t : Turn S) (met : Met) (t' : Turn S) → t.entry.id ≡ own → P t.association → AttendsBy m b t met t' → P t'.association
  attends_by (Desired n) t met t' o s h = handed h.answer n (record t { association = h.between }) met t' o (keeps.threshold t.association h.between t.entry.id n h.asks.result s h.asks.called) h.then
  attends_by Unconfigured t met t' o s h = may_read t met t' o s h
  attends_by (Configured n) t met t' o s h = may_read t met t' o s h

  attends_if : (b c : Bool) (t : Turn S) (met : Met) (t' : Turn S) → t.entry.id ≡ own → P t.association → AttendsIf m b c t met t' → P t'.association
  attends_if true c t met t' o s h = closes t met t' o s h
  attends_if false false t met t' o s h = same _ t' h.1 s
  attends_if false true t met t' o s h = attends_by t.entry.threshold t met t' o s h

  visits_in : (st : StreamEntryState) (now : ℕ) (t : Turn S) (met : Met) (t' : Turn S) → t.entry.id ≡ own → P t.association → VisitsIn m st now t met t' → P t'.association
  visits_in AwaitOpen now t met t' o s h = opens now t met t' o s h
  visits_in AwaitConfig now t met t' o s h = attends_if t.entry.marked (is_entry_there m t.association t.entry) t met t' o s h
  visits_in AwaitDcepAck now t met t' o s h = attends_if t.entry.marked (is_entry_there m t.association t.entry) t met t' o s h
  visits_in Open now t met t' o s h = attends_if t.entry.marked (is_entry_there m t.association t.entry) t met t' o s h
  visits_in Closed now t met t' o s h = same _ t' h.1 s

  pub visits_keep : (now : ℕ) (t : Turn S) (met : Met) (t' : Turn S) → t.entry.id ≡ own → P t.association → Visits m now t met t' → P t'.association
  visits_keep now t met t' o s h = visits_in t.entry.state now t met t' o s h
