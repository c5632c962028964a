-- What a visit of a stream does to the association.
use Rattle.std.proofs.Common.{◌≡◌, ℕ, Bool, true, false, List, [], ◌∷◌, ◌++◌, append-nil, Option, Some, None, Result, Ok, Err, refl, sym, ap, subst, ◌∙◌}
use Rattle.rtc_parts.specs.declared.assoc_error.AssocError.{AssocError}
use Rattle.rtc_parts.specs.declared.assoc_error.AssocError.TheVariants.{StreamExists, ResetPending, NoStream, TooLong, Closing, Fault, Alloc}
use Rattle.rtc_parts.specs.declared.ppi.Ppi.{Ppi}
use Rattle.rtc_parts.specs.declared.ppi.Ppi.TheVariants as ppi
use Rattle.rtc_parts.specs.AssociationMeaning.{AssociationMeaning}
use Rattle.rtc_parts.specs.AssociationLaws.{AssociationLaws}
use Rattle.rtc_sctp_entries.specs.declared.asked.Asked.{Asked}
use Rattle.rtc_sctp_entries.specs.declared.asked.Asked.TheVariants as did
use Rattle.rtc_sctp_entries.specs.declared.opening.Opening.{Opening}
use Rattle.rtc_sctp_entries.specs.declared.opening.Opening.TheVariants as opened
use Rattle.rtc_sctp_entries.specs.declared.heard.Heard.{Heard}
use Rattle.rtc_sctp_entries.specs.declared.read_message.ReadMessage.{ReadMessage}
use Rattle.rtc_sctp_entries.specs.declared.read_message.ReadMessage.TheVariants as read
use Rattle.rtc_sctp_entries.specs.declared.buffered_threshold_config.BufferedThresholdConfig.{BufferedThresholdConfig}
use Rattle.rtc_sctp_entries.specs.declared.buffered_threshold_config.BufferedThresholdConfig.TheVariants.{Unconfigured, Desired, Configured}
use Rattle.rtc_sctp_entries.specs.declared.stream_entry_state.StreamEntryState.{StreamEntryState}
use Rattle.rtc_sctp_entries.specs.declared.stream_entry_state.StreamEntryState.TheVariants.{AwaitOpen, AwaitConfig, AwaitDcepAck, Open, Closed}
use Rattle.rtc_sctp_entries.specs.declared.sctp_event.SctpEvent.{SctpEvent}
use Rattle.rtc_sctp_entries.specs.declared.met.Met.{Met}
use Rattle.rtc_sctp_entries.specs.declared.met.Met.TheVariants.{Nothing, Again, Output, OutOfMemory}
use Rattle.rtc_sctp_entries.specs.Answers.{heard_of}
use Rattle.rtc_sctp_entries.specs.Entries.{is_short_entry, is_out_of_band}
use Rattle.rtc_sctp_entries.specs.Visits.{Turn, given_config, Settles, TakesAck, ForEntry, ClosedBy, Closes, NoRoom, Ended, AnnouncedBy, Announces, NoMessage, Written, AnnouncesIf, BegunAs, BegunBy, Begins, RetriedIf, RetriedAt, is_adopted, AdoptedIf, OpenedBy, OpensEntry, AcknowledgedBy, Acknowledges, TakenUpBy, TakesUp, TakenAs, TakesDcep, TakesStreamMessage, ReadBy, ReadsEntry, MayRead, IsRead, NothingUnread, HandedBy, HandsThreshold, AttendsBy, AttendsIf, is_entry_there, VisitsIn, Visits, is_opening_over}
use Rattle.rtc_sctp_laws.specs.StreamMessages.{StreamMessage, stream_message, are_dcep, shown_message, shown_messages, data_met, packets_met, resets_met}
use Rattle.rtc_sctp_laws.specs.StreamActs.{AssociationDid, VisitDid}
use Rattle.rtc_sctp_laws.proofs.MessageLemmas.{dcep_join, shown-append}
use Rattle.rtc_sctp_laws.proofs.ActLemmas.{did_join, did_same, opened_did, ended_did, threshold_did, reliability_did, wrote_did, read_did, dcep_taken}

-- what is done with a message that is to be answered so: nothing further is read
record Showing {S : Type 0} (m : AssociationMeaning S) (shows : List SctpEvent) (a : S) (met : Met) (b : S) : Type 0 where
  wrote : List StreamMessage
  did : AssociationDid m [] [] [] wrote [] a b
  dcep : are_dcep wrote ≡ true
  sent_is : packets_met met ≡ []
  reset_is : resets_met met ≡ []
  shown_is : data_met met ≡ shows

module _ {S : Type 0} (m : AssociationMeaning S) (w : AssociationLaws m) where
  -- the last step, after which the association is as it was
  still : (shows : List SctpEvent) (r : Met) (u : Turn S) (met : Met) (t' : Turn S) (a : S) → met ≡ r → t' ≡ u → u.association ≡ a → packets_met r ≡ [] → resets_met r ≡ [] → data_met r ≡ shows → Showing m shows a met t'.association
  still shows r u met t' a e f same sent reset shown = record {
    wrote = [];
    did = did_same m a t'.association (ap (λ (x : Turn S). x.association) f ∙ same);
    dcep = refl;
    sent_is = ap packets_met e ∙ sent;
    reset_is = ap resets_met e ∙ reset;
    shown_is = ap data_met e ∙ shown;
  }

  -- a step of the association, and what follows
  behind : (shows : List SctpEvent) (wrote : List StreamMessage) (a b : S) (met : Met) (c : S) → AssociationDid m [] [] [] wrote [] a b → are_dcep wrote ≡ true → Showing m shows b met c → Showing m shows a met c
  behind shows wrote a b met c d k s = record {
    wrote = wrote ++ s.wrote;
    did = did_join m [] [] [] [] [] [] wrote s.wrote [] [] a b c d s.did;
    dcep = dcep_join wrote s.wrote k s.dcep;
    sent_is = s.sent_is;
    reset_is = s.reset_is;
    shown_is = s.shown_is;
  }

  closed_by : (a : Asked) (t : Turn S) (met : Met) (t' : Turn S) → ClosedBy m a t met t' → Showing m [] t.association met t'.association
  closed_by did.Done t met t' h = still [] _ _ met t' t.association h.0 h.1 refl refl refl refl
  closed_by did.Refused t met t' h = still [] _ _ met t' t.association h.0 h.1 refl refl refl refl
  closed_by did.OutOfMemory t met t' h = still [] _ _ met t' t.association h.0 h.1 refl refl refl refl

  closes : (t : Turn S) (met : Met) (t' : Turn S) → Closes m t met t' → Showing m [] t.association met t'.association
  closes t met t' (NoRoom h) = still [] _ _ met t' t.association h.0 h.1 refl refl refl refl
  closes t met t' (Ended a q k h) =
      behind [] [] t.association q met t'.association (ended_did m t.association q t.entry.id k.result k.called) refl (closed_by a (record t { association = q }) met t' h)

  announced : (a : Asked) (t : Turn S) (met : Met) (t' : Turn S) → AnnouncedBy m a t met t' → Showing m [] t.association met t'.association
  announced did.Done t met t' h = still [] _ _ met t' t.association h.0 h.1 refl refl refl refl
  announced did.Refused t met t' h = closes t met t' h
  announced did.OutOfMemory t met t' h = still [] _ _ met t' t.association h.0 h.1 refl refl refl refl

  announces : (t : Turn S) (met : Met) (t' : Turn S) → Announces m t met t' → Showing m [] t.association met t'.association
  announces t met t' (NoMessage h) = still [] _ _ met t' t.association h.0 h.1 refl refl refl refl
  announces t met t' (Written a q k h) =
      behind [] _ t.association q met t'.association (wrote_did m t.association q t.entry.id ppi.Dcep _ k.result k.called) (dcep_taken t.entry.id _ _ k.result) (announced a (record t { association = q }) met t' h)

  announces_if : (b : Bool) (t : Turn S) (met : Met) (t' : Turn S) → AnnouncesIf m b t met t' → Showing m [] t.association met t'.association
  announces_if true t met t' h = announces t met t' h
  announces_if false t met t' h = closes t met t' h

  settles : (t : Turn S) (met : Met) (t' : Turn S) → ForEntry Settles t met t' → Showing m [] t.association met t'.association
  settles t Nothing t' h = absurd h.0
  settles t Again t' h = absurd h.0
  settles t (Output o) t' h = still [] _ _ (Output o) t' t.association (ap (λ (x : SctpEvent). Output x) h.0.0) h.1 refl refl refl refl
  settles t OutOfMemory t' h = still [] OutOfMemory _ OutOfMemory t' t.association refl h.1 refl refl refl refl

  begun_as : (b : Bool) (t : Turn S) (met : Met) (t' : Turn S) → BegunAs m b t met t' → Showing m [] t.association met t'.association
  begun_as true t met t' h = settles t met t' h
  begun_as false t met t' h = announces_if (is_short_entry t.entry) t met t' h

  begun : (a : Asked) (t : Turn S) (met : Met) (t' : Turn S) → BegunBy m a t met t' → Showing m [] t.association met t'.association
  begun did.Done t met t' h = begun_as (is_out_of_band t.entry) t met t' h
  begun did.Refused t met t' h = closes t met t' h
  begun did.OutOfMemory t met t' h = still [] _ _ met t' t.association h.0 h.1 refl refl refl refl

  begins : (t : Turn S) (met : Met) (t' : Turn S) → Begins m t met t' → Showing m [] t.association met t'.association
  begins t met t' h =
      behind [] [] t.association h.between met t'.association (reliability_did m t.association h.between t.entry.id _ _ _ h.asks.result h.asks.called) refl (begun h.answer (record t { association = h.between }) met t' h.then)

  retried_if : (b : Bool) (t : Turn S) (met : Met) (t' : Turn S) → RetriedIf m b t met t' → Showing m [] t.association met t'.association
  retried_if true t met t' h = closes t met t' h
  retried_if false t met t' h = still [] _ _ met t' t.association h.0 h.1 refl refl refl refl

  retried : (now : ℕ) (o : Option ℕ) (t : Turn S) (met : Met) (t' : Turn S) → RetriedAt m now o t met t' → Showing m [] t.association met t'.association
  retried now None t met t' h = still [] _ _ met t' t.association h.0 h.1 refl refl refl refl
  retried now (Some first) t met t' h = retried_if (is_opening_over first now) t met t' h

  adopted : (b : Bool) (now : ℕ) (t : Turn S) (met : Met) (t' : Turn S) → AdoptedIf m b now t met t' → Showing m [] t.association met t'.association
  adopted true now t met t' h = begins t met t' h
  adopted false now t met t' h = retried now t.entry.refused t met t' h

  opened_by : (a : Opening) (now : ℕ) (t : Turn S) (met : Met) (t' : Turn S) → OpenedBy m a now t met t' → Showing m [] t.association met t'.association
  opened_by opened.Done now t met t' h = begins t met t' h
  opened_by opened.Exists now t met t' h = adopted (is_adopted m t) now t met t' h
  opened_by opened.Pending now t met t' h = retried now t.entry.refused t met t' h
  opened_by opened.Refused now t met t' h = closes t met t' h
  opened_by opened.OutOfMemory now t met t' h = still [] _ _ met t' t.association h.0 h.1 refl refl refl refl

  opens : (now : ℕ) (t : Turn S) (met : Met) (t' : Turn S) → OpensEntry m now t met t' → Showing m [] t.association met t'.association
  opens now t met t' h =
      behind [] [] t.association h.between met t'.association (opened_did m t.association h.between t.entry.id h.asks.result h.asks.called) refl (opened_by h.answer now (record t { association = h.between }) met t' h.then)

  acknowledged : (a : Asked) (label : List ℕ) (t : Turn S) (met : Met) (t' : Turn S) → AcknowledgedBy m a label t met t' → Showing m [] t.association met t'.association
  acknowledged did.Done label t met t' h = still [] _ _ met t' t.association h.0 h.1 refl refl refl refl
  acknowledged did.Refused label t met t' h = closes t met t' h
  acknowledged did.OutOfMemory label t met t' h = still [] _ _ met t' t.association h.0 h.1 refl refl refl refl

  acknowledges : (label : List ℕ) (t : Turn S) (met : Met) (t' : Turn S) → Acknowledges m label t met t' → Showing m [] t.association met t'.association
  acknowledges label t met t' h =
      behind [] _ t.association h.between met t'.association (wrote_did m t.association h.between t.entry.id ppi.Dcep _ h.asks.result h.asks.called) (dcep_taken t.entry.id _ _ h.asks.result) (acknowledged h.answer label (record t { association = h.between }) met t' h.then)

  taken_up : (a : Asked) (label : List ℕ) (t : Turn S) (met : Met) (t' : Turn S) → TakenUpBy m a label t met t' → Showing m [] t.association met t'.association
  taken_up did.Done label t met t' h = acknowledges label t met t' h
  taken_up did.Refused label t met t' h = still [] _ _ met t' t.association h.0 h.1 refl refl refl refl
  taken_up did.OutOfMemory label t met t' h = still [] _ _ met t' t.association h.0 h.1 refl refl refl refl

  takes_up : (label : List ℕ) (t : Turn S) (met : Met) (t' : Turn S) → TakesUp m label t met t' → Showing m [] t.association met t'.association
  takes_up label t met t' h =
      behind [] [] t.association h.between met t'.association (reliability_did m t.association h.between t.entry.id _ _ _ h.asks.result h.asks.called) refl (taken_up h.answer label (record t { association = h.between }) met t' h.then)

  taken_as : (r : ReadMessage) (t : Turn S) (met : Met) (t' : Turn S) → TakenAs m r t met t' → Showing m [] t.association met t'.association
  taken_as (read.Open label config) t met t' h = takes_up label (record t { entry = record t.entry { config = given_config t.entry.config config } }) met t' h
  taken_as read.Malformed t met t' h = still [] _ _ met t' t.association h.0 h.1 refl refl refl refl
  taken_as read.OutOfMemory t met t' h = still [] _ _ met t' t.association h.0 h.1 refl refl refl refl

  acked : (bytes : List ℕ) (t : Turn S) (met : Met) (t' : Turn S) → ForEntry (TakesAck bytes) t met t' → Showing m [] t.association met t'.association
  acked bytes t Nothing t' h = absurd h.0
  acked bytes t Again t' h = still [] Again _ Again t' t.association refl h.1 refl refl refl refl
  acked bytes t (Output o) t' h = settles t (Output o) t' (h.0.1, h.1)
  acked bytes t OutOfMemory t' h = still [] OutOfMemory _ OutOfMemory t' t.association refl h.1 refl refl refl refl

  dcep : (st : StreamEntryState) (bytes : List ℕ) (t : Turn S) (met : Met) (t' : Turn S) → TakesDcep m st bytes t met t' → Showing m [] t.association met t'.association
  dcep AwaitConfig bytes t met t' h = taken_as h.message t met t' h.then
  dcep AwaitDcepAck bytes t met t' h = acked bytes t met t' h
  dcep AwaitOpen bytes t met t' h = still [] _ _ met t' t.association h.0 h.1 refl refl refl refl
  dcep Open bytes t met t' h = still [] _ _ met t' t.association h.0 h.1 refl refl refl refl
  dcep Closed bytes t met t' h = still [] _ _ met t' t.association h.0 h.1 refl refl refl refl

  message : (i : Ppi) (bytes : List ℕ) (t : Turn S) (met : Met) (t' : Turn S) → TakesStreamMessage m i bytes t met t' → Showing m (shown_message t.entry.id i bytes) t.association met t'.association
  message ppi.Dcep bytes t met t' h = dcep t.entry.state bytes t met t' h
  message ppi.Text bytes t met t' h = still _ _ _ met t' t.association h.0 h.1 refl refl refl refl
  message ppi.Binary bytes t met t' h = still _ _ _ met t' t.association h.0 h.1 refl refl refl refl
  message ppi.EmptyText bytes t met t' h = still _ _ _ met t' t.association h.0 h.1 refl refl refl refl
  message ppi.EmptyBinary bytes t met t' h = still _ _ _ met t' t.association h.0 h.1 refl refl refl refl
  message (ppi.Other n) bytes t met t' h = still [] _ _ met t' t.association h.0 h.1 refl refl refl refl

  -- nothing is read
  unheard : (a : S) (met : Met) (b : S) → Showing m [] a met b → VisitDid m a met b
  unheard a met b s = record { wrote = s.wrote; heard = []; did = s.did; dcep = s.dcep; sent_is = s.sent_is; reset_is = s.reset_is; shown_is = s.shown_is }

  -- what is read, and what is done with it
  hears : (heard : List StreamMessage) (a b : S) (met : Met) (c : S) → AssociationDid m [] [] [] [] heard a b → Showing m (shown_messages heard) b met c → VisitDid m a met c
  hears heard a b met c d s = record {
    wrote = s.wrote;
    heard = heard;
    did =
        let joined = did_join m [] [] [] [] [] [] [] s.wrote heard [] a b c d s.did in
        subst (λ (l : List StreamMessage). AssociationDid m [] [] [] s.wrote l a c) (append-nil heard) joined;
    dcep = s.dcep;
    sent_is = s.sent_is;
    reset_is = s.reset_is;
    shown_is = s.shown_is;
  }

  read_by : (r : Result (Option (Ppi × List ℕ)) AssocError) (t : Turn S) (q : S) (met : Met) (t' : Turn S) → m.read t.association t.entry.id r q → ReadBy m (heard_of r) (record t { association = q }) met t' → VisitDid m t.association met t'.association
  read_by (Ok None) t q met t' k h = hears [] t.association q met t'.association (read_did m w t.association q t.entry.id (Ok None) k) (still [] _ _ met t' q h.0 h.1 refl refl refl refl)
  read_by (Ok (Some x)) t q met t' k h =
      let shows = shown_message t.entry.id x.0 x.1 in
      let done = message x.0 x.1 (record t { association = q }) met t' h in
      hears (stream_message t.entry.id (m.generation t.association t.entry.id) x.0 x.1 ∷ []) t.association q met t'.association (read_did m w t.association q t.entry.id (Ok (Some x)) k)
      (subst (λ (l : List SctpEvent). Showing m l q met t'.association) (sym (append-nil shows)) done)
  read_by (Err StreamExists) t q met t' k h = hears [] t.association q met t'.association (read_did m w t.association q t.entry.id _ k) (still [] _ _ met t' q h.0 h.1 refl refl refl refl)
  read_by (Err ResetPending) t q met t' k h = hears [] t.association q met t'.association (read_did m w t.association q t.entry.id _ k) (still [] _ _ met t' q h.0 h.1 refl refl refl refl)
  read_by (Err NoStream) t q met t' k h = hears [] t.association q met t'.association (read_did m w t.association q t.entry.id _ k) (still [] _ _ met t' q h.0 h.1 refl refl refl refl)
  read_by (Err TooLong) t q met t' k h = hears [] t.association q met t'.association (read_did m w t.association q t.entry.id _ k) (still [] _ _ met t' q h.0 h.1 refl refl refl refl)
  read_by (Err Closing) t q met t' k h = hears [] t.association q met t'.association (read_did m w t.association q t.entry.id _ k) (still [] _ _ met t' q h.0 h.1 refl refl refl refl)
  read_by (Err Fault) t q met t' k h = hears [] t.association q met t'.association (read_did m w t.association q t.entry.id _ k) (still [] _ _ met t' q h.0 h.1 refl refl refl refl)
  read_by (Err Alloc) t q met t' k h = hears [] t.association q met t'.association (read_did m w t.association q t.entry.id _ k) (still [] _ _ met t' q h.0 h.1 refl refl refl refl)

  reads : (t : Turn S) (met : Met) (t' : Turn S) → ReadsEntry m t met t' → VisitDid m t.association met t'.association
  reads t met t' h =
      read_by h.asks.result t h.between met t' h.asks.called
      (subst (λ (x : Heard). ReadBy m x (record t { association = h.between }) met t') (sym h.asks.is) h.then)

  may_read : (t : Turn S) (met : Met) (t' : Turn S) → MayRead m t met t' → VisitDid m t.association met t'.association
  may_read t met t' (IsRead h) = reads t met t' h
  may_read t met t' (NothingUnread unread e f) = unheard t.association met t'.association (still [] _ _ met t' t.association e f refl refl refl refl)

  handed : (a : Asked) (n : ℕ) (t : Turn S) (met : Met) (t' : Turn S) → HandedBy m a n t met t' → Showing m [] t.association met t'.association
  handed did.Done n t met t' h = still [] _ _ met t' t.association h.0 h.1 refl refl refl refl
  handed did.Refused n t met t' h = still [] _ _ met t' t.association h.0 h.1 refl refl refl refl
  handed did.OutOfMemory n t met t' h = still [] _ _ met t' t.association h.0 h.1 refl refl refl refl

  hands : (n : ℕ) (t : Turn S) (met : Met) (t' : Turn S) → HandsThreshold m n t met t' → Showing m [] t.association met t'.association
  hands n t met t' h =
      behind [] [] t.association h.between met t'.association (threshold_did m t.association h.between t.entry.id n h.asks.result h.asks.called) refl (handed h.answer n (record t { association = h.between }) met t' h.then)

  attends_by : (b : BufferedThresholdConfig) (t : Turn S) (met : Met) (t' : Turn S) → AttendsBy m b t met t' → VisitDid m t.association met t'.association
  attends_by (Desired n) t met t' h = unheard t.association met t'.association (hands n t met t' h)
  attends_by Unconfigured t met t' h = may_read t met t' h
  attends_by (Configured n) t met t' h = may_read t met t' h

  attends_if : (b c : Bool) (t : Turn S) (met : Met) (t' : Turn S) → AttendsIf m b c t met t' → VisitDid m t.association met t'.association
  attends_if true c t met t' h = unheard t.association met t'.association (closes t met t' h)
  attends_if false false t met t' h = unheard t.association met t'.association (still [] _ _ met t' t.association h.0 h.1 refl refl refl refl)
  attends_if false true t met t' h = attends_by t.entry.threshold t met t' h

  visits_in : (st : StreamEntryState) (now : ℕ) (t : Turn S) (met : Met) (t' : Turn S) → VisitsIn m st now t met t' → VisitDid m t.association met t'.association
  visits_in AwaitOpen now t met t' h = unheard t.association met t'.association (opens now t met t' h)
  visits_in AwaitConfig now t met t' h = attends_if t.entry.marked (is_entry_there m t.association t.entry) t met t' h
  visits_in AwaitDcepAck now t met t' h = attends_if t.entry.marked (is_entry_there m t.association t.entry) t met t' h
  visits_in Open now t met t' h = attends_if t.entry.marked (is_entry_there m t.association t.entry) t met t' h
  visits_in Closed now t met t' h = unheard t.association met t'.association (still [] _ _ met t' t.association h.0 h.1 refl refl refl refl)

  pub visit_did : (now : ℕ) (t : Turn S) (met : Met) (t' : Turn S) → Visits m now t met t' → VisitDid m t.association met t'.association
  visit_did now t met t' h = visits_in t.entry.state now t met t' h

  -- nothing was done
  pub visit_none : (a : S) (met : Met) (b : S) → met ≡ Nothing → b ≡ a → VisitDid m a met b
  visit_none a met b e f = record { wrote = []; heard = []; did = did_same m a b f; dcep = refl; sent_is = ap packets_met e; reset_is = ap resets_met e; shown_is = ap data_met e }

  -- a visit that gave nothing, and what follows
  pub visit_join : (a b : S) (met : Met) (c : S) → VisitDid m a Nothing b → VisitDid m b met c → VisitDid m a met c
  visit_join a b met c u v = record {
    wrote = u.wrote ++ v.wrote;
    heard = u.heard ++ v.heard;
    did = did_join m [] [] [] [] [] [] u.wrote v.wrote u.heard v.heard a b c u.did v.did;
    dcep = dcep_join u.wrote v.wrote u.dcep v.dcep;
    sent_is = v.sent_is;
    reset_is = v.reset_is;
    shown_is = v.shown_is ∙ ap (λ l. l ++ shown_messages v.heard) u.shown_is ∙ sym (shown-append u.heard v.heard);
  }
